use Rattle.std.proofs.Common.{refl, sym, ap, subst}
use Rattle.std.proofs.lemmas.Result.{IfOk-weaker}
use Rattle.document_machine.specs.Message.{asking_effect}
use Rattle.std.specs.Prelude.{option_map}
use Rattle.broker_core.specs.Hearing.{Hears}
use Rattle.broker_core.specs.Members.{view_of}
use Rattle.broker_core.proofs.Changes.{all_two, refuses_hears, ask_hears}
use Rattle.broker_core.proofs.members.Member.ask.Goals as goal

pub returns-in-None : goal.returns-in-None
returns-in-None c =
    IfOk-weaker c.refuse.result _ _
    (λ outcome is sizes seen. refuses_hears sizes c.args.self.now _ _ _ outcome is (ap (λ keys. asking_effect (view_of c.args.self.now) c.args.command.now keys) (ap (option_map (λ list. list.items)) (sym c.in-None.is))) seen)
    c.refuse.ensures

pub returns-in-Some : goal.returns-in-Some
returns-in-Some c =
    all_two c.outcome_of.result _ _ _ c.outcome_of.ensures.outcome c.outcome_of.ensures.memory
    (λ outcome told memory sizes seen.
    subst (λ keys. Hears sizes c.args.self.now (asking_effect (view_of c.args.self.now) c.args.command.now (option_map (λ list. list.items) keys)) outcome (record { id = c.args.self.now.id; view = c.ask-change.new.self })) (sym c.in-Some.is)
    (ask_hears sizes c.args.self.now (record { id = c.args.self.now.id; view = c.ask-change.new.self }) c.in-Some.keys.items c.ask-change.result outcome c.args.command.now refl (rw c.as_slice.ensures.value at c.ask-change.ensures.ok) (rw c.as_slice.ensures.value at c.ask-change.ensures.full) c.ask-change.ensures.not_large c.ask-change.ensures.err memory told seen))
