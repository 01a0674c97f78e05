use Rattle.std.proofs.Common.{◌≡◌, ◌∙◌, get_or, take, refl, sym, ap, arith}
use Rattle.std.proofs.lemmas.List.{take_all, take_more}
use Rattle.view_session.specs.Viewing.{processed}
use Rattle.broker_core.proofs.Changes.{acknowledge_hears, with_viewing}
use Rattle.broker_core.proofs.Windows.{without_wids, without_none, without_more}
use Rattle.broker_core.proofs.members.Member.acknowledge.Goals as goal

pub loop-wid-init : goal.loop-wid-init
loop-wid-init c = record { id = refl; view = sym (without_none c.args.self.now.view) }

-- each number more takes its tile out
pub loop-wid-preserved : goal.loop-wid-preserved
loop-wid-preserved c =
    let wids = c.args.wids.now in
    let n = c.loop-wid.wid-index in
    let wid = get_or wids n 0 in
    record {
      id = c.loop-wid.invariant.id;
      view = c.processed.ensures.processed
          ∙ ap (processed wid) c.loop-wid.invariant.view
          ∙ sym (without_more (take n wids) wid c.args.self.now.view)
          ∙ ap (λ ws. without_wids ws c.args.self.now.view) (sym (take_more wids n 0 (omega (arith, c.loop-wid-test.true))));
    }

pub returns : goal.returns
returns c = λ sizes seen.
    let wids = c.args.wids.now in
    let member = c.args.self.now in
    let all : take c.loop-wid.wid-index wids ≡ wids = take_all c.loop-wid.wid-index wids (omega (arith, c.loop-wid-test.false)) in
    let view_is = c.loop-wid.invariant.view ∙ ap (λ ws. without_wids ws member.view) all in
    let is : c.loop-wid.self ≡ with_viewing member (without_wids wids member.view) = λ i. record { id = c.loop-wid.invariant.id i; view = view_is i } in
    acknowledge_hears sizes member c.loop-wid.self wids is seen
