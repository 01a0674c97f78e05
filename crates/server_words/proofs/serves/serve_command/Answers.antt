use Rattle.std.proofs.Common.{ap₂, ◌∙◌}
use Rattle.std.proofs.lemmas.Result.{IfOk-weaker}
use Rattle.clap.specs.Words.{with_rule}
use Rattle.server_words.proofs.serves.serve_command.Goals as goal

pub returns : goal.returns
returns c =
    IfOk-weaker c.arg-6.result _ _ (λ r h. h.shape c.optional_arg-kit.ensures.local
    ∙ ap₂ with_rule (c.in_ok-arg-5.ensures.shape c.optional_arg-sessions.ensures.local
    ∙ ap₂ with_rule (c.in_ok-arg-4.ensures.shape c.optional_arg-workers.ensures.local
    ∙ ap₂ with_rule (c.in_ok-arg-3.ensures.shape c.optional_arg-polls.ensures.local
    ∙ ap₂ with_rule (c.in_ok-arg-2.ensures.shape c.needed_arg-wopi.ensures.local
    ∙ ap₂ with_rule (c.in_ok-arg.ensures.shape c.needed_arg-port.ensures.local
    ∙ ap₂ with_rule c.new.ensures.app c.needed_arg-port.ensures.rule)
    c.needed_arg-wopi.ensures.rule) c.optional_arg-polls.ensures.rule)
    c.optional_arg-workers.ensures.rule) c.optional_arg-sessions.ensures.rule)
    c.optional_arg-kit.ensures.rule) c.arg-6.ensures
