use Rattle.std.proofs.Common.{rules, ap₂, codes, ◌≡◌, ◌∙◌}
use Rattle.std.proofs.lemmas.Result.{IfOk-weaker}
use Rattle.clap.specs.Words.{rule_of, with_rule}
use Rattle.server_words.specs.Hosts.{needed, optional}
use Rattle.server_words.proofs.commands.host_command.Goals as goal

pub returns : goal.returns
returns c =
    let port_is : rule_of c.action-port.result ≡ needed (codes "port") = search rules in
    let folder_is : rule_of c.action-folder.result ≡ needed (codes "folder") = search rules in
    let requests_is : rule_of c.action-requests.result ≡ optional (codes "requests") = search rules in
    IfOk-weaker c.arg-3.result _ _ (λ r h. h.shape (search rules)
    ∙ ap₂ with_rule (c.in_ok-arg-2.ensures.shape (search rules)
    ∙ ap₂ with_rule (c.in_ok-arg.ensures.shape (search rules) ∙ ap₂ with_rule c.new-4.ensures.app port_is) folder_is) requests_is) c.arg-3.ensures
