use Rattle.std.proofs.Common.{◌≡◌, ◌∙◌, ap, sym}
use Rattle.wopi_host.specs.Targets.{Nothing, named_at, path_of, named_view}
use Rattle.wopi_host.proofs.Answered.{nothing_at}
use Rattle.wopi_host.proofs.Statuses.{if_ok_ordinary}
use Rattle.wopi_host.proofs.hosts.Host.answer_request.Goals as goal

pub returns-in-Nothing-clause-ok : goal.returns-in-Nothing-clause-ok
returns-in-Nothing-clause-ok g c =
    let nothing : named_at (path_of c.args.request.now.target) ≡ Nothing =
    ap (λ t. named_at (path_of t)) (sym (c.as_bytes-target.ensures.value ∙ c.get.ensures)) ∙ sym c.resource_of.ensures ∙ ap named_view c.in-Nothing.is in
    nothing_at _ _ _ _ _ _ nothing c.bare_response.ensures

pub returns-clause-ordinary : goal.returns-clause-ordinary
returns-clause-ordinary g c = if_ok_ordinary _ _ _ _ _ c.answer_at.ensures.ok
