use Rattle.std.proofs.Common.{sym, ◌∙◌}
use Rattle.http_head.proofs.RequestHeads.{is_none}
use Rattle.http_head.proofs.requests.open.Goals as goal

pub returns-else-is_request_fine : goal.returns-else-is_request_fine
returns-else-is_request_fine c =
    is_none c.args.bytes.now c.requires.not_whole c.requires.may (sym c.is_request_fine.ensures ∙ c.if-is_request_fine.false)
