use Rattle.std.proofs.Common.{ap, ◌∙◌}
use Rattle.http_message.specs.declared.Request.{Request}
use Rattle.outside.specs.Wires.{with_sent, silence}
use Rattle.http_write.specs.Texts.{request_bytes}
use Rattle.host_store.specs.Exchanges.{host_name}
use Rattle.host_store.proofs.Carried.{sent_of}
use Rattle.host_store.proofs.carry.send_request.Goals as goal

pub returns-in-Ok-write_request-clause-sent : goal.returns-in-Ok-write_request-clause-sent
returns-in-Ok-write_request-clause-sent c =
    sent_of _ _ _ c.requires c.in-Ok-write_request.ensures.writes
    ∙ ap (λ (r : Request). with_sent (request_bytes host_name r) silence) c.in-Ok.ensures
