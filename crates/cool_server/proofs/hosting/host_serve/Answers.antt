use Rattle.cool_server.specs.Hosting.{Said}
use Rattle.cool_server.proofs.hosting.host_serve.Goals as goal

pub returns-in-Ok-clause-served : goal.returns-in-Ok-clause-served
returns-in-Ok-clause-served g c = Said _ c.in-Ok.ensures.said c.serve_words.ensures.served
