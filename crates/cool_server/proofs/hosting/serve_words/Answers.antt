use Rattle.std.proofs.Common.{refl}
use Rattle.cool_server.specs.Hosting.{HostOut}
use Rattle.cool_server.proofs.hosting.serve_words.Goals as goal

pub returns-in_default-clause-served : goal.returns-in_default-clause-served
returns-in_default-clause-served g c = HostOut _ refl c.in-Ok.ensures.told
