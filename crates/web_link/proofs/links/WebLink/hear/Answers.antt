use Rattle.std.proofs.Common.{refl}
use Rattle.web_link.specs.Hearing.{Next, Stops}
use Rattle.web_link.specs.declared.heard.Ending.TheVariants.{Waits, Lost, Broken}
use Rattle.web_link.proofs.links.WebLink.hear.Goals as goal

pub returns-in-Ok : goal.returns-in-Ok
returns-in-Ok g c = Next c.read.new.self c.in-Ok.message c.in-Ok.ensures c.in_ok-heard-in-Ok.ensures

pub returns-in-Waits : goal.returns-in-Waits
returns-in-Waits g c = Stops c.read.new.self c.in-Err.error Waits c.in-Err.ensures c.in-Waits.ensures refl

pub returns-in-Lost : goal.returns-in-Lost
returns-in-Lost g c = Stops c.read.new.self c.in-Err.error Lost c.in-Err.ensures c.in-Lost.ensures refl

pub returns : goal.returns
returns g c =
    Stops c.read.new.self c.in-Err.error (Broken c.in-Broken.code) c.in-Err.ensures c.in-Broken.ensures refl
