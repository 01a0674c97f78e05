use Rattle.wopi_host.proofs.FileIds.{none_of_bytes}
use Rattle.wopi_host.proofs.targets.file_in.Goals as goal

pub returns-in-Err : goal.returns-in-Err
returns-in-Err c = none_of_bytes c.args.bytes.now c.in-Err.ensures.cases.0
