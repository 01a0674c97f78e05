use Rattle.sheet_kit.specs.SheetLaws.{read_sound, too_large}
use Rattle.sheet_kit.proofs.kit.SheetKitKit.load.Goals as goal

pub invariant_of-result : goal.invariant_of-result
invariant_of-result c = read_sound c.args.file.now c.in-Ok.book c.new.result.entries c.in-Ok.ensures.ok c.new.ensures.empty

pub returns-then-file-gt-FILE_LIMIT-clause-bad : goal.returns-then-file-gt-FILE_LIMIT-clause-bad
returns-then-file-gt-FILE_LIMIT-clause-bad c = λ bad. too_large c.args.file.now c.if-file-gt-FILE_LIMIT.true
