use Rattle.cool_words.proofs.Letters.{command_is_utf8}
use Rattle.cool_words.proofs.commands.command_text.Goals as goal

pub returns-in-Err : goal.returns-in-Err
returns-in-Err c = absurd (c.in-Err.ensures.cases.0 (command_is_utf8 _ c.requires))
