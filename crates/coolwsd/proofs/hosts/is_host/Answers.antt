use Rattle.std.specs.Prelude.{string_bytes}
use Rattle.coolwsd.proofs.FirstWord.{first_word}
use Rattle.coolwsd.proofs.hosts.is_host.Goals as goal

pub returns-in-len1-up : goal.returns-in-len1-up
returns-in-len1-up c = first_word string_bytes _ _ _ _ c.in-len1-up.len_at_least c.first-item.is c.as_str.ensures.value c.eq.ensures
