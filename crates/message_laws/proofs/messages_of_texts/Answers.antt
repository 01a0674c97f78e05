use Rattle.message_laws.proofs.BoundLemmas.{bounds, text_again}
use Rattle.message_laws.proofs.messages_of_texts.Goals as goal

pub returns : goal.returns
returns c = record { bounds = bounds; text = text_again }
