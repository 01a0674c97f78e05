-- What the outside of a poll tells, all of it.
use Rattle.std.specs.Prelude.{ℕ, List, [], ◌∷◌, map, Option, None, Some}
use Rattle.std.specs.Option.{option_map}
use Rattle.cool_base.specs.declared.ids.DocId.{DocId}
use Rattle.document_machine.specs.Held.{Held}
use Rattle.kit_trait.specs.declared.jobs.PaintJob.{PaintJob}
use Rattle.hall_machine.specs.declared.words.Label.{Label}
use Rattle.net_traits.specs.Nets.{NetTold}
use Rattle.outside.specs.Stores.{StoreCall}
use Rattle.poll_hall.specs.Ports.{PortView}
use Rattle.poll_instance.specs.Instance.{Painting}
use Rattle.poll_machine.specs.Words as word
use Rattle.poll_machine.specs.Agenda.{HeldDocument, Todo, Do}
use Rattle.poll_machine.specs.House.{Parcel, Mail, Join, Answered as MailAnswered, Move}
use Rattle.poll_machine.specs.Told.{Heard}
use Rattle.poll_documents.specs.declared.parcels.Letter.{Letter}
use Rattle.poll_documents.specs.declared.parcels.Letter.TheVariants as letter
use Rattle.yard_traits.specs.declared.works.Answered.{Answered}
use Rattle.yard_traits.specs.declared.works.Answered.TheVariants as answer
use Rattle.yard_traits.specs.declared.works.Work.{Work}
use Rattle.yard_traits.specs.declared.works.Work.TheVariants as work

-- a work, as a poll knows it
abbrev pub work_in : {S : Type 0} → Work S → word.Work (PaintJob S)
work_in (work.Paint job) = word.Paint job
work_in (work.Put errand) = word.Put errand

-- the works that a yard took, as a poll knows them
abbrev pub works_told : {S : Type 0} → Option (List (DocId × Work S))
    → Option (List (ℕ × word.Work (PaintJob S)))
works_told took = option_map (λ works. map (λ p. (p.0.0, work_in p.1)) works) took

-- what comes back of a work, as a poll knows it, where this is what painting gave
abbrev pub answer_in : {D P : Type 0} → (D → P) → Answered D → word.Answer P
answer_in painting (answer.Painted done) = word.PaintDone (painting done)
answer_in painting (answer.PutDone ticket result) = word.PutDone ticket.0 result

-- what the outside tells: the net, the port, the store, the clock, and the yard
abbrev pub outside : {D S L : Type 0} → Option NetTold
    → PortView (Parcel D L) (Mail (Painting S) L) → Option (List StoreCall) → Option (List ℕ)
    → Option (List (DocId × Work S)) → Heard D (PaintJob S) (Painting S) L
outside net port store clock yard = record {
  net = net;
  port = port;
  store = store;
  clock = clock;
  yard = works_told yard;
}

-- the same with another history of the net
abbrev pub with_net : {D J P L : Type 0} → Heard D J P L → Option NetTold → Heard D J P L
with_net heard net = record heard { net = net }

-- the same with another history of the store
abbrev pub with_store : {D J P L : Type 0} → Heard D J P L → Option (List StoreCall)
    → Heard D J P L
with_store heard store = record heard { store = store }

-- what the outside tells of a poll whose documents have brokers with such scenes
abbrev pub BrokersHeard : Type 0 → Type 0 → Type 0
BrokersHeard S L = Heard (Option (Held S)) (PaintJob S) (Painting S) L

-- such a document, as a poll holds it
abbrev pub BrokerHeld : Type 0 → Type 0 → Type 0
BrokerHeld S L = HeldDocument (Option (Held S)) (PaintJob S) (Painting S) L

-- what is owed for a work that the yard didn't take, if any
abbrev pub to_do : {S : Type 0} → Option (Work S) → List (Todo (PaintJob S) (Painting S))
to_do None = []
to_do (Some given) = Do (work_in given) ∷ []

-- a letter, as a poll knows it
abbrev pub letter_in : {D P L : Type 0} → (D → P) → Letter D L → Mail P L
letter_in painting (letter.Join id link rights) = Join id.0 link rights
letter_in painting (letter.Answered answer) = MailAnswered (answer_in painting answer)
letter_in painting (letter.Move to) = Move to

-- the label of a mail that brings a painting or what a store answered
abbrev pub mail_label : {S L : Type 0} → Mail (Painting S) L → Label
mail_label (Join link carried rights) = record { kind = 0; number = link }
mail_label (MailAnswered (word.PaintDone result)) = record { kind = 1; number = result.ticket }
mail_label (MailAnswered (word.PutDone ticket answer)) = record { kind = 2; number = ticket }
mail_label (Move to) = record { kind = 3; number = to }

-- the same with another view of the port
abbrev pub with_port : {D J P L : Type 0} → Heard D J P L → PortView (Parcel D L) (Mail P L)
    → Heard D J P L
with_port heard port = record heard { port = port }
