-- The book: what each call writes, the state that a book reaches, and the histories that the
-- machine can make.
use Rattle.std.specs.Prelude.{◌≡◌, ℕ, ◌+◌, ◌<◌, nat_lt, Option, None, Some, Result, Ok, Err, List}
use Rattle.std.specs.Prelude.{[], ◌∷◌, ◌++◌, drop, slice_set, if◌then◌else◌}
use Rattle.std.specs.List.{remove}
use Rattle.hall_machine.specs.declared.words.Ground.{Ground}
use Rattle.hall_machine.specs.declared.words.HallAct.{HallAct}
use Rattle.hall_machine.specs.declared.words.HallAct.TheVariants.{Enter, Post, Collect, Depart}
use Rattle.hall_machine.specs.declared.words.HallAct.TheVariants.{Arrive, Close}
use Rattle.hall_machine.specs.declared.words.Entry.{Entry}
use Rattle.hall_machine.specs.declared.words.Entered.{Entered}
use Rattle.hall_machine.specs.declared.words.Entered.TheVariants.{There, Fresh}
use Rattle.hall_machine.specs.Machine.{at, bound, Desk, Stage, empty, place_of, desk_at}
use Rattle.hall_machine.specs.Machine.{enter_answer, post_answer, depart_answer, collect_answer}
use Rattle.hall_machine.specs.Machine.{close_answer, arrive_answer}

-- What each act does to a state

-- a new document of this file, which its poll owns
abbrev pub opened : ℕ → List ℕ → Stage → Stage
opened who file s = record {
  next = s.next + 1;
  desks = s.desks
      ++ record { doc = s.next; file = file; holder = at who; mails = [] } ∷ [];
  entries = s.entries + 1;
}

-- another desk at one place
abbrev pub with_desk : ℕ → Desk → Stage → Stage
with_desk i x s = record s { desks = slice_set s.desks i x; entries = s.entries + 1 }

-- what an act does to the desk of its document: a post puts its label behind the others, a collect
-- takes the oldest, a departing document is bound for its target, and one that arrives is the
-- caller's
abbrev pub desk_after : ℕ → HallAct → Desk → Desk
desk_after who (Enter file) x = x
desk_after who (Post label urgent) x = record x { mails = x.mails ++ label ∷ [] }
desk_after who (Collect n) x = record x { mails = drop n x.mails }
desk_after who (Depart to) x = record x { holder = bound to }
desk_after who Arrive x = record x { holder = at who }
desk_after who Close x = x

-- a closed document is open no more
abbrev pub closed : ℕ → Stage → Stage
closed i s = record s { desks = remove s.desks i; entries = s.entries + 1 }

abbrev pub after_at : ℕ → HallAct → Option ℕ → Stage → Stage
after_at who act None s = s
after_at who (Enter file) (Some i) s = s
after_at who (Post label urgent) (Some i) s = with_desk i
    (desk_after who (Post label urgent) (desk_at s.desks i)) s
after_at who (Collect n) (Some i) s = with_desk i (desk_after who (Collect n) (desk_at s.desks i)) s
after_at who (Depart to) (Some i) s = with_desk i (desk_after who (Depart to) (desk_at s.desks i)) s
after_at who Arrive (Some i) s = with_desk i (desk_after who Arrive (desk_at s.desks i)) s
after_at who Close (Some i) s = closed i s

-- the state after an entry
abbrev pub after_act : ℕ → ℕ → HallAct → Stage → Stage
after_act who doc (Enter file) s = opened who file s
after_act who doc (Post label urgent) s = after_at who (Post label urgent) (place_of doc s.desks) s
after_act who doc (Collect n) s = after_at who (Collect n) (place_of doc s.desks) s
after_act who doc (Depart to) s = after_at who (Depart to) (place_of doc s.desks) s
after_act who doc Arrive s = after_at who Arrive (place_of doc s.desks) s
after_act who doc Close s = after_at who Close (place_of doc s.desks) s

abbrev pub after : Entry → Stage → Stage
after e s = after_act e.who e.doc e.act s

-- the state that a book reaches from this one
abbrev pub run : Stage → List Entry → Stage
run s [] = s
run s (e ∷ es) = run (after e s) es

-- the state that a book reaches
abbrev pub stage_of : List Entry → Stage
stage_of book = run empty book

-- an entry is one that the machine makes in a state: its answer is the machine's, and it changes
-- something
abbrev pub IsMade : Ground → Stage → ℕ → ℕ → HallAct → Type 0
IsMade g s who doc (Enter file) = enter_answer g s file ≡ Ok (Fresh (record { 0 = doc }))
IsMade g s who doc (Post label urgent) = post_answer g s doc urgent ≡ Ok tt
IsMade g s who doc (Collect n) = (collect_answer s who doc ≡ Ok n) × (0 < n)
IsMade g s who doc (Depart to) = (depart_answer g s who doc ≡ Ok tt) × (to < g.polls)
IsMade g s who doc Arrive = arrive_answer s who ≡ Some doc
IsMade g s who doc Close = close_answer s who doc ≡ Ok tt

-- a history is legal where each entry's answer is the machine's in the state that the entries
-- before it reach
abbrev pub IsLegalFrom : Ground → Stage → List Entry → Type 0
IsLegalFrom g s [] = Unit {0}
IsLegalFrom g s (e ∷ es) = IsMade g s e.who e.doc e.act × IsLegalFrom g (after e s) es

abbrev pub IsLegal : Ground → List Entry → Type 0
IsLegal g book = IsLegalFrom g empty book

-- the entry that a call writes
abbrev pub entry : ℕ → ℕ → HallAct → Entry
entry who doc act = record { who = who; doc = doc; act = act }

-- the book after a call that may be refused: one entry more where it isn't
abbrev pub written : {A F : Type 0} → Result A F → Entry → List Entry → List Entry
written (Ok a) e book = book ++ e ∷ []
written (Err f) e book = book

-- the book after an enter: one entry more where a document is new, with its file
abbrev pub entered : {F : Type 0} → ℕ → List ℕ → Result Entered F → List Entry → List Entry
entered who file (Ok (Fresh d)) book = book ++ entry who d.0 (Enter file) ∷ []
entered who file (Ok (There d)) book = book
entered who file (Err why) book = book

-- the book after a collect: one entry more where mails were taken
abbrev pub collected : {F : Type 0} → ℕ → ℕ → Result ℕ F → List Entry → List Entry
collected who doc (Ok n) book = if nat_lt 0 n then book ++ entry who doc (Collect n) ∷ [] else book
collected who doc (Err f) book = book

-- the book after an arrive: one entry more where a parcel was given
abbrev pub arrived : ℕ → Option ℕ → List Entry → List Entry
arrived who None book = book
arrived who (Some doc) book = book ++ entry who doc Arrive ∷ []
