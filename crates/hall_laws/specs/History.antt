-- What the entries of a history tell by themselves, without the machine.
use Rattle.std.specs.Prelude.{◌≡◌, ◌≢◌, ℕ, ◌+◌, ◌==◌, Option, None, Some, List, [], ◌∷◌, ◌++◌}
use Rattle.std.specs.Prelude.{if◌then◌else◌}
use Rattle.std.specs.Option.{option_map}
use Rattle.hall_machine.specs.declared.words.Label.{Label}
use Rattle.hall_machine.specs.declared.words.HallAct.{HallAct}
use Rattle.hall_machine.specs.declared.words.HallAct.TheVariants.{Enter, Post, Collect, Depart}
use Rattle.hall_machine.specs.declared.words.HallAct.TheVariants.{Arrive, Close}
use Rattle.hall_machine.specs.declared.words.Entry.{Entry}
use Rattle.hall_machine.specs.Machine.{Where, at, bound, Desk, Stage}

-- the open document with this id
abbrev pub desk_of : ℕ → List Desk → Option Desk
desk_of doc [] = None
desk_of doc (x ∷ xs) = if x.doc == doc then Some x else desk_of doc xs

-- who has a document in a state; nobody where it isn't open
abbrev pub place_in : ℕ → Stage → Option Where
place_in doc s = option_map (λ x. x.holder) (desk_of doc s.desks)

-- the labels of the mails that wait for a document in a state
abbrev pub mails_at : Option Desk → List Label
mails_at None = []
mails_at (Some x) = x.mails

abbrev pub mails_in : ℕ → Stage → List Label
mails_in doc s = mails_at (desk_of doc s.desks)

-- Who has a document, told by the entries: the poll that opened it or at which it arrived last, the
-- poll that it is on its way to; nobody before it was opened and after it was closed
abbrev pub turned : ℕ → HallAct → Option Where → Option Where
turned who (Enter file) w = Some (at who)
turned who (Post label urgent) w = w
turned who (Collect n) w = w
turned who (Depart to) w = Some (bound to)
turned who Arrive w = Some (at who)
turned who Close w = None

abbrev pub place_from : Option Where → ℕ → List Entry → Option Where
place_from w doc [] = w
place_from w doc (e ∷ es) = place_from (if e.doc == doc then turned e.who e.act w else w) doc es

abbrev pub place_told : ℕ → List Entry → Option Where
place_told doc book = place_from None doc book

-- what may be done by whom: a document is opened where nobody has it; its owner alone collects,
-- departs and closes; it arrives at the poll that it is on its way to; mail is posted where
-- somebody has it
abbrev pub IsAllowed : ℕ → HallAct → Option Where → Type 0
IsAllowed who (Enter file) w = w ≡ None
IsAllowed who (Post label urgent) w = w ≢ None
IsAllowed who (Collect n) w = w ≡ Some (at who)
IsAllowed who (Depart to) w = w ≡ Some (at who)
IsAllowed who Arrive w = w ≡ Some (bound who)
IsAllowed who Close w = w ≡ Some (at who)

-- The labels of the mails that were posted to a document, in order
abbrev pub label_of : HallAct → List Label
label_of (Enter file) = []
label_of (Post label urgent) = label ∷ []
label_of (Collect n) = []
label_of (Depart to) = []
label_of Arrive = []
label_of Close = []

abbrev pub posted : ℕ → List Entry → List Label
posted doc [] = []
posted doc (e ∷ es) = (if e.doc == doc then label_of e.act else []) ++ posted doc es

-- how many mails of a document were collected
abbrev pub count_of : HallAct → ℕ
count_of (Enter file) = 0
count_of (Post label urgent) = 0
count_of (Collect n) = n
count_of (Depart to) = 0
count_of Arrive = 0
count_of Close = 0

abbrev pub taken : ℕ → List Entry → ℕ
taken doc [] = 0
taken doc (e ∷ es) = (if e.doc == doc then count_of e.act else 0) + taken doc es

-- the ids that were given, in order
abbrev pub id_of : ℕ → HallAct → List ℕ
id_of doc (Enter file) = doc ∷ []
id_of doc (Post label urgent) = []
id_of doc (Collect n) = []
id_of doc (Depart to) = []
id_of doc Arrive = []
id_of doc Close = []

abbrev pub given : List Entry → List ℕ
given [] = []
given (e ∷ es) = id_of e.doc e.act ++ given es

-- the numbers from n on, one after another
abbrev pub CountUp : ℕ → List ℕ → Type 0
CountUp n [] = Unit {0}
CountUp n (x ∷ xs) = (x ≡ n) × CountUp (n + 1) xs

-- a move of a document to another poll
abbrev pub IsMove : HallAct → Type 0
IsMove (Enter file) = ⊥
IsMove (Post label urgent) = ⊥
IsMove (Collect n) = ⊥
IsMove (Depart to) = Unit {0}
IsMove Arrive = Unit {0}
IsMove Close = ⊥
