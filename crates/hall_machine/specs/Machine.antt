-- The machine of the hall: what each call answers in a state, exactly at its numbers.
use Rattle.std.specs.Prelude.{ℕ, ◌+◌, ◌-◌, ◌≤◌, ◌<◌, Bool, true, false, ◌==◌, nat_eq, nat_lt}
use Rattle.std.specs.Prelude.{nat_le, min, Option, None, Some, Result, Ok, Err, List, [], length}
use Rattle.std.specs.Prelude.{slice_index_or, sum_by, if◌then◌else◌}
use Rattle.std.specs.List.{position, count_by}
use Rattle.std.specs.Cmp.Lexicographic.{pointwise}
use Rattle.hall_machine.specs.declared.words.Label.{Label}
use Rattle.hall_machine.specs.declared.words.Ground.{Ground}
use Rattle.hall_machine.specs.declared.words.Entered.{Entered}
use Rattle.hall_machine.specs.declared.words.Entered.TheVariants.{There, Fresh}
use Rattle.hall_machine.specs.declared.words.HallFault.{HallFault}
use Rattle.hall_machine.specs.declared.words.HallFault.TheVariants.{HallFull, BookFull, MailFull}
use Rattle.hall_machine.specs.declared.words.HallFault.TheVariants.{Gone, NotHere}
use Rattle.hall_machine.specs.declared.words.Owner.{Owner}
use Rattle.hall_machine.specs.declared.words.Owner.TheVariants.{Gone as OwnerGone}
use Rattle.hall_machine.specs.declared.words.Owner.TheVariants.{NotHere as OwnerNotHere}
use Rattle.hall_machine.specs.declared.words.CloseFault.{CloseFault}
use Rattle.hall_machine.specs.declared.words.CloseFault.TheVariants.{Gone as CloseGone}
use Rattle.hall_machine.specs.declared.words.CloseFault.TheVariants.{NotHere as CloseNotHere}
use Rattle.hall_machine.specs.declared.words.CloseFault.TheVariants.{Waiting}

-- which poll has a document: its owner, or the poll that it is on its way to
pub data Where : Type 0 where
  at : ℕ → Where
  bound : ℕ → Where

-- an open document: its id and file, who has it, and the labels of the mails that wait for it, in
-- the order posted
pub record Desk : Type 0 where
  pub doc : ℕ
  pub file : List ℕ
  pub holder : Where
  pub mails : List Label

-- a state: the next id, the open documents in the order of their ids, and the number of entries of
-- the book
pub record Stage : Type 0 where
  pub next : ℕ
  pub desks : List Desk
  pub entries : ℕ

-- the opening state: nothing was ever opened
abbrev pub empty : Stage
empty = record { next = 0; desks = []; entries = 0 }

abbrev pub nobody : Desk
nobody = record { doc = 0; file = []; holder = at 0; mails = [] }

-- whether a parcel is in transit
abbrev pub is_bound : Where → Bool
is_bound (at p) = false
is_bound (bound p) = true

-- whether a parcel is in transit to this poll
abbrev pub is_bound_to : ℕ → Where → Bool
is_bound_to who (at p) = false
is_bound_to who (bound p) = p == who

-- the poll that owns the document or that it is on its way to
abbrev pub poll_of : Where → ℕ
poll_of (at p) = p
poll_of (bound p) = p

-- the poll that has the document in place of this one, where another has it; a document in transit
-- has no owner, and its target is named
abbrev pub other_than : ℕ → Where → Option ℕ
other_than who (at p) = if p == who then None else Some p
other_than who (bound p) = Some p

-- a document owes the book one entry for itself, one for each mail that waits, and one for a parcel
-- in transit
abbrev pub weight : Desk → ℕ
weight x = (1 + length x.mails) + (if is_bound x.holder then 1 else 0)

-- how many entries are owed: one for each open document, waiting mail and parcel in transit
abbrev pub owed : List Desk → ℕ
owed desks = sum_by weight desks

-- where among the open documents this one stands
abbrev pub place_of : ℕ → List Desk → Option ℕ
place_of doc desks = position (λ x. x.doc == doc) desks

-- where among the open documents the one of this file stands
abbrev pub place_of_file : List ℕ → List Desk → Option ℕ
place_of_file file desks = position (λ x. pointwise nat_eq x.file file) desks

-- where among the open documents the first stands whose parcel is in transit to this poll
abbrev pub place_bound_to : ℕ → List Desk → Option ℕ
place_bound_to who desks = position (λ x. is_bound_to who x.holder) desks

abbrev pub desk_at : List Desk → ℕ → Desk
desk_at desks i = slice_index_or desks i nobody

-- whether the book is full for a call that isn't urgent: entries + owed + 2 is above room - 16,384
abbrev pub is_full : Ground → Stage → Bool
is_full g s = nat_lt (g.room - 16384) ((s.entries + owed s.desks) + 2)

-- whether it is full for a post, which may use the last 16,384 entries where it is urgent
abbrev pub is_full_for_post : Ground → Stage → Bool → Bool
is_full_for_post g s urgent = nat_lt (if urgent then g.room else g.room - 16384)
    ((s.entries + owed s.desks) + 2)

-- how many mails of one document may wait
abbrev pub most_mails : Bool → ℕ
most_mails urgent = if urgent then 4096 else 2048

-- What each call answers

module _ (g : Ground) (s : Stage) where
  -- enter: There exactly where the file is open; else HallFull exactly where 64 documents are open;
  -- else BookFull exactly where the book is full; else Fresh with the next id
  abbrev pub enter_at : Option ℕ → Result Entered HallFault
  enter_at (Some i) = Ok (There (record { 0 = (desk_at s.desks i).doc }))
  enter_at None = if nat_le 64
      (length s.desks) then Err HallFull else if is_full g s then Err BookFull else Ok
      (Fresh (record { 0 = s.next }))

  abbrev pub enter_answer : List ℕ → Result Entered HallFault
  enter_answer file = enter_at (place_of_file file s.desks)

  -- post: Gone exactly where the document isn't open; else MailFull exactly where 2,048 mails of it
  -- wait, 4,096 for an urgent one; else BookFull exactly where the book is full for it
  abbrev pub post_at : Bool → Option ℕ → Result (Unit {0}) HallFault
  post_at urgent None = Err Gone
  post_at urgent (Some i) = if nat_le (most_mails urgent)
      (length (desk_at s.desks i).mails) then Err MailFull else if is_full_for_post g s urgent then
      Err BookFull else Ok tt

  abbrev pub post_answer : ℕ → Bool → Result (Unit {0}) HallFault
  post_answer doc urgent = post_at urgent (place_of doc s.desks)

  -- depart: Gone, NotHere with the poll that has the document, BookFull as for enter
  abbrev pub depart_by : Option ℕ → Result (Unit {0}) HallFault
  depart_by (Some p) = Err (NotHere p)
  depart_by None = if is_full g s then Err BookFull else Ok tt

  abbrev pub depart_at : ℕ → Option ℕ → Result (Unit {0}) HallFault
  depart_at who None = Err Gone
  depart_at who (Some i) = depart_by (other_than who (desk_at s.desks i).holder)

  abbrev pub depart_answer : ℕ → ℕ → Result (Unit {0}) HallFault
  depart_answer who doc = depart_at who (place_of doc s.desks)

  -- spare: false exactly where the book is full, or entries + owed + 2 is above half the room,
  -- rounded down
  abbrev pub spare_answer : ℕ → Bool
  spare_answer half = if is_full g s then false else nat_le ((s.entries + owed s.desks) + 2) half

-- collect: Gone or NotHere, else the number of mails that are taken, the oldest, at most 64
abbrev pub collect_by : Desk → Option ℕ → Result ℕ Owner
collect_by x (Some p) = Err (OwnerNotHere p)
collect_by x None = Ok (min 64 (length x.mails))

abbrev pub collect_at : Stage → ℕ → Option ℕ → Result ℕ Owner
collect_at s who None = Err OwnerGone
collect_at s who (Some i) = collect_by (desk_at s.desks i)
    (other_than who (desk_at s.desks i).holder)

abbrev pub collect_answer : Stage → ℕ → ℕ → Result ℕ Owner
collect_answer s who doc = collect_at s who (place_of doc s.desks)

-- close: Gone, NotHere, Waiting with the number of mails that wait, where it is above 0
abbrev pub close_by : Desk → Option ℕ → Result (Unit {0}) CloseFault
close_by x (Some p) = Err (CloseNotHere p)
close_by x None = if nat_lt 0 (length x.mails) then Err (Waiting (length x.mails)) else Ok tt

abbrev pub close_at : Stage → ℕ → Option ℕ → Result (Unit {0}) CloseFault
close_at s who None = Err CloseGone
close_at s who (Some i) = close_by (desk_at s.desks i) (other_than who (desk_at s.desks i).holder)

abbrev pub close_answer : Stage → ℕ → ℕ → Result (Unit {0}) CloseFault
close_answer s who doc = close_at s who (place_of doc s.desks)

-- arrive: the document whose parcel is in transit to the caller, the first of several
abbrev pub arrive_at : Stage → Option ℕ → Option ℕ
arrive_at s None = None
arrive_at s (Some i) = Some (desk_at s.desks i).doc

abbrev pub arrive_answer : Stage → ℕ → Option ℕ
arrive_answer s who = arrive_at s (place_bound_to who s.desks)

-- find: the document of the file, where it is open
abbrev pub find_answer : Stage → List ℕ → Option ℕ
find_answer s file = arrive_at s (place_of_file file s.desks)

-- how many documents a poll owns or are on their way to it
abbrev pub load_of : ℕ → List Desk → ℕ
load_of p desks = count_by (λ x. poll_of x.holder == p) desks

-- advise: the poll with the fewest documents, the lowest of several
pub record IsLeast (polls : ℕ) (desks : List Desk) (p : ℕ) : Type 0 where
  pub below : p < polls
  pub least : (q : ℕ) → q < polls → load_of p desks ≤ load_of q desks
  pub first : (q : ℕ) → q < p → load_of p desks < load_of q desks

-- the refusals of collect as those of depart and close
abbrev pub hall_fault : Owner → HallFault
hall_fault OwnerGone = Gone
hall_fault (OwnerNotHere p) = NotHere p

abbrev pub close_fault : Owner → CloseFault
close_fault OwnerGone = CloseGone
close_fault (OwnerNotHere p) = CloseNotHere p
