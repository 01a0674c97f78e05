-- How much a document has left to do.
use Rattle.std.specs.Prelude.{⊤, ℕ, ◌+◌, ◌-◌, ◌*◌, ◌<◌, Bool, not, ◌&&◌, nat_lt, length, Option, None, Some, is_some, if◌then◌else◌}
use Rattle.std.specs.List.{list_any, count_by, sum_by}
use Rattle.kit_trait.specs.Rules.{Rules}
use Rattle.tile_key.specs.Places.{Place}
use Rattle.document_machine.specs.Due.{is_due, is_wanted, has_room, keys}
use Rattle.document_machine.specs.Keys.{is_among}
use Rattle.document_machine.specs.Held.{Held}
use Rattle.document_machine.specs.State.{Document}
use Rattle.document_machine.specs.declared.limits.TheConstants.{MOST_JOBS}
use Rattle.document_machine.specs.declared.outs.Turned.{Turned}
use Rattle.document_machine.specs.declared.outs.Turned.TheVariants.{Worked, Idle}

-- how many pairs of a view and a key that it sees or asked for there are
abbrev pub pairs : {C B S : Type 0} → Rules C B → Document S → ℕ
pairs rules d = sum_by (λ view. length (keys rules d view)) d.views

-- how many of them are due
abbrev pub due_pairs : {C B S : Type 0} → Rules C B → Document S → ℕ
due_pairs rules d = sum_by (λ view. count_by (is_due rules d view) (keys rules d view)) d.views

-- some view is due the key
abbrev pub is_due_somewhere : {C B S : Type 0} → Rules C B → Document S → Place → Bool
is_due_somewhere rules d key = list_any (λ view. is_due rules d view key && is_among (keys rules d view) key) d.views

-- how many jobs out have a due pair
abbrev pub jobs_due : {C B S : Type 0} → Rules C B → Document S → ℕ
jobs_due rules d = count_by (λ job. list_any (is_due_somewhere rules d) job.keys) d.jobs

-- how many saves wait that no put is for yet
abbrev pub unbound_saves : {S : Type 0} → Document S → ℕ
unbound_saves d = count_by (λ save. not save.bound) d.saving.saves

-- what each input that isn't applied, each due pair, and each save that no put is for has to come to; the
-- jobs out that have a due pair are still to be taken off
abbrev pub still_to_come : {C B S : Type 0} → Rules C B → Document S → ℕ
still_to_come rules d =
    (length d.journal - d.applied) * (2 * pairs rules d + 1) + 2 * due_pairs rules d + unbound_saves d

-- the rank: what is to come less the jobs out that have a due pair. It is never below 0, as two jobs out
-- share no key
abbrev pub rank : {C B S : Type 0} → Rules C B → Document S → ℕ
rank rules d = still_to_come rules d - jobs_due rules d

-- one document has a lower rank than another, said without taking off
abbrev pub IsLower : {C B S : Type 0} → Rules C B → Document S → Document S → Type 0
IsLower rules new old = still_to_come rules new + jobs_due rules old < still_to_come rules old + jobs_due rules new

-- a turn that did a work lowered the rank, of a broker that can be spent: only a broker that isn't makes
-- one, and it isn't spent after it
abbrev pub Lowers : {C B S : Type 0} → Rules C B → Option (Held S) → Turned S → Option (Held S) → Type 0
Lowers rules (Some old) (Worked outs) (Some new) = IsLower rules new.document old.document
Lowers rules (Some old) Idle (Some new) = ⊤
Lowers rules (Some old) turned None = ⊥
Lowers rules None turned new = ⊥

-- how many tiles are not acknowledged
abbrev pub unacknowledged : {S : Type 0} → Document S → ℕ
unacknowledged d = sum_by (λ view. length view.window) d.views

-- how many due pairs there are whose view has room
abbrev pub pairs_with_room : {C B S : Type 0} → Rules C B → Document S → ℕ
pairs_with_room rules d =
    sum_by (λ view. if has_room view then count_by (is_due rules d view) (keys rules d view) else 0) d.views

-- how many jobs out have a due pair whose view has room
abbrev pub jobs_wanted : {C B S : Type 0} → Rules C B → Document S → ℕ
jobs_wanted rules d = count_by (λ job. list_any (is_wanted rules d) job.keys) d.jobs

-- how many jobs out are of fewer inputs than are applied
abbrev pub old_jobs : {S : Type 0} → Document S → ℕ
old_jobs d = count_by (λ job. nat_lt job.number d.applied) d.jobs

-- what the jobs out have to come to: a cut lowers it, since its job is wanted, and so does a painted result
-- that no view takes
abbrev pub jobs_to_come : {C B S : Type 0} → Rules C B → Document S → ℕ
jobs_to_come rules d = 3 * pairs_with_room rules d + length d.jobs - 2 * jobs_wanted rules d

-- more than the jobs out can ever have to come to
abbrev pub above_jobs : {C B S : Type 0} → Rules C B → Document S → ℕ
above_jobs rules d = 3 * pairs rules d + MOST_JOBS + 1

-- what the tiles have to come to, in parts that weigh more than all jobs: an input that isn't applied may
-- make every pair due and every job old, a result of an old job may add a tile to every pair's window, and
-- a tile that is sent makes its pair no longer due
abbrev pub tiles_to_come : {C B S : Type 0} → Rules C B → Document S → ℕ
tiles_to_come rules d =
    ((MOST_JOBS + 2) * (length d.journal - d.applied) + old_jobs d) * (pairs rules d + 1)
    + 2 * due_pairs rules d + unacknowledged d

-- what the saves have to come to: one that no put is for yet may begin one
abbrev pub saves_to_come : {S : Type 0} → Document S → ℕ
saves_to_come d = 2 * unbound_saves d + (if is_some d.saving.put then 1 else 0)

-- how much a document has left to do until it is quiet: a work of a turn lowers it, and so does a painted
-- result of a job that is out, the answer to the put that is under way, and an acknowledged tile
abbrev pub left_to_do : {C B S : Type 0} → Rules C B → Document S → ℕ
left_to_do rules d = tiles_to_come rules d * above_jobs rules d + jobs_to_come rules d + saves_to_come d
