-- Which job a painted result is of.
use Rattle.std.specs.Prelude.{◌≡◌, ℕ, ◌<◌, true, false, List, length, take, nat_eq, slice_index_or}
use Rattle.std.specs.List.{AllByRecursion}
use Rattle.document_machine.specs.State.{Job}

-- the first job with the ticket stands at the place, and has this scene
pub record IsJobAt {S : Type 0} (jobs : List (Job S)) (ticket : ℕ) (scene : S) (i : ℕ) : Type 0 where
  pub within : i < length jobs
  pub here : (d : Job S) → nat_eq (slice_index_or jobs i d).ticket ticket ≡ true
  pub scene_is : (d : Job S) → (slice_index_or jobs i d).scene ≡ scene
  pub before : AllByRecursion (λ job. nat_eq job.ticket ticket ≡ false) (take i jobs)
