-- What is done to a document is done in its house.
use Rattle.std.proofs.Common.{ℕ, ◌+◌, List, [], ◌∷◌, ◌++◌, ap, subst, ◌∙◌}
use Rattle.std.proofs.Common.{add_assoc, add-zero}
use Rattle.std.specs.List.{AllByRecursion}
use Rattle.poll_machine.specs.Words.{Ways}
use Rattle.poll_machine.specs.Agenda.{HeldDocument, Here}
use Rattle.poll_machine.specs.House.{Slot, Live, At, OfDoc, House, HouseStep, Rises, ends_by}
use Rattle.poll_machine.specs.Project.{HeldMove}
use Rattle.poll_machine.specs.Runs.{Run}
use Rattle.poll_machine.proofs.Lifted.{with_held, lifted, still_rises}
use Rattle.poll_documents.specs.Settling.{timed, at_house, ended_by, KeepsLobby}

-- a run of the document that leaves the lobby is a run of its house
pub house_run : {D J P L : Type 0} (w : Ways D J P) (house : House D J P L)
    (front : List (ℕ × Slot D J P L)) (id : ℕ) (old new : HeldDocument D J P L)
    (back : List (ℕ × Slot D J P L)) (lobby : List ℕ) (ended : ℕ) (heres : List (Here J P L))
    → Rises (front ++ (id, Live old) ∷ back)
    → AllByRecursion (KeepsLobby D lobby) heres
    → Run (HeldMove w) old (timed house.moment heres) new
    → Run (HouseStep w) (with_held house front id old back lobby ended)
    (at_house id house.moment heres)
    (with_held house front id new back lobby (ended + ended_by D heres))
house_run w house front id old new back lobby ended [] rises keeps is =
    ap (λ n. with_held house front id new back lobby n) (add-zero ended)
    ∙ ap (λ held. with_held house front id held back lobby ended) is
house_run {D} {J} {P} {L} w house front id old new back lobby ended (here ∷ heres) rises
    ((may, stays), keeps) (mid, step, run) =
    let first : HouseStep w (with_held house front id old back lobby ended)
    (OfDoc id house.moment (At here))
    (with_held house front id mid back lobby (ended + ends_by {D = D} (At here))) =
    subst
    (λ (links : List ℕ). HouseStep w (with_held house front id old back lobby ended)
    (OfDoc id house.moment (At here))
    (with_held house front id mid back links (ended + ends_by {D = D} (At here))))
    stays
    (lifted w house front id old mid back lobby ended here rises step may)
    in
    let later : Run (HouseStep w)
    (with_held house front id mid back lobby (ended + ends_by {D = D} (At here)))
    (at_house id house.moment heres)
    (with_held house front id new back lobby
    (ended + ends_by {D = D} (At here) + ended_by D heres)) =
    house_run w house front id mid new back lobby (ended + ends_by {D = D} (At here)) heres
    (still_rises front id (Live old) (Live mid) back rises) keeps run
    in (
      with_held house front id mid back lobby (ended + ends_by {D = D} (At here)),
      first,
      subst
          (λ (n : ℕ). Run (HouseStep w)
          (with_held house front id mid back lobby (ended + ends_by {D = D} (At here)))
          (at_house id house.moment heres) (with_held house front id new back lobby n))
          (add_assoc ended (ends_by {D = D} (At here)) (ended_by D heres)) later,
    )
