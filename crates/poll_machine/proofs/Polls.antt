-- A run of turns is a run of the house.
use Rattle.std.proofs.Common.{◌≡◌, ℕ, List, [], ◌∷◌, ◌++◌, refl, subst, sym, ap}
use Rattle.poll_machine.specs.Words.{Ways}
use Rattle.poll_machine.specs.House.{House, Happens, HouseStep}
use Rattle.poll_machine.specs.Turn.{a_turn, IsTurn, End, Budget, Rested, Fault, OutOfMemory, Polls}
use Rattle.poll_machine.specs.Runs.{Run, all_events}
use Rattle.poll_machine.proofs.Runs.{runs, follows_is_run}

-- turns one after the other are a run of their events
rounds : {D J P L : Type 0} (w : Ways D J P) (old : House D J P L)
    (turns : List (List (Happens D J P L))) (new : House D J P L)
    → Run (IsTurn w) old turns new → Run (HouseStep w) old (all_events turns) new
rounds w old [] new is = is
rounds w old (events ∷ turns) new (mid, turn, rest) =
    runs (HouseStep w) old events (all_events turns) mid new
    (follows_is_run (HouseStep w) (a_turn w) old events mid turn) (rounds w mid turns new rest)

-- whatever ends them
pub polls_run : {D J P L : Type 0} (w : Ways D J P) (given : ℕ) (end : End) (old : House D J P L)
    (turns : List (List (Happens D J P L))) (rest : List (Happens D J P L)) (new : House D J P L)
    → Polls w given end old turns rest new → Run (HouseStep w) old (all_events turns ++ rest) new
polls_run w given Budget old turns rest new (all, made, none) =
    runs (HouseStep w) old (all_events turns) rest new new (rounds w old turns new all.run)
    (subst (λ events. Run (HouseStep w) new events new) (sym none) refl)
polls_run w given Rested old turns rest new h =
    runs (HouseStep w) old (all_events turns) rest h.mid new
    (rounds w old turns h.mid h.rounds.run)
    (follows_is_run (HouseStep w) (a_turn w) h.mid rest new h.last)
polls_run w given Fault old turns rest new h =
    runs (HouseStep w) old (all_events turns) rest h.mid new
    (rounds w old turns h.mid h.rounds.run)
    (follows_is_run (HouseStep w) (a_turn w) h.mid rest new h.last)
polls_run w given OutOfMemory old turns rest new h =
    runs (HouseStep w) old (all_events turns) rest h.mid new
    (rounds w old turns h.mid h.rounds.run) h.cut
