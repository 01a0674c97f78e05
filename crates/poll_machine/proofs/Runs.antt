-- A plan that is carried out is a run.
use Rattle.std.proofs.Common.{◌≡◌, List, [], ◌∷◌, ◌++◌, refl, subst}
use Rattle.poll_machine.specs.Runs.{Run}
use Rattle.poll_machine.specs.Plans.{Plan, Rests, Never, Makes, Then, Learns, Looks, Until, Follows}

-- a run behind a run is a run
pub runs : {X E : Type 0} (Step : X → E → X → Type 0) (old : X) (es fs : List E) (mid new : X)
    → Run Step old es mid → Run Step mid fs new → Run Step old (es ++ fs) new
runs Step old [] fs mid new is later = subst (λ x. Run Step x fs new) is later
runs Step old (e ∷ es) fs mid new (next, step, rest) later =
    (next, step, runs Step next es fs mid new rest later)

-- whatever a plan says, carrying it out is a run
pub follows_is_run : {X E : Type 0} (Step : X → E → X → Type 0) (plan : Plan X E) (old : X)
    (es : List E) (new : X)
    → Follows Step plan old es new → Run Step old es new
follows_is_run Step Rests old es new (none, is) = rw none is
follows_is_run Step Never old es new h = absurd h
follows_is_run Step (Makes event) old es new (one, step) = rw one (new, step, refl)
follows_is_run Step (Then first later) old es new (mid, before, behind, is, one, two) =
    rw is (runs Step old before behind mid new (follows_is_run Step first old before mid one)
    (follows_is_run Step later mid behind new two))
follows_is_run Step (Learns next) old es new (answer, h) = follows_is_run Step
    (next answer) old es new h
follows_is_run Step (Looks next) old es new h = follows_is_run Step (next old) old es new h
follows_is_run Step (Until kind passes) old es new (all, run, done) = run
