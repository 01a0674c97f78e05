-- What is told grows at its end.
use Rattle.std.proofs.Common.{◌≡◌, List, [], ◌++◌, Option, Some, None, refl, ap, sym, ◌∙◌, append_assoc, append-nil}
use Rattle.std.specs.Option.{option_map}
use Rattle.paint_yard.specs.Working.{Adds}

-- nothing more
pub adds_none : {A : Type 0} (old new : Option (List A)) → new ≡ old → Adds old [] new
adds_none None new same = same
adds_none (Some all) new same = same ∙ ap (λ xs. Some xs) (sym (append-nil all))

-- some, and then others behind them
pub adds_more : {A : Type 0} (old mid new : Option (List A)) (first later : List A)
    → Adds old first mid → Adds mid later new → Adds old (first ++ later) new
adds_more None mid new first later one two = two ∙ ap (λ m. option_map (λ all. all ++ later) m) one
adds_more (Some all) mid new first later one two =
    two ∙ ap (λ m. option_map (λ xs. xs ++ later) m) one
    ∙ ap (λ xs. Some xs) (append_assoc all first later)
