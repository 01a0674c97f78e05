-- What a yard tells: the works that it took, in order.
use Rattle.std.specs.Prelude.{◌≡◌, List, [], ◌∷◌, ◌++◌, Option}
use Rattle.std.specs.Option.{option_map}
use Rattle.cool_base.specs.declared.ids.DocId.{DocId}

-- The work was taken: it stands behind all that were taken before, where they are told.
abbrev pub TookOne : {W : Type 0} → Option (List (DocId × W)) → DocId → W
    → Option (List (DocId × W)) → Type 0
TookOne old doc work new = new ≡ option_map (λ works. works ++ (doc, work) ∷ []) old
