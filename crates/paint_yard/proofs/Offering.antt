-- What a yard over an end of the queue tells.
use Rattle.std.proofs.Common.{◌≡◌, MatchOption, List, [], ◌∷◌, ◌++◌, Option, Some, None, refl, ap, ◌∙◌}
use Rattle.cool_base.specs.declared.ids.DocId.{DocId}
use Rattle.paint_yard.specs.declared.passes.Item.{Item}
use Rattle.paint_yard.specs.declared.passes.Item.TheVariants.{Work, Close}
use Rattle.paint_yard.specs.Offers.{Offered, works_of, with_put, with_full}
use Rattle.yard_traits.specs.Yards.{TookOne}

-- the works among items with one more
pub works_more : {W : Type 0} (items : List (Item W)) (doc : DocId) (work : W)
    → works_of (items ++ Work doc work ∷ []) ≡ works_of items ++ (doc, work) ∷ []
works_more [] doc work = refl
works_more (Work d w ∷ items) doc work = ap (λ works. (d, w) ∷ works) (works_more items doc work)
works_more (Close ∷ items) doc work = works_more items doc work

-- the work is told where it was put, and nothing where it came back
pub told_by : {W : Type 0} (old new : Offered W) (doc : DocId) (work : W) (result : Option W)
    → MatchOption result (new ≡ with_put old (Work doc work))
    (λ back. (back ≡ work) × (new ≡ with_full old))
    → MatchOption result (TookOne (Some (works_of old.put)) doc work (Some (works_of new.put)))
    (λ back. (back ≡ work) × (Some (works_of new.put) ≡ Some (works_of old.put)))
told_by old new doc work None is =
    ap (λ (o : Offered _). Some (works_of o.put)) is
    ∙ ap (λ works. Some works) (works_more old.put doc work)
told_by old new doc work (Some back) (same, is) =
    (same, ap (λ (o : Offered _). Some (works_of o.put)) is)
