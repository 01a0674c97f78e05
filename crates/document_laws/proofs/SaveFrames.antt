-- What holds of all frames that saves are answered by.
use Rattle.std.proofs.Common.{◌≡◌, ℕ, true, false, cond, List, [], ◌∷◌, ◌++◌, map, filter, Option, None, Some, refl, ap, ◌∙◌}
use Rattle.std.specs.Prelude.{Result}
use Rattle.std.specs.List.{flat_map, AllByRecursion}
use Rattle.cool_base.specs.declared.ids.ViewId.{ViewId}
use Rattle.cool_frame.specs.declared.frame.Frame.{Frame}
use Rattle.cool_frame.specs.declared.frame.Frame.TheVariants.{SaveDone}
use Rattle.outside.specs.declared.errands.Receipt.{Receipt}
use Rattle.outside.specs.declared.faults.StoreFault.{StoreFault}
use Rattle.save_core.specs.declared.values.SaveAnswer.{SaveAnswer}
use Rattle.document_machine.specs.Saves.{ending_frame, ending_frames, told_view, unmodified_frames}
use Rattle.document_machine.specs.State.{View, is_live}
use Rattle.document_laws.proofs.Ordered.{all_both}

-- where each gives nothing, all together give nothing
pub none_by : {X Y : Type 0} (g : X → List Y) (xs : List X) → AllByRecursion (λ x. g x ≡ []) xs
    → flat_map g xs ≡ []
none_by g [] all = refl
none_by g (x ∷ xs) all = ap (λ ys. ys ++ flat_map g xs) all.0 ∙ none_by g xs all.1

module _ (P : ViewId × Frame → Type 0) where
  done_all : (number : ℕ) → ((id : ViewId) → P (id, SaveDone number false)) → (ids : List ViewId)
      → AllByRecursion P (map (λ id. (id, SaveDone number false)) ids)
  done_all number each [] = tt
  done_all number each (id ∷ ids) = (each id, done_all number each ids)

  -- the frames of a turn that serves
  pub unmodified_all : (views : List View) (number : ℕ) (ids : List ViewId)
      → ((id : ViewId) → P (id, SaveDone number false))
      → AllByRecursion P (unmodified_frames views number ids)
  unmodified_all views number ids each =
      done_all number each (filter (λ (id : ViewId). is_live views id.0) ids)

  told_all : (views : List View) (frame : Frame) (view : Option ViewId)
      → ((id : ViewId) → P (id, frame)) → AllByRecursion P (told_view views frame view)
  told_all views frame None each = tt
  told_all views frame (Some id) each =
      elim (is_live views id.0) as
      (λ b. AllByRecursion P (cond b ((id, frame) ∷ []) []))
      [ true ↦ (each id, tt) | false ↦ tt ]

  -- the frames of the answer to a put
  pub ending_all : (views : List View) (result : Result Receipt StoreFault)
      (given : List SaveAnswer) → ((id : ViewId) (number : ℕ) → P (id, ending_frame result number))
      → AllByRecursion P (ending_frames views result given)
  ending_all views result [] each = tt
  ending_all views result (save ∷ given) each =
      all_both P (told_view views (ending_frame result save.number) save.view)
      (ending_frames views result given)
      (told_all views (ending_frame result save.number) save.view (λ id. each id save.number))
      (ending_all views result given each)
