-- Painted tiles are offered to the members, one after the other.
use Rattle.std.proofs.Common.{◌≡◌, ℕ, zero, suc, ◌+◌, ◌<◌, ◌≤◌, List, [], ◌∷◌, ◌++◌, length, map, take, drop, get_or, refl, sym, ap, ◌∙◌, arith, append_assoc}
use Rattle.std.specs.List.{flat_map}
use Rattle.std.proofs.lemmas.List.{take_more, flat_map_more}
use Rattle.cool_base.specs.declared.ids.ViewId.{ViewId}
use Rattle.cool_frame.specs.declared.frame.Frame.{Frame}
use Rattle.kit_trait.specs.declared.values.Pixels.{Pixels}
use Rattle.tile_cache.specs.declared.tiles.KeyEnd.{KeyEnd}
use Rattle.tile_key.specs.Places.{Place}
use Rattle.broker_core.specs.Sending.{offered, frames_for, is_present, ready_tiles}
use Rattle.broker_core.specs.declared.members.Member.{Member}
use Rattle.broker_core.specs.declared.sending.Ready.{Ready}

-- the item at the place is still as it was
item_same : {X : Type 0} (f : X → X) (xs : List X) (i : ℕ) (x : X) → i < length xs → get_or (map f (take i xs) ++ drop i xs) i x ≡ get_or xs i x
item_same f [] i x lt = absurd (omega arith)
item_same f (y ∷ ys) zero x lt = refl
item_same f (y ∷ ys) (suc i) x lt = item_same f ys i x (omega arith)

-- one more member was offered the tile
pub frames_more : (version : ℕ) (tile : Ready) (xs ys : List Member) (i : ℕ) (x : Member) (first frames now : List (ViewId × Frame)) → i < length xs → ys ≡ map (offered version tile) (take i xs) ++ drop i xs → x ≡ get_or ys i x → frames ≡ first ++ flat_map (frames_for version tile) (take i xs) → now ≡ frames ++ frames_for version tile x → now ≡ first ++ flat_map (frames_for version tile) (take (i + 1) xs)
frames_more version tile xs ys i x first frames now lt ys_are x_is before more =
    let g : Member → List (ViewId × Frame) = frames_for version tile in
    let at : x ≡ get_or xs i x = x_is ∙ ap (λ zs. get_or zs i x) ys_are ∙ item_same (offered version tile) xs i x lt in
    more ∙ ap (λ fs. fs ++ g x) before ∙ flat_map_more g first (take i xs) x
    ∙ ap (λ (z : Member). first ++ flat_map g (take i xs ++ z ∷ [])) at ∙ ap (λ (zs : List Member). first ++ flat_map g zs) (sym (take_more xs i x lt))

-- what is read within a list is there whatever stands for the rest
pub read_again : {X : Type 0} (xs : List X) (i : ℕ) (d e : X) → i < length xs → get_or xs i d ≡ get_or xs i e
read_again [] i d e lt = absurd (omega arith)
read_again (x ∷ xs) zero d e lt = refl
read_again (x ∷ xs) (suc i) d e lt = read_again xs i d e (omega arith)

-- one more painted tile is there
pub ready_more : (keys : List Place) (ends : List KeyEnd) (parts : List Pixels) (i : ℕ) (key : Place) (end : KeyEnd) (part : Pixels) → i < length keys → length ends ≡ length keys → length parts ≡ length keys → key ≡ get_or keys i key → end ≡ get_or ends i end → part ≡ get_or parts i part → ready_tiles (take i keys) (take i ends) (take i parts) ++ record { key = key; current = is_present end; rgba = part.rgba } ∷ [] ≡ ready_tiles (take (suc i) keys) (take (suc i) ends) (take (suc i) parts)
ready_more [] ends parts i key end part lt es ps k e p = absurd (omega arith)
ready_more (x ∷ keys) [] parts i key end part lt es ps k e p = absurd (omega arith)
ready_more (x ∷ keys) (y ∷ ends) [] i key end part lt es ps k e p = absurd (omega arith)
ready_more (x ∷ keys) (y ∷ ends) (z ∷ parts) zero key end part lt es ps k e p =
    ap (λ (q : Place). record { key = q; current = is_present end; rgba = part.rgba } ∷ []) k
    ∙ ap (λ (q : KeyEnd). record { key = x; current = is_present q; rgba = part.rgba } ∷ []) e
    ∙ ap (λ (q : Pixels). record { key = x; current = is_present y; rgba = q.rgba } ∷ []) p
ready_more (x ∷ keys) (y ∷ ends) (z ∷ parts) (suc i) key end part lt es ps k e p =
    ap (λ ts. record { key = x; current = is_present y; rgba = z.rgba } ∷ ts) (ready_more keys ends parts i key end part (omega arith) (omega arith) (omega arith) k e p)
