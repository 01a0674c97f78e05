-- The tickets stay those of the keys out.
use Rattle.std.proofs.Common.{◌≡◌, ℕ, Bool, true, false, cond, not, nat_eq, List, [], ◌∷◌, ◌++◌, length, map, filter, refl, sym, ap, subst, ◌∙◌, arith, Option, Some, None, is_some}
use Rattle.std.specs.Prelude.{All}
use Rattle.std.specs.List.{AllByRecursion}
use Rattle.std.proofs.lemmas.List.Elements.{recursion_from_All}
use Rattle.cool_base.specs.Points.{Rectangle}
use Rattle.kit_trait.specs.declared.values.Pixels.{Pixels}
use Rattle.tile_key.specs.Places.{Place}
use Rattle.tile_cache.specs.declared.outs.Out.{Out}
use Rattle.tile_cache.specs.Cached.{Cached, current_tile}
use Rattle.tile_cache.specs.Calls.{AreSized, IsFree, begun, finished, going, hit_out, is_out, outs_but}
use Rattle.tile_readings.specs.Mirrors.{Mirrors, IsOne, IsDot}

pub after_damage : (part : ℕ) (rect : Rectangle) (n : ℕ) (outs : List Out) (tickets : List ℕ) → Mirrors outs tickets → Mirrors (map (hit_out part rect n) outs) tickets
after_damage part rect n [] [] m = tt
after_damage part rect n [] (ticket ∷ tickets) m = absurd m
after_damage part rect n (out ∷ outs) [] m = absurd m
after_damage part rect n (out ∷ outs) (ticket ∷ tickets) m = (m.0, after_damage part rect n outs tickets m.1)

new_mirror : (ticket n : ℕ) (keys : List Place) → AllByRecursion IsOne keys → Mirrors (map (going ticket n) keys) (map (λ (key : Place). ticket) keys)
new_mirror ticket n [] ready = tt
new_mirror ticket n (key ∷ keys) ready = ((refl, ready.0), new_mirror ticket n keys ready.1)

begin_by : (ticket n : ℕ) (keys : List Place) (outs : List Out) (tickets : List ℕ) → AllByRecursion IsOne keys → Mirrors outs tickets → Mirrors (outs ++ map (going ticket n) keys) (tickets ++ map (λ (key : Place). ticket) keys)
begin_by ticket n keys [] [] ready m = new_mirror ticket n keys ready
begin_by ticket n keys [] (t ∷ tickets) ready m = absurd m
begin_by ticket n keys (out ∷ outs) [] ready m = absurd m
begin_by ticket n keys (out ∷ outs) (t ∷ tickets) ready m = (m.0, begin_by ticket n keys outs tickets ready m.1)

pub after_begin : (ticket n : ℕ) (keys : List Place) (outs : List Out) (tickets : List ℕ) → All IsOne keys → Mirrors outs tickets → Mirrors (outs ++ map (going ticket n) keys) (tickets ++ map (λ (key : Place). ticket) keys)
after_begin ticket n keys outs tickets ones m = begin_by ticket n keys outs tickets (recursion_from_All IsOne keys ones) m

pub after_finish : (ticket : ℕ) (outs : List Out) (tickets : List ℕ) → Mirrors outs tickets → Mirrors (outs_but ticket outs) (filter (λ (t : ℕ). not (nat_eq t ticket)) tickets)
after_finish ticket [] [] m = tt
after_finish ticket [] (t ∷ tickets) m = absurd m
after_finish ticket (out ∷ outs) [] m = absurd m
after_finish ticket (out ∷ outs) (t ∷ tickets) m =
    let rest = after_finish ticket outs tickets m.1 in
    let go : (b : Bool) → Mirrors (cond b (out ∷ outs_but ticket outs) (outs_but ticket outs)) (cond b (t ∷ filter (λ (t : ℕ). not (nat_eq t ticket)) tickets) (filter (λ (t : ℕ). not (nat_eq t ticket)) tickets)) = elim [ true ↦ (m.0, rest) | false ↦ rest ] in
    subst (λ (u : ℕ). Mirrors (cond (not (nat_eq out.ticket ticket)) (out ∷ outs_but ticket outs) (outs_but ticket outs)) (cond (not (nat_eq u ticket)) (t ∷ filter (λ (t : ℕ). not (nat_eq t ticket)) tickets) (filter (λ (t : ℕ). not (nat_eq t ticket)) tickets))) m.0.0 (go (not (nat_eq out.ticket ticket)))

dots_fit : (outs : List Out) (pictures : List Pixels) → AllByRecursion (λ (out : Out). IsOne out.key) outs → length pictures ≡ length outs → AllByRecursion IsDot pictures → AreSized outs pictures
dots_fit [] [] ones as_many dots = tt
dots_fit [] (picture ∷ pictures) ones as_many dots = absurd (omega (arith, as_many))
dots_fit (out ∷ outs) [] ones as_many dots = absurd (omega (arith, as_many))
dots_fit (out ∷ outs) (picture ∷ pictures) ones as_many dots =
    (dots.0.0 ∙ sym ones.0.0, dots.0.1 ∙ sym ones.0.1, dots.0.2 ∙ sym (rw (ones.0.0, ones.0.1) refl), dots_fit outs pictures ones.1 (omega (arith, as_many)) dots.1)

own_ones : (ticket : ℕ) (outs : List Out) (tickets : List ℕ) → Mirrors outs tickets → AllByRecursion (λ (out : Out). IsOne out.key) (filter (λ (out : Out). nat_eq out.ticket ticket) outs) × (length (filter (λ (t : ℕ). nat_eq t ticket) tickets) ≡ length (filter (λ (out : Out). nat_eq out.ticket ticket) outs))
own_ones ticket [] [] m = (tt, refl)
own_ones ticket [] (t ∷ tickets) m = absurd m
own_ones ticket (out ∷ outs) [] m = absurd m
own_ones ticket (out ∷ outs) (t ∷ tickets) m =
    let rest = own_ones ticket outs tickets m.1 in
    let os = filter (λ (out : Out). nat_eq out.ticket ticket) outs in
    let ts = filter (λ (t : ℕ). nat_eq t ticket) tickets in
    let go : (b : Bool) → AllByRecursion (λ (out : Out). IsOne out.key) (cond b (out ∷ os) os) × (length (cond b (t ∷ ts) ts) ≡ length (cond b (out ∷ os) os)) = elim [ true ↦ ((m.0.1, rest.0), omega (arith, rest.1)) | false ↦ rest ] in
    subst (λ (u : ℕ). AllByRecursion (λ (out : Out). IsOne out.key) (cond (nat_eq out.ticket ticket) (out ∷ os) os) × (length (cond (nat_eq u ticket) (t ∷ ts) ts) ≡ length (cond (nat_eq out.ticket ticket) (out ∷ os) os))) m.0.0 (go (nat_eq out.ticket ticket))

pub are_sized : (ticket : ℕ) (outs : List Out) (tickets : List ℕ) (pictures : List Pixels) → Mirrors outs tickets → length pictures ≡ length (filter (λ (t : ℕ). nat_eq t ticket) tickets) → AllByRecursion IsDot pictures → AreSized (filter (λ (out : Out). nat_eq out.ticket ticket) outs) pictures
are_sized ticket outs tickets pictures m as_many dots =
    let ones = own_ones ticket outs tickets m in
    dots_fit (filter (λ (out : Out). nat_eq out.ticket ticket) outs) pictures ones.0 (as_many ∙ ones.1) dots

none_is : {X : Type 0} (x : Option X) → is_some x ≡ false → x ≡ None
none_is None e = refl
none_is (Some x) e = absurd (cc)

pub free_here : (cache : Cached) (key : Place) (current out : Bool) → current ≡ is_some (current_tile cache key) → current ≡ false → out ≡ is_out cache key → out ≡ false → IsFree cache key
free_here cache key current out is fresh was unheld = (none_is (current_tile cache key) (sym is ∙ fresh), sym was ∙ unheld)

pub begin_mirror : (cache new : Cached) (keys others group : List Place) (tickets more items : List ℕ) (ticket n : ℕ) → new ≡ begun group n cache → ticket ≡ cache.next → keys ≡ group → others ≡ group → more ≡ map (λ (key : Place). ticket) others → items ≡ tickets ++ more → All IsOne keys → Mirrors cache.outs tickets → Mirrors new.outs items
begin_mirror cache new keys others group tickets more items ticket n new_is ticket_is keys_are others_are more_is items_are ones m =
    let first : Mirrors (cache.outs ++ map (going ticket n) group) (tickets ++ map (λ (key : Place). ticket) group) = after_begin ticket n group cache.outs tickets (subst (λ (ks : List Place). All IsOne ks) keys_are ones) m in
    let numbered : Mirrors (cache.outs ++ map (going cache.next n) group) (tickets ++ map (λ (key : Place). ticket) group) = subst (λ (t : ℕ). Mirrors (cache.outs ++ map (going t n) group) (tickets ++ map (λ (key : Place). ticket) group)) ticket_is first in
    let all : items ≡ tickets ++ map (λ (key : Place). ticket) group = items_are ∙ ap (λ (ts : List ℕ). tickets ++ ts) (more_is ∙ ap (λ (ks : List Place). map (λ (key : Place). ticket) ks) others_are) in
    subst (λ (c : Cached). Mirrors c.outs items) (sym new_is) (subst (λ (ts : List ℕ). Mirrors (cache.outs ++ map (going cache.next n) group) ts) (sym all) numbered)

pub finish_mirror : (cache new : Cached) (tickets items : List ℕ) (ticket : ℕ) (pictures : List Pixels) → new ≡ finished ticket pictures cache → items ≡ filter (λ (t : ℕ). not (nat_eq t ticket)) tickets → Mirrors cache.outs tickets → Mirrors new.outs items
finish_mirror cache new tickets items ticket pictures new_is items_are m =
    subst (λ (c : Cached). Mirrors c.outs items) (sym new_is) (subst (λ (ts : List ℕ). Mirrors (outs_but ticket cache.outs) ts) (sym items_are) (after_finish ticket cache.outs tickets m))
