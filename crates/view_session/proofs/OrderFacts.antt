-- Key order: two keys that compare alike are one, and a key that comes before another is another.
use Rattle.std.proofs.Common.{◌≡◌, ℕ, ◌≤◌, Bool, true, false, ◌&&◌, refl, ap, sym, subst, ◌∙◌, nat_eq, arith}
use Rattle.std.specs.Ordering.{nat_cmp, ordering_then, ordering_reverse, ordering_index, is_lt}
use Rattle.std.specs.declared.cmp.Ordering.{Ordering}
use Rattle.std.specs.declared.cmp.Ordering.TheVariants.{Less, Equal, Greater}
use Rattle.std.specs.Cmp.{IsTotalOrder}
use Rattle.std.proofs.lemmas.Cmp.{then_total, on_total, nat_cmp_total, ranked}
use Rattle.std.proofs.lemmas.Bool.{and_parts, eqb-true}
use Rattle.tile_key.specs.Places.{Place, key_order, same_place}
use Rattle.tile_key.specs.Visible.{IsBefore}
use Rattle.document_machine.proofs.Lists.{same_self}

pub order_total : IsTotalOrder key_order
order_total =
    then_total (on_total (λ (p : Place). p.part) nat_cmp_total)
    (then_total (on_total (λ (p : Place). p.posy) nat_cmp_total)
    (then_total (on_total (λ (p : Place). p.posx) nat_cmp_total)
    (then_total (on_total (λ (p : Place). p.width) nat_cmp_total)
    (then_total (on_total (λ (p : Place). p.height) nat_cmp_total)
    (then_total (on_total (λ (p : Place). p.tilewidth) nat_cmp_total)
    (then_total (on_total (λ (p : Place). p.tileheight) nat_cmp_total)
    (on_total (λ (p : Place). p.nviewid) nat_cmp_total)))))))

pub before_trans : (p q r : Place) → IsBefore p q → IsBefore q r → IsBefore p r
before_trans p q r = order_total.trans p q r

-- the key that comes after isn't the one that comes before
pub not_back : (p q : Place) → IsBefore p q → is_lt (key_order q p) ≡ false
not_back p q h = ap is_lt (order_total.antisymm q p ∙ ap ordering_reverse h)

pub forth : (p q : Place) → key_order p q ≡ Greater → IsBefore q p
forth p q h = order_total.antisymm q p ∙ ap ordering_reverse h

-- no key comes before itself
pub not_self : (p : Place) → is_lt (key_order p p) ≡ false
not_self p =
    let go : (o : Ordering) → o ≡ ordering_reverse o → is_lt o ≡ false = elim [
      | Less ↦ λ e. absurd (cc)
      | Equal ↦ λ e. refl
      | Greater ↦ λ e. absurd (cc)
    ] in
    go (key_order p p) (order_total.antisymm p p)

-- two places whose numbers are equal are one
pub same_is : (p q : Place) → same_place p q ≡ true → p ≡ q
same_is p q h =
    let z = and_parts (nat_eq p.part q.part && nat_eq p.posy q.posy && nat_eq p.posx q.posx && (nat_eq p.width q.width && nat_eq p.height q.height) && (nat_eq p.tilewidth q.tilewidth && nat_eq p.tileheight q.tileheight)) (nat_eq p.nviewid q.nviewid) h in
    let a = and_parts (nat_eq p.part q.part && nat_eq p.posy q.posy && nat_eq p.posx q.posx && (nat_eq p.width q.width && nat_eq p.height q.height)) (nat_eq p.tilewidth q.tilewidth && nat_eq p.tileheight q.tileheight) z.0 in
    let b = and_parts (nat_eq p.part q.part && nat_eq p.posy q.posy && nat_eq p.posx q.posx) (nat_eq p.width q.width && nat_eq p.height q.height) a.0 in
    let c = and_parts (nat_eq p.part q.part && nat_eq p.posy q.posy) (nat_eq p.posx q.posx) b.0 in
    let d = and_parts (nat_eq p.part q.part) (nat_eq p.posy q.posy) c.0 in
    let e = and_parts (nat_eq p.width q.width) (nat_eq p.height q.height) b.1 in
    let f = and_parts (nat_eq p.tilewidth q.tilewidth) (nat_eq p.tileheight q.tileheight) a.1 in
    λ i. record {
      part = eqb-true p.part q.part d.0 i;
      width = eqb-true p.width q.width e.0 i;
      height = eqb-true p.height q.height e.1 i;
      posx = eqb-true p.posx q.posx c.1 i;
      posy = eqb-true p.posy q.posy d.1 i;
      tilewidth = eqb-true p.tilewidth q.tilewidth f.0 i;
      tileheight = eqb-true p.tileheight q.tileheight f.1 i;
      nviewid = eqb-true p.nviewid q.nviewid z.1 i;
    }

-- a key that comes before another is another
pub apart : (p q : Place) → IsBefore p q → same_place p q ≡ false
apart p q h =
    let go : (b : Bool) → same_place p q ≡ b → b ≡ false = elim [
      | true ↦ λ e. let one : p ≡ q = same_is p q e in
          let less : is_lt (key_order q q) ≡ true = subst (λ (r : Place). is_lt (key_order r q) ≡ true) one (ap is_lt h) in
          let not : is_lt (key_order q q) ≡ false = not_self q in
          absurd (cc)
      | false ↦ λ e. refl
    ] in
    go (same_place p q) refl

-- whether two keys are one is asked from both sides alike
pub same_swap : (p q : Place) → same_place p q ≡ same_place q p
same_swap p q =
    let go : (a b : Bool) → same_place p q ≡ a → same_place q p ≡ b → a ≡ b = elim [
      | true ↦ elim [
        | true ↦ λ x y. refl
        | false ↦ λ x y. let one : p ≡ q = same_is p q x in let e : same_place q p ≡ true = subst (λ (r : Place). same_place q r ≡ true) (sym one) (same_self q) in absurd (cc)
      ]
      | false ↦ elim [
        | true ↦ λ x y. let one : q ≡ p = same_is q p y in let e : same_place p q ≡ true = subst (λ (r : Place). same_place p r ≡ true) (sym one) (same_self p) in absurd (cc)
        | false ↦ λ x y. refl
      ]
    ] in
    go (same_place p q) (same_place q p) refl refl

pub apart_back : (p q : Place) → IsBefore p q → same_place q p ≡ false
apart_back p q h = same_swap q p ∙ apart p q h

then_equal : (o p : Ordering) → ordering_then o p ≡ Equal → (o ≡ Equal) × (p ≡ Equal)
then_equal Less p h = absurd (cc)
then_equal Equal p h = (refl, h)
then_equal Greater p h = absurd (cc)

number_equal : (a b : ℕ) → nat_cmp a b ≡ Equal → a ≡ b
number_equal a b h = ranked a b Equal (sym h)

-- two keys that compare alike are one
pub equal_is : (p q : Place) → key_order p q ≡ Equal → p ≡ q
equal_is p q h =
    let a = then_equal (nat_cmp p.part q.part) _ h in
    let b = then_equal (nat_cmp p.posy q.posy) _ a.1 in
    let c = then_equal (nat_cmp p.posx q.posx) _ b.1 in
    let d = then_equal (nat_cmp p.width q.width) _ c.1 in
    let e = then_equal (nat_cmp p.height q.height) _ d.1 in
    let f = then_equal (nat_cmp p.tilewidth q.tilewidth) _ e.1 in
    let g = then_equal (nat_cmp p.tileheight q.tileheight) _ f.1 in
    λ i. record {
      part = number_equal p.part q.part a.0 i;
      width = number_equal p.width q.width d.0 i;
      height = number_equal p.height q.height e.0 i;
      posx = number_equal p.posx q.posx c.0 i;
      posy = number_equal p.posy q.posy b.0 i;
      tilewidth = number_equal p.tilewidth q.tilewidth f.0 i;
      tileheight = number_equal p.tileheight q.tileheight g.0 i;
      nviewid = number_equal p.nviewid q.nviewid g.1 i;
    }

low_index : (o : Ordering) → ordering_index o ≤ 2
low_index Less = omega arith
low_index Equal = omega arith
low_index Greater = omega arith

-- comparisons with a key rise along key order
pub rises : (p q key : Place) → IsBefore p q → ordering_index (key_order p key) ≤ ordering_index (key_order q key)
rises p q key h =
    let go : (o : Ordering) → key_order q key ≡ o → ordering_index (key_order p key) ≤ ordering_index o = elim [
      | Less ↦ λ e. rw (before_trans p q key h e) (omega arith)
      | Equal ↦ λ e. let less : key_order p key ≡ Less = subst (λ (r : Place). key_order p r ≡ Less) (equal_is q key e) h in rw less (omega arith)
      | Greater ↦ λ e. low_index (key_order p key)
    ] in
    go (key_order q key) refl
