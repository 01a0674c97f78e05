-- Key order is a total order, in which two keys that stand nowhere apart are one.
use Rattle.std.proofs.Common.{◌≡◌, ◌≢◌, ℕ, true, false, refl, ap, sym, ◌∙◌, inl, inr, arith}
use Rattle.std.proofs.lemmas.Bool.{cases_Bool}
use Rattle.std.specs.Cmp.{IsTotalOrder}
use Rattle.std.specs.declared.cmp.Ordering.{Ordering}
use Rattle.std.specs.declared.cmp.Ordering.TheVariants.{Less, Equal, Greater}
use Rattle.std.specs.Ordering.{is_lt, nat_cmp, ordering_then, ordering_reverse}
use Rattle.std.proofs.lemmas.Bool.Decides.{nat_tests}
use Rattle.std.proofs.lemmas.Cmp.{nat_cmp_total, on_total, then_total, tied_itself}
use Rattle.tile_key.specs.Places.{Place, key_order, same_place}
use Rattle.tile_key.specs.Visible.{IsBefore}
use Rattle.document_machine.proofs.Lists.{same_self}

pub key_total : IsTotalOrder key_order
key_total =
    then_total (on_total (λ (p : Place). p.part) nat_cmp_total)
    (then_total (on_total (λ (p : Place). p.posy) nat_cmp_total)
    (then_total (on_total (λ (p : Place). p.posx) nat_cmp_total)
    (then_total (on_total (λ (p : Place). p.width) nat_cmp_total)
    (then_total (on_total (λ (p : Place). p.height) nat_cmp_total)
    (then_total (on_total (λ (p : Place). p.tilewidth) nat_cmp_total)
    (then_total (on_total (λ (p : Place). p.tileheight) nat_cmp_total)
    (on_total (λ (p : Place). p.nviewid) nat_cmp_total)))))))

-- the numbers of two places are the same
record AreAlike (p q : Place) : Type 0 where
  part : p.part ≡ q.part
  posy : p.posy ≡ q.posy
  posx : p.posx ≡ q.posx
  width : p.width ≡ q.width
  height : p.height ≡ q.height
  tilewidth : p.tilewidth ≡ q.tilewidth
  tileheight : p.tileheight ≡ q.tileheight
  nviewid : p.nviewid ≡ q.nviewid

alike_is : (p q : Place) → AreAlike p q → p ≡ q
alike_is p q a = λ i. record {
  part = a.part i;
  width = a.width i;
  height = a.height i;
  posx = a.posx i;
  posy = a.posy i;
  tilewidth = a.tilewidth i;
  tileheight = a.tileheight i;
  nviewid = a.nviewid i;
}

alike_by : (p q : Place) → same_place p q ≡ true → AreAlike p q
alike_by p q e = grind (arith, nat_tests)

-- two places that pass the test are one
pub same_is : (p q : Place) → same_place p q ≡ true → p ≡ q
same_is p q e = alike_is p q (alike_by p q e)

-- one that fails it is another
pub not_same : (p q : Place) → same_place p q ≡ false → p ≢ q
not_same p q e is = let same : same_place p q ≡ true = ap (same_place p) (sym is) ∙ same_self p in
    cc

pub same_sym : (p q : Place) → same_place p q ≡ same_place q p
same_sym p q =
    elim (cases_Bool (same_place p q)) [
      | inl same ↦ let is : p ≡ q = same_is p q same in let back : same_place q p ≡ true =
          ap (same_place q) is ∙ same_self q in cc
      | inr apart ↦ elim (cases_Bool (same_place q p)) [
        | inl back ↦ absurd (not_same p q apart (sym (same_is q p back)))
        | inr off ↦ cc
      ]
    ]

then_equal : (a b : Ordering) → ordering_then a b ≡ Equal → (a ≡ Equal) × (b ≡ Equal)
then_equal Less b e = absurd (cc)
then_equal Equal b e = (refl, e)
then_equal Greater b e = absurd (cc)

cmp_equal : (m n : ℕ) → nat_cmp m n ≡ Equal → m ≡ n
cmp_equal m n e = grind (arith, nat_tests)

-- two places that stand nowhere apart are one
pub equal_is : (p q : Place) → key_order p q ≡ Equal → p ≡ q
equal_is p q e =
    let a = then_equal (nat_cmp p.part q.part) _ e in
    let b = then_equal (nat_cmp p.posy q.posy) _ a.1 in
    let c = then_equal (nat_cmp p.posx q.posx) _ b.1 in
    let d = then_equal (nat_cmp p.width q.width) _ c.1 in
    let f = then_equal (nat_cmp p.height q.height) _ d.1 in
    let g = then_equal (nat_cmp p.tilewidth q.tilewidth) _ f.1 in
    let h = then_equal (nat_cmp p.tileheight q.tileheight) _ g.1 in
    alike_is p q (record {
      part = cmp_equal p.part q.part a.0;
      posy = cmp_equal p.posy q.posy b.0;
      posx = cmp_equal p.posx q.posx c.0;
      width = cmp_equal p.width q.width d.0;
      height = cmp_equal p.height q.height f.0;
      tilewidth = cmp_equal p.tilewidth q.tilewidth g.0;
      tileheight = cmp_equal p.tileheight q.tileheight h.0;
      nviewid = cmp_equal p.nviewid q.nviewid h.1;
    })

-- one that comes before another is another
pub before_apart : (p q : Place) → IsBefore p q → same_place p q ≡ false
before_apart p q before =
    elim (cases_Bool (same_place p q)) [
      | inl same ↦
          absurd (let e : key_order p q ≡ Equal =
          ap (key_order p) (sym (same_is p q same)) ∙ tied_itself key_total p in cc)
      | inr apart ↦ apart
    ]

is_less : (r : Ordering) → is_lt r ≡ true → r ≡ Less
is_less Less e = refl
is_less Equal e = absurd (cc)
is_less Greater e = absurd (cc)

pub before_by : (p q : Place) → is_lt (key_order p q) ≡ true → IsBefore p q
before_by p q e = is_less (key_order p q) e

-- one that neither comes before another nor is it comes after it
pub after_by : (p q : Place) → is_lt (key_order p q) ≡ false → same_place p q ≡ false → IsBefore q p
after_by p q not_less apart =
    let go : (r : Ordering) → key_order p q ≡ r → IsBefore q p = elim [
      | Less ↦ λ e. absurd (let less : is_lt (key_order p q) ≡ true = ap is_lt e in cc)
      | Equal ↦ λ e. absurd (not_same p q apart (equal_is p q e))
      | Greater ↦ λ e. key_total.antisymm q p ∙ ap ordering_reverse e
    ] in
    go (key_order p q) refl

pub before_trans : (p q r : Place) → IsBefore p q → IsBefore q r → IsBefore p r
before_trans p q r a b = key_total.trans p q r a b
