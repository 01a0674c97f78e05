-- Searches through lists of views.
use Rattle.std.proofs.Common.{◌≡◌, List, [], ◌∷◌, map, length, Option, Some, None, Bool, true, false, cond, refl, sym, ap, ◌∙◌, suc}
use Rattle.std.specs.Option.{option_map}
use Rattle.std.specs.List.{find, filter, count_by}
use Rattle.std.proofs.lemmas.List.Sums.{length-filter}

find-map : {X Y : Type 0} (p : Y → Bool) (f : X → Y) (xs : List X) → find p (map f xs) ≡ option_map f (find (λ x. p (f x)) xs)
find-map p f [] = refl
find-map p f (x ∷ xs) = elim (p (f x)) as (λ b. cond b (Some (f x)) (find p (map f xs)) ≡ option_map f (cond b (Some x) (find (λ x. p (f x)) xs))) [ true ↦ refl | false ↦ find-map p f xs ]

same_option : {X : Type 0} (o : Option X) → option_map (λ x. x) o ≡ o
same_option None = refl
same_option (Some x) = refl

-- what a search among references finds is what a search among their values finds
pub found-mapped : {X Y : Type 0} (p : Y → Bool) (f : X → Y) (xs : List X) (r : Option X) → option_map (λ x. x) r ≡ find (λ x. p (f x)) xs → option_map f r ≡ find p (map f xs)
found-mapped p f xs r h = ap (option_map f) (sym (same_option r) ∙ h) ∙ sym (find-map p f xs)

filter-map : {X Y : Type 0} (p : Y → Bool) (f : X → Y) (xs : List X) → filter p (map f xs) ≡ map f (filter (λ x. p (f x)) xs)
filter-map p f [] = refl
filter-map p f (x ∷ xs) = elim (p (f x)) as (λ b. cond b (f x ∷ filter p (map f xs)) (filter p (map f xs)) ≡ map f (cond b (x ∷ filter (λ x. p (f x)) xs) (filter (λ x. p (f x)) xs))) [ true ↦ ap (λ ys. f x ∷ ys) (filter-map p f xs) | false ↦ filter-map p f xs ]

length-mapped : {X Y : Type 0} (f : X → Y) (xs : List X) → length (map f xs) ≡ length xs
length-mapped f [] = refl
length-mapped f (x ∷ xs) = ap (λ n. suc n) (length-mapped f xs)

-- the same of a count
pub count-mapped : {X Y : Type 0} (p : Y → Bool) (f : X → Y) (xs : List X) → length (filter (λ x. p (f x)) xs) ≡ count_by p (map f xs)
count-mapped p f xs = sym (length-mapped f (filter (λ x. p (f x)) xs)) ∙ ap length (sym (filter-map p f xs)) ∙ length-filter p (map f xs)
