-- Numbers and lists of numbers, written and read again.
use Rattle.std.proofs.Common.{◌≡◌, ℕ, suc, ◌+◌, ◌*◌, ◌^◌, ◌<◌, ◌≤◌, Bool, true, not, ◌&&◌, ◌||◌, eqb, ltb, leb, List, [], ◌∷◌, ◌++◌, length, map, Option, Some, None, arith, refl, ap, ◌∙◌, subst, lit<, le-leb, length-append, append-nil}
use Rattle.std.proofs.lemmas.Bool.{and_parts, leb-true}
use Rattle.std.proofs.lemmas.Bool.Decides.{nat_tests}
use Rattle.std.proofs.lemmas.Option.{cond_some}
use Rattle.std.proofs.lemmas.List.Splits.{slice_split_none, slice_split_at, length-slice_split}
use Rattle.std.specs.Char.{is_ascii_digit}
use Rattle.std.specs.Fmt.{decimal}
use Rattle.std.specs.List.{list_all, AllByRecursion, flat_map}
use Rattle.std.specs.Option.{is_some, unwrap_or}
use Rattle.cool_base.specs.Numbers.{number, number_31, number_64, is_decimal, decimal_value}
use Rattle.cool_base.proofs.NumberLemmas.{number-decimal}
use Rattle.cool_words.specs.Lists.{parts, is_list, number_in, numbers, comma_and, list_text}
use Rattle.message_laws.proofs.Texts.{weaker, none_passes, all_join}

-- what a number that is read tells of its text
record IsRead (most limit : ℕ) (text : List ℕ) (n : ℕ) : Type 0 where
  pub digits : list_all is_ascii_digit text ≡ true
  pub short : length text ≤ most
  pub small : n ≤ limit

number_read : (most limit : ℕ) (text : List ℕ) (n : ℕ) → number most limit text ≡ Some n → IsRead most limit text n
number_read most limit text n h =
    let hit = cond_some (is_decimal text && (leb (length text) most && leb (decimal_value text) limit)) (decimal_value text) n h in
    let outer = and_parts (is_decimal text) (leb (length text) most && leb (decimal_value text) limit) hit.0 in
    let left = and_parts (ltb 0 (length text)) (list_all is_ascii_digit text) outer.0 in
    let right = and_parts (leb (length text) most) (leb (decimal_value text) limit) outer.1 in
    record {
      digits = left.1;
      short = leb-true (length text) most right.0;
      small = subst (λ (m : ℕ). m ≤ limit) hit.1 (leb-true (decimal_value text) limit right.1);
    }

-- a number that is read again where it is written
pub record IsWritten (read : List ℕ → Option ℕ) (n : ℕ) : Type 0 where
  pub back : read (decimal n) ≡ Some n
  pub digits : list_all is_ascii_digit (decimal n) ≡ true
  pub short : length (decimal n) ≤ 20

pub written_31 : (n : ℕ) → n < 2 ^ 31 → IsWritten number_31 n
written_31 n small =
    let back : number_31 (decimal n) ≡ Some n = number-decimal 10 2147483647 n (lit< tt) (omega arith) (omega arith) (omega arith) in
    let told = number_read 10 2147483647 (decimal n) n back in
    let short : length (decimal n) ≤ 10 = told.short in
    record { back = back; digits = told.digits; short = omega arith }

pub written_64 : (n : ℕ) → n < 2 ^ 64 → IsWritten number_64 n
written_64 n small =
    let back : number_64 (decimal n) ≡ Some n = number-decimal 20 18446744073709551615 n (lit< tt) (omega arith) (omega arith) (omega arith) in
    let told = number_read 20 18446744073709551615 (decimal n) n back in
    record { back = back; digits = told.digits; short = told.short }

pub small_31 : (text : List ℕ) (n : ℕ) → number_31 text ≡ Some n → n < 2 ^ 31
small_31 text n h =
    let small : n ≤ 2147483647 = (number_read 10 2147483647 text n h).small in
    omega arith

pub small_64 : (text : List ℕ) (n : ℕ) → number_64 text ≡ Some n → n < 2 ^ 64
small_64 text n h =
    let small : n ≤ 18446744073709551615 = (number_read 20 18446744073709551615 text n h).small in
    omega arith

pub again_31 : (text : List ℕ) (n : ℕ) → number_31 text ≡ Some n → IsWritten number_31 n
again_31 text n h = written_31 n (small_31 text n h)

pub again_64 : (text : List ℕ) (n : ℕ) → number_64 text ≡ Some n → IsWritten number_64 n
again_64 text n h = written_64 n (small_64 text n h)

pub some_is : (o : Option ℕ) → is_some o ≡ true → o ≡ Some (unwrap_or o 0)
some_is None h = absurd (cc)
some_is (Some n) h = refl

-- a text that is a number is written as one that is read again
pub number_again : (read : List ℕ → Option ℕ) → ((text : List ℕ) (n : ℕ) → read text ≡ Some n → IsWritten read n) → (text : List ℕ) → is_some (read text) ≡ true → IsWritten read (number_in read text)
number_again read again text h = again text (number_in read text) (some_is (read text) h)

-- what holds of each number that is read holds of the numbers of a list
pub parts_hold : (read : List ℕ → Option ℕ) (P : ℕ → Type 0) → ((text : List ℕ) (n : ℕ) → read text ≡ Some n → P n) → (ps : List (List ℕ)) → list_all (λ p. is_some (read p)) ps ≡ true → AllByRecursion P (map (number_in read) ps)
parts_hold read P holds [] h = tt
parts_hold read P holds (p ∷ ps) h =
    let both = and_parts (is_some (read p)) (list_all (λ q. is_some (read q)) ps) h in
    (holds p (number_in read p) (some_is (read p) both.0), parts_hold read P holds ps both.1)

-- digits and commas
unfoldable pub is_plain : ℕ → Bool
is_plain b = is_ascii_digit b || eqb b 44

abbrev is_comma : ℕ → Bool
is_comma b = eqb b 44

no_comma : (b : ℕ) → is_ascii_digit b ≡ true → not (is_comma b) ≡ true
no_comma b h = grind (arith, nat_tests)

plain_digit : (b : ℕ) → is_ascii_digit b ≡ true → is_plain b ≡ true
unfolding is_plain
plain_digit b h = rw h refl

plain_comma : is_plain 44 ≡ true
unfolding is_plain
plain_comma = refl

pub plain_digits : (ds : List ℕ) → list_all is_ascii_digit ds ≡ true → list_all is_plain ds ≡ true
plain_digits ds h = weaker is_ascii_digit is_plain plain_digit ds h

plain_tail : (read : List ℕ → Option ℕ) (ms : List ℕ) → AllByRecursion (IsWritten read) ms → list_all is_plain (flat_map comma_and ms) ≡ true
plain_tail read [] all = refl
plain_tail read (m ∷ ms) all =
    let here : list_all is_plain (44 ∷ decimal m) ≡ true = rw (plain_comma, plain_digits (decimal m) all.0.digits) refl in
    all_join is_plain (44 ∷ decimal m) (flat_map comma_and ms) here (plain_tail read ms all.1)

length_tail : (read : List ℕ → Option ℕ) (ms : List ℕ) → AllByRecursion (IsWritten read) ms → length (flat_map comma_and ms) ≤ 21 * length ms
length_tail read [] all = omega arith
length_tail read (m ∷ ms) all =
    let here : length (decimal m) ≤ 20 = all.0.short in
    let behind : length (flat_map comma_and ms) ≤ 21 * length ms = length_tail read ms all.1 in
    let sum : length ((44 ∷ decimal m) ++ flat_map comma_and ms) ≡ length (44 ∷ decimal m) + length (flat_map comma_and ms) = length-append (44 ∷ decimal m) (flat_map comma_and ms) in
    omega arith

parts_list : (read : List ℕ → Option ℕ) (n : ℕ) (ms : List ℕ) → AllByRecursion (IsWritten read) (n ∷ ms) → parts (list_text (n ∷ ms)) ≡ map decimal (n ∷ ms)
parts_list read n [] all =
    ap parts (append-nil (decimal n)) ∙ slice_split_none is_comma (decimal n) (none_passes is_comma (decimal n) (weaker is_ascii_digit (λ b. not (is_comma b)) no_comma (decimal n) all.0.digits))
parts_list read n (m ∷ ms) all =
    slice_split_at is_comma (decimal n) 44 (decimal m ++ flat_map comma_and ms) (none_passes is_comma (decimal n) (weaker is_ascii_digit (λ b. not (is_comma b)) no_comma (decimal n) all.0.digits)) refl
    ∙ ap (λ ps. decimal n ∷ ps) (parts_list read m ms all.1)

map_back : (read : List ℕ → Option ℕ) (ns : List ℕ) → AllByRecursion (IsWritten read) ns → map (number_in read) (map decimal ns) ≡ ns
map_back read [] all = refl
map_back read (n ∷ ns) all =
    let here : number_in read (decimal n) ≡ n = ap (λ o. unwrap_or o 0) all.0.back in
    let behind = map_back read ns all.1 in
    λ i. here i ∷ behind i

all_read : (read : List ℕ → Option ℕ) (ns : List ℕ) → AllByRecursion (IsWritten read) ns → list_all (λ p. is_some (read p)) (map decimal ns) ≡ true
all_read read [] all = refl
all_read read (n ∷ ns) all = rw (all.0.back, all_read read ns all.1) refl

pub length_mapped : {X Y : Type 0} (f : X → Y) (xs : List X) → length (map f xs) ≡ length xs
length_mapped f [] = refl
length_mapped f (x ∷ xs) = ap (λ n. suc n) (length_mapped f xs)

-- a list of numbers that is read again where it is written
pub record IsWrittenList (read : List ℕ → Option ℕ) (ns : List ℕ) : Type 0 where
  pub values : numbers read (list_text ns) ≡ ns
  pub is_list : is_list read (list_text ns) ≡ true
  pub many : length (parts (list_text ns)) ≡ length ns
  pub plain : list_all is_plain (list_text ns) ≡ true
  pub short : length (list_text ns) ≤ 21504

pub written_list : (read : List ℕ → Option ℕ) (ns : List ℕ) → 0 < length ns → length ns ≤ 1024 → AllByRecursion (IsWritten read) ns → IsWrittenList read ns
written_list read [] some few all = absurd (omega arith)
written_list read (n ∷ ms) some few all =
    let split : parts (list_text (n ∷ ms)) ≡ map decimal (n ∷ ms) = parts_list read n ms all in
    let count : length (map decimal (n ∷ ms)) ≡ length (n ∷ ms) = length_mapped decimal (n ∷ ms) in
    let within : leb (length (map decimal (n ∷ ms))) 1024 ≡ true = le-leb (length (map decimal (n ∷ ms))) 1024 (omega arith) in
    let first : length (decimal n) ≤ 20 = all.0.short in
    let behind : length (flat_map comma_and ms) ≤ 21 * length ms = length_tail read ms all.1 in
    let sum : length (decimal n ++ flat_map comma_and ms) ≡ length (decimal n) + length (flat_map comma_and ms) = length-append (decimal n) (flat_map comma_and ms) in
    record {
      values = ap (map (number_in read)) split ∙ map_back read (n ∷ ms) all;
      is_list = ap (λ ps. leb (length ps) 1024 && list_all (λ p. is_some (read p)) ps) split ∙ rw (within, all_read read (n ∷ ms) all) refl;
      many = ap length split ∙ count;
      plain = all_join is_plain (decimal n) (flat_map comma_and ms) (plain_digits (decimal n) all.0.digits) (plain_tail read ms all.1);
      short = omega arith;
    }

-- a text that is a list is written as one that is read again, with as many numbers
pub list_again : (read : List ℕ → Option ℕ) → ((text : List ℕ) (n : ℕ) → read text ≡ Some n → IsWritten read n) → (text : List ℕ) → is_list read text ≡ true → IsWrittenList read (numbers read text) × (length (numbers read text) ≡ length (parts text))
list_again read again text h =
    let both = and_parts (leb (length (parts text)) 1024) (list_all (λ p. is_some (read p)) (parts text)) h in
    let few : length (parts text) ≤ 1024 = leb-true (length (parts text)) 1024 both.0 in
    let count : length (numbers read text) ≡ length (parts text) = length_mapped (number_in read) (parts text) in
    let some = length-slice_split is_comma text in
    (written_list read (numbers read text) (omega arith) (omega arith) (parts_hold read (IsWritten read) again (parts text) both.1), count)
