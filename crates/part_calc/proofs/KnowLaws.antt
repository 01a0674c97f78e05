-- Lanes know which formulas name a cell.
use Rattle.std.specs.Prelude.{Result, Ok, Err, OnOk, OnErr}
use Rattle.std.proofs.Common.{◌≡◌, ◌≢◌, ◌⊎◌, inl, inr, ℕ, ◌+◌, ◌/◌, ◌<◌, ◌≤◌, Bool, true, false, cond, not, ◌||◌, ◌&&◌, List, [], ◌∷◌, ◌++◌, length, take, get_or, Option, Some, None, refl, ap, sym, ◌∙◌, ⊎_elim, unwrap_or, min, max, nat_le, eqb, leb-true, arith}
use Rattle.std.specs.BTreeMap.{is_at, insert_entry}
use Rattle.std.specs.List.{list_any, filter}
use Rattle.std.specs.List.Sorted.{IsStrictlySortedBy}
use Rattle.std.specs.Map.{keys_of, lookup}
use Rattle.std.proofs.lemmas.Bool.{both_ways, cases_lt, or_cases, or_left, or_right, and_parts, and_from, cond-true, eqb-true, not_from_true, not_from_false}
use Rattle.std.proofs.lemmas.List.{take_more}
use Rattle.std.proofs.lemmas.Nat.{div-add-mod', le-div}
use Rattle.std.proofs.lemmas.List.Folds.{list_any-append}
use Rattle.formula_base.specs.Blocks.{Block, is_within}
use Rattle.formula_base.specs.Evaluation.{names_of}
use Rattle.formula_base.specs.Ranges.{Position, position_cmp}
use Rattle.formula_base.proofs.BlockLaws.{held}
use Rattle.part_calc.specs.declared.contents.Content.{Content}
use Rattle.part_calc.specs.declared.contents.Content.TheVariants.{Plain, Formula}
use Rattle.part_calc.specs.declared.lanes.Span.{Span}
use Rattle.part_calc.specs.Contents.{content_of, blocks_in, reads_in, is_formula}
use Rattle.part_calc.specs.Dependants.{Depend}
use Rattle.part_calc.specs.Finding.{is_listed}
use Rattle.part_calc.specs.Lanes.{Index, lane_of, lanes_at, spans_in, is_block, is_span, has_span, is_read, is_reader, IsGrown, Knows}
use Rattle.part_calc.specs.Fates.{Fates, is_fresh}
use Rattle.part_calc.specs.Parts.{Part, text_at, content_at, reads_at, with_text}
use Rattle.part_calc.specs.Walking.{IsReached}
use Rattle.part_calc.proofs.ListLaws.{listed_fold}
use Rattle.part_calc.proofs.PositionLaws.{at_one, at_itself, at_flip, lookup_insert}
use Rattle.part_calc.proofs.TextLaws.{empty_content, text_same, text_other}

-- ---- what is named is within a block

-- a cell is read exactly where it lies in a block
pub read_within : (c : Content) (p : Position) → list_any (is_within p) (blocks_in c) ≡ is_listed (reads_in c) p
read_within (Plain v) p = refl
read_within (Formula e) p = held e (blocks_in (Formula e)) refl p ∙ sym (listed_fold [] (names_of e) p)

-- one element that passes
any_one : {X : Type 0} (test : X → Bool) (xs : List X) → list_any test xs ≡ true → (x : X) × (test x ≡ true) × (((other : X → Bool) → other x ≡ true → list_any other xs ≡ true))
any_one test [] h = absurd (both_ways false refl h)
any_one {X} test (x ∷ xs) h =
    ⊎_elim
    (λ (here : test x ≡ true). (x, here, λ other is. or_left (other x) (list_any other xs) is))
    (λ (there : list_any test xs ≡ true). let found = any_one test xs there in (found.0, found.1, λ other is. or_right (other x) (list_any other xs) (found.2 other is)))
    (or_cases (test x) (list_any test xs) h)

pub block_itself : (b : Block) → is_block b b ≡ true
block_itself b = and_from (is_at (position_cmp b.0) b.0) (is_at (position_cmp b.1) b.1) (at_itself b.0) (at_itself b.1)

pub block_one : (b d : Block) → is_block b d ≡ true → b ≡ d
block_one b d h =
    let parts = and_parts (is_at (position_cmp b.0) d.0) (is_at (position_cmp b.1) d.1) h in
    ap (λ (p : Position). (p, b.1)) (at_one b.0 d.0 parts.0) ∙ ap (λ (p : Position). (d.0, p)) (at_one b.1 d.1 parts.1)

-- ---- lanes

-- a number between two that are equal
pinned : (a b r : ℕ) → (nat_le (min a b) r && nat_le r (max a b)) ≡ true → eqb a b ≡ true → r ≡ a
pinned a b r h e =
    let parts = and_parts (nat_le (min a b) r) (nat_le r (max a b)) h in
    let low = leb-true (min a b) r parts.0 in
    let high = leb-true r (max a b) parts.1 in
    let same = eqb-true a b e in
    omega (arith, low, high, same)

-- and one between two that lie in one band
kept_order : (k a r : ℕ) → 0 < k → a ≤ r → a / k ≤ r / k
kept_order k a r some h =
    let whole = div-add-mod' a k in
    le-div (a / k) r k some (omega (arith, whole, h))

banded : (k a b r : ℕ) → 0 < k → (nat_le (min a b) r && nat_le r (max a b)) ≡ true
    → eqb (a / k) (b / k) ≡ true → r / k ≡ a / k
banded k a b r some h e =
    let parts = and_parts (nat_le (min a b) r) (nat_le r (max a b)) h in
    by (leb-true (min a b) r parts.0) (leb-true r (max a b) parts.1) (eqb-true (a / k) (b / k) e)
    (cases_lt a b)
  where
    by : min a b ≤ r → r ≤ max a b → a / k ≡ b / k → (a < b) ⊎ (b ≤ a) → r / k ≡ a / k
    by low high same (inl rises) =
        let first = kept_order k a r some (omega (arith, low, rises)) in
        let last = kept_order k r b some (omega (arith, high, rises)) in
        omega (arith, first, last, same)
    by low high same (inr falls) =
        let first = kept_order k b r some (omega (arith, low, falls)) in
        let last = kept_order k r a some (omega (arith, high, falls)) in
        omega (arith, first, last, same)

-- a list has what stands in it
any_at : {X : Type 0} (test : X → Bool) (xs : List X) (x : X) (ys : List X) → test x ≡ true
    → list_any test (xs ++ x ∷ ys) ≡ true
any_at test [] x ys h = or_left (test x) (list_any test ys) h
any_at test (y ∷ xs) x ys h =
    or_right (test y) (list_any test (xs ++ x ∷ ys)) (any_at test xs x ys h)

-- the lane of a block is one of those of each cell in it
lane_hit : (b : Block) (r : Position) → is_within r b ≡ true → (test : Position → Bool)
    → test (lane_of b) ≡ true → list_any test (lanes_at r) ≡ true
lane_hit b r within test =
    by (eqb b.0.1 b.1.1) (eqb b.0.0 b.1.0) (eqb (b.0.0 / 16) (b.1.0 / 16))
    (eqb (b.0.0 / 256) (b.1.0 / 256)) refl refl refl refl
  where
    parts : ((nat_le (min b.0.0 b.1.0) r.0 && nat_le r.0 (max b.0.0 b.1.0)) ≡ true)
        × ((nat_le (min b.0.1 b.1.1) r.1 && nat_le r.1 (max b.0.1 b.1.1)) ≡ true)
    parts =
        and_parts (nat_le (min b.0.0 b.1.0) r.0 && nat_le r.0 (max b.0.0 b.1.0))
        (nat_le (min b.0.1 b.1.1) r.1 && nat_le r.1 (max b.0.1 b.1.1)) within

    column_lane : Position
    column_lane = (4096, r.1)

    row_lane : Position
    row_lane = (r.0, 256)

    sixteen : Position
    sixteen = (4096 + 1, r.0 / 16)

    many : Position
    many = (4096 + 2, r.0 / 256)

    last : Position
    last = (4096, 256)

    by : (x y z w : Bool) → eqb b.0.1 b.1.1 ≡ x → eqb b.0.0 b.1.0 ≡ y
        → eqb (b.0.0 / 16) (b.1.0 / 16) ≡ z → eqb (b.0.0 / 256) (b.1.0 / 256) ≡ w
        → test
        (cond x (cond y b.0 (4096, b.0.1))
        (cond y (b.0.0, 256)
        (cond z (4096 + 1, b.0.0 / 16) (cond w (4096 + 2, b.0.0 / 256) (4096, 256))))) ≡ true
        → list_any test (lanes_at r) ≡ true
    by true true z w column row band bands h =
        any_at test [] r (column_lane ∷ row_lane ∷ sixteen ∷ many ∷ last ∷ [])
        (ap (λ (n : ℕ). test (n, r.1)) (pinned b.0.0 b.1.0 r.0 parts.0 row)
        ∙ ap (λ (n : ℕ). test (b.0.0, n)) (pinned b.0.1 b.1.1 r.1 parts.1 column) ∙ h)
    by true false z w column row band bands h =
        any_at test (r ∷ []) column_lane (row_lane ∷ sixteen ∷ many ∷ last ∷ [])
        (ap (λ (n : ℕ). test (4096, n)) (pinned b.0.1 b.1.1 r.1 parts.1 column) ∙ h)
    by false true z w column row band bands h =
        any_at test (r ∷ column_lane ∷ []) row_lane (sixteen ∷ many ∷ last ∷ [])
        (ap (λ (n : ℕ). test (n, 256)) (pinned b.0.0 b.1.0 r.0 parts.0 row) ∙ h)
    by false false true w column row band bands h =
        any_at test (r ∷ column_lane ∷ row_lane ∷ []) sixteen (many ∷ last ∷ [])
        (ap (λ (n : ℕ). test (4096 + 1, n)) (banded 16 b.0.0 b.1.0 r.0 (omega arith) parts.0 band) ∙ h)
    by false false false true column row band bands h =
        any_at test (r ∷ column_lane ∷ row_lane ∷ sixteen ∷ []) many (last ∷ [])
        (ap (λ (n : ℕ). test (4096 + 2, n)) (banded 256 b.0.0 b.1.0 r.0 (omega arith) parts.0 bands) ∙ h)
    by false false false false column row band bands h =
        any_at test (r ∷ column_lane ∷ row_lane ∷ sixteen ∷ many ∷ []) last [] h

-- a block that stands in its lane is of a reader of each cell in it
reader_from_span : (index : Index) (b : Block) (c r : Position) → has_span index b c ≡ true → is_within r b ≡ true → is_reader index r c ≡ true
reader_from_span index b c r has within =
    let found = any_one (is_span b c) (spans_in index (lane_of b)) has in
    let parts = and_parts (is_block b found.0.block) (is_at (position_cmp c) found.0.reader) found.1 in
    lane_hit b r within (λ lane. is_read (spans_in index lane) r c)
    (found.2 (λ s. is_within r s.block && is_at (position_cmp c) s.reader)
    (and_from (is_within r found.0.block) (is_at (position_cmp c) found.0.reader) (ap (is_within r) (sym (block_one b found.0.block parts.0)) ∙ within) parts.1))

-- who reads a cell stands as a reader of it
knows_reader : (part : Part) (index : Index) → Knows part index → (c r : Position) → is_listed (reads_at part c) r ≡ true → is_reader index r c ≡ true
knows_reader part index knows c r reads =
    let found = any_one (is_within r) (blocks_in (content_at part c)) (read_within (content_at part c) r ∙ reads) in
    reader_from_span index found.0 c r (knows c found.0 (found.2 (is_block found.0) (block_itself found.0))) found.1

-- what a walk from a cell reaches depends on it
pub reached_depends : (part : Part) (index : Index) (at : Position) (fresh : Fates) (ordered : List Position) → Knows part index → IsReached index (λ c. is_at (position_cmp c) at) fresh ordered → Depend part at (is_fresh fresh)
reached_depends part index at fresh ordered knows reached = record {
  start = reached.start at (at_itself at);
  closed = λ c r there reads. reached.closed c r there (knows_reader part index knows c r reads);
}

-- ---- what is known stays known

pub knows_grown : (part : Part) (index after : Index) → Knows part index → IsGrown index after → Knows part after
knows_grown part index after knows grown c b named = grown b c (knows c b named)

pub knows_after : (part : Part) (at : Position) (raw : List ℕ) (index learned after : Index) → IsStrictlySortedBy position_cmp (keys_of part) → Knows part index → IsGrown index learned
    → ((b : Block) → list_any (is_block b) (blocks_in (content_of raw)) ≡ true → has_span learned b at ≡ true)
    → ((b : Block) (c : Position) → has_span learned b c ≡ true → (not (is_at (position_cmp c) at) || list_any (is_block b) (blocks_in (content_at (with_text part at raw) at))) ≡ true → has_span after b c ≡ true)
    → Knows (with_text part at raw) after
knows_after part at raw index learned after sorted knows grown added stay c b named = by (is_at (position_cmp c) at) refl
  where
    by : (x : Bool) → is_at (position_cmp c) at ≡ x → has_span after b c ≡ true
    by true here =
        let same = at_one c at here in
        let named_here : list_any (is_block b) (blocks_in (content_at (with_text part at raw) at)) ≡ true = ap (λ (q : Position). list_any (is_block b) (blocks_in (content_at (with_text part at raw) q))) (sym same) ∙ named in
        stay b c (ap (has_span learned b) same ∙ added b (ap (λ (r : List ℕ). list_any (is_block b) (blocks_in (content_of r))) (sym (text_same part at raw sorted)) ∙ named_here))
        (or_right (not (is_at (position_cmp c) at)) (list_any (is_block b) (blocks_in (content_at (with_text part at raw) at))) named_here)
    by false apart =
        let other : c ≢ at = λ same. both_ways (is_at (position_cmp c) at) apart (ap (is_at (position_cmp c)) (sym same) ∙ at_itself c) in
        stay b c (grown b c (knows c b (ap (λ (r : List ℕ). list_any (is_block b) (blocks_in (content_of r))) (sym (text_other part at raw c sorted other)) ∙ named)))
        (or_left (not (is_at (position_cmp c) at)) (list_any (is_block b) (blocks_in (content_at (with_text part at raw) at))) (not_from_false (is_at (position_cmp c) at) apart))

-- a formula elsewhere was one before the edit
pub formula_elsewhere : (part : Part) (at : Position) (raw : List ℕ) → IsStrictlySortedBy position_cmp (keys_of part) → (p : Position) → is_at (position_cmp p) at ≡ false → is_formula (content_at (with_text part at raw) p) ≡ true → is_formula (content_at part p) ≡ true
formula_elsewhere part at raw sorted p apart kind =
    ap (λ (r : List ℕ). is_formula (content_of r)) (sym (text_other part at raw p sorted (λ same. both_ways (is_at (position_cmp p) at) apart (ap (is_at (position_cmp p)) (sym same) ∙ at_itself p)))) ∙ kind

-- ---- a span that is added

pub push_grown : (before after : Index) (lane : Position) (s : Span) → ((q : Position) → spans_in after q ≡ cond (is_at (position_cmp q) lane) (spans_in before q ++ s ∷ []) (spans_in before q)) → IsGrown before after
push_grown before after lane s put b c has = ap (list_any (is_span b c)) (put (lane_of b)) ∙ by (is_at (position_cmp (lane_of b)) lane)
  where
    by : (x : Bool) → list_any (is_span b c) (cond x (spans_in before (lane_of b) ++ s ∷ []) (spans_in before (lane_of b))) ≡ true
    by true = list_any-append (is_span b c) (spans_in before (lane_of b)) (s ∷ []) ∙ or_left (list_any (is_span b c) (spans_in before (lane_of b))) (list_any (is_span b c) (s ∷ [])) has
    by false = has

pub push_there : (before after : Index) (block : Block) (reader : Position) (s : Span) → s.block ≡ block → s.reader ≡ reader → ((q : Position) → spans_in after q ≡ cond (is_at (position_cmp q) (lane_of block)) (spans_in before q ++ s ∷ []) (spans_in before q)) → (b : Block) → is_block b block ≡ true → has_span after b reader ≡ true
push_there before after block reader s is_block_of is_reader_of put b same =
    ap (λ (d : Block). has_span after d reader) (block_one b block same)
    ∙ ap (list_any (is_span block reader)) (put (lane_of block) ∙ cond-true (is_at (position_cmp (lane_of block)) (lane_of block)) (spans_in before (lane_of block) ++ s ∷ []) (spans_in before (lane_of block)) (at_itself (lane_of block)))
    ∙ list_any-append (is_span block reader) (spans_in before (lane_of block)) (s ∷ [])
    ∙ or_right (list_any (is_span block reader) (spans_in before (lane_of block))) (is_span block reader s || false)
    (or_left (is_span block reader s) false
    (and_from (is_block block s.block) (is_at (position_cmp reader) s.reader) (ap (is_block block) is_block_of ∙ block_itself block) (ap (is_at (position_cmp reader)) is_reader_of ∙ at_itself reader)))

pub push_added : (before after : Index) (block : Block) (reader lane : Position) → lane ≡ lane_of block → ((q : Position) → spans_in after q ≡ cond (is_at (position_cmp q) lane) (spans_in before q ++ record { block = block; reader = reader } ∷ []) (spans_in before q)) → (b : Block) → is_block b block ≡ true → has_span after b reader ≡ true
push_added before after block reader lane is put =
    push_there before after block reader (record { block = block; reader = reader }) refl refl
    (λ q. put q ∙ ap (λ (l : Position). cond (is_at (position_cmp q) l) (spans_in before q ++ record { block = block; reader = reader } ∷ []) (spans_in before q)) is)

pub grown_both : (a b c : Index) → IsGrown a b → IsGrown b c → IsGrown a c
grown_both a b c first second block reader has = second block reader (first block reader has)

-- the first blocks were added, and one more
pub added_more : (blocks present : List Block) (before after : Index) (reader : Position) (i : ℕ) (block : Block) → i < length blocks → block ≡ get_or blocks i block
    → ((b : Block) → list_any (is_block b) (take i blocks) ≡ true → (list_any (is_block b) present || has_span before b reader) ≡ true) → IsGrown before after
    → ((b : Block) → is_block b block ≡ true → (list_any (is_block b) present || has_span after b reader) ≡ true)
    → (b : Block) → list_any (is_block b) (take (i + 1) blocks) ≡ true → (list_any (is_block b) present || has_span after b reader) ≡ true
added_more blocks present before after reader i block h is held grown added b named =
    ⊎_elim
    (λ (old : list_any (is_block b) (take i blocks) ≡ true).
    ⊎_elim
    (λ (e : list_any (is_block b) present ≡ true). or_left (list_any (is_block b) present) (has_span after b reader) e)
    (λ (e : has_span before b reader ≡ true). or_right (list_any (is_block b) present) (has_span after b reader) (grown b reader e))
    (or_cases (list_any (is_block b) present) (has_span before b reader) (held b old)))
    (λ (new : (is_block b block || false) ≡ true).
    ⊎_elim (λ (e : is_block b block ≡ true). added b e) (λ (e : false ≡ true). absurd (both_ways false refl e)) (or_cases (is_block b block) false new))
    (or_cases (list_any (is_block b) (take i blocks)) (is_block b block || false)
    (sym (list_any-append (is_block b) (take i blocks) (block ∷ [])) ∙ ap (λ (d : Block). list_any (is_block b) (take i blocks ++ d ∷ [])) is ∙ ap (list_any (is_block b)) (sym (take_more blocks i block h)) ∙ named))

-- ---- a span that is taken out

any_filter : {X : Type 0} (p test : X → Bool) (xs : List X) → ((x : X) → p x ≡ true → test x ≡ true) → list_any p xs ≡ true → list_any p (filter test xs) ≡ true
any_filter p test [] keeps h = h
any_filter p test (x ∷ xs) keeps h =
    ⊎_elim
    (λ (here : p x ≡ true). ap (list_any p) (cond-true (test x) (x ∷ filter test xs) (filter test xs) (keeps x here)) ∙ or_left (p x) (list_any p (filter test xs)) here)
    (λ (there : list_any p xs ≡ true). by (test x) (any_filter p test xs keeps there))
    (or_cases (p x) (list_any p xs) h)
  where
    by : (b : Bool) → list_any p (filter test xs) ≡ true → list_any p (cond b (x ∷ filter test xs) (filter test xs)) ≡ true
    by true ih = or_right (p x) (list_any p (filter test xs)) ih
    by false ih = ih

pub clear_stays : (before after : Index) (block : Block) (reader : Position) (staying : List Block) → list_any (is_block block) staying ≡ false
    → ((q : Position) → spans_in after q ≡ cond (is_at (position_cmp q) (lane_of block)) (filter (λ s. not (is_span block reader s)) (spans_in before q)) (spans_in before q))
    → (b : Block) (c : Position) → has_span before b c ≡ true → (not (is_at (position_cmp c) reader) || list_any (is_block b) staying) ≡ true → has_span after b c ≡ true
clear_stays before after block reader staying absent cleared b c has stays = ap (list_any (is_span b c)) (cleared (lane_of b)) ∙ by (is_at (position_cmp (lane_of b)) (lane_of block))
  where
    another : (s : Span) → is_span b c s ≡ true → not (is_span block reader s) ≡ true
    another s same = by_span (is_span block reader s) refl
      where
        by_span : (x : Bool) → is_span block reader s ≡ x → not x ≡ true
        by_span false e = refl
        by_span true e =
            let mine = and_parts (is_block b s.block) (is_at (position_cmp c) s.reader) same in
            let its = and_parts (is_block block s.block) (is_at (position_cmp reader) s.reader) e in
            let one_block : b ≡ block = block_one b s.block mine.0 ∙ sym (block_one block s.block its.0) in
            let one_cell : c ≡ reader = at_one c s.reader mine.1 ∙ sym (at_one reader s.reader its.1) in
            absurd (⊎_elim
            (λ (h : not (is_at (position_cmp c) reader) ≡ true). both_ways (not (is_at (position_cmp c) reader)) (not_from_true (is_at (position_cmp c) reader) (ap (is_at (position_cmp c)) (sym one_cell) ∙ at_itself c)) h)
            (λ (h : list_any (is_block b) staying ≡ true). both_ways (list_any (is_block block) staying) absent (ap (λ (d : Block). list_any (is_block d) staying) (sym one_block) ∙ h))
            (or_cases (not (is_at (position_cmp c) reader)) (list_any (is_block b) staying) stays))

    by : (x : Bool) → list_any (is_span b c) (cond x (filter (λ s. not (is_span block reader s)) (spans_in before (lane_of b))) (spans_in before (lane_of b))) ≡ true
    by true = any_filter (is_span b c) (λ s. not (is_span block reader s)) (spans_in before (lane_of b)) another has
    by false = has

pub cleared_stays : (before after : Index) (block : Block) (reader lane : Position) (staying : List Block) → lane ≡ lane_of block → list_any (is_block block) staying ≡ false
    → ((q : Position) → spans_in after q ≡ cond (is_at (position_cmp q) lane) (filter (λ s. not (is_span block reader s)) (spans_in before q)) (spans_in before q))
    → (b : Block) (c : Position) → has_span before b c ≡ true → (not (is_at (position_cmp c) reader) || list_any (is_block b) staying) ≡ true → has_span after b c ≡ true
cleared_stays before after block reader lane staying is absent cleared =
    clear_stays before after block reader staying absent
    (λ q. cleared q ∙ ap (λ (l : Position). cond (is_at (position_cmp q) l) (filter (λ s. not (is_span block reader s)) (spans_in before q)) (spans_in before q)) is)

-- ---- the cells of a part, one after another

-- what is known so far: each block that is named stands in its lane, or is of a cell to come
abbrev pub KnowsSo : Part → Part → Index → Type 0
KnowsSo part rest index = (c : Position) (b : Block) → list_any (is_block b) (blocks_in (content_at part c)) ≡ true → (has_span index b c || list_any (is_block b) (blocks_in (content_at rest c))) ≡ true

pub knows_first : (part rest : Part) (index : Index) → rest ≡ part → KnowsSo part rest index
knows_first part rest index is c b named =
    or_right (has_span index b c) (list_any (is_block b) (blocks_in (content_at rest c))) (ap (λ (s : Part). list_any (is_block b) (blocks_in (content_at s c))) is ∙ named)

pub knows_more : (part rest : Part) (e : Position × List ℕ) (es : Part) (index after : Index) → KnowsSo part rest index → rest ≡ e ∷ es → IsGrown index after → ((b : Block) → list_any (is_block b) (blocks_in (content_of e.1)) ≡ true → (false || has_span after b e.0) ≡ true) → KnowsSo part es after
unfolding text_at
knows_more part rest e es index after held is grown added c b named =
    ⊎_elim
    (λ (old : has_span index b c ≡ true). or_left (has_span after b c) (list_any (is_block b) (blocks_in (content_at es c))) (grown b c old))
    (λ (new : list_any (is_block b) (blocks_in (content_at rest c)) ≡ true).
    by (is_at (position_cmp c) e.0) refl (ap (λ (s : Part). list_any (is_block b) (blocks_in (content_at s c))) (sym is) ∙ new))
    (or_cases (has_span index b c) (list_any (is_block b) (blocks_in (content_at rest c))) (held c b named))
  where
    by : (x : Bool) → is_at (position_cmp c) e.0 ≡ x → list_any (is_block b) (blocks_in (content_of (unwrap_or (cond x (Some e.1) (lookup (is_at (position_cmp c)) es)) []))) ≡ true → (has_span after b c || list_any (is_block b) (blocks_in (content_at es c))) ≡ true
    by true at h = or_left (has_span after b c) (list_any (is_block b) (blocks_in (content_at es c))) (ap (has_span after b) (at_one c e.0 at) ∙ added b h)
    by false at h = or_right (has_span after b c) (list_any (is_block b) (blocks_in (content_at es c))) h

pub knows_last : (part rest : Part) (index : Index) → KnowsSo part rest index → rest ≡ [] → Knows part index
unfolding text_at
knows_last part rest index held none c b named =
    ⊎_elim
    (λ (old : has_span index b c ≡ true). old)
    (λ (new : list_any (is_block b) (blocks_in (content_at rest c)) ≡ true).
    absurd (both_ways false refl
    (ap (λ (x : Content). list_any (is_block b) (blocks_in x)) (sym empty_content) ∙ ap (λ (s : Part). list_any (is_block b) (blocks_in (content_at s c))) (sym none) ∙ new)))
    (or_cases (has_span index b c) (list_any (is_block b) (blocks_in (content_at rest c))) (held c b named))

-- nothing is named in an empty part
pub knows_none : (part : Part) (index : Index) → part ≡ [] → Knows part index
knows_none part index none = knows_last part part index (knows_first part part index refl) none

-- ---- for the code

-- the blocks of a cell, as a look-up lends it
pub blocks_there : (part : Part) (p : Position) (raw : List ℕ) → lookup (is_at (position_cmp p)) part ≡ Some raw → blocks_in (content_of raw) ≡ blocks_in (content_at part p)
unfolding text_at
blocks_there part p raw is = ap (λ (o : Option (List ℕ)). blocks_in (content_of (unwrap_or o []))) (sym is)

pub no_blocks : (part : Part) (p : Position) → lookup (is_at (position_cmp p)) part ≡ None → [] ≡ blocks_in (content_at part p)
unfolding text_at
no_blocks part p is = ap blocks_in (sym empty_content) ∙ ap (λ (o : Option (List ℕ)). blocks_in (content_of (unwrap_or o []))) (sym is)

pub formula_there : (part : Part) (p : Position) (raw : List ℕ) → lookup (is_at (position_cmp p)) part ≡ Some raw → is_formula (content_of raw) ≡ is_formula (content_at part p)
unfolding text_at
formula_there part p raw is = ap (λ (o : Option (List ℕ)). is_formula (content_of (unwrap_or o []))) (sym is)

pub no_formula_there : (part : Part) (p : Position) → lookup (is_at (position_cmp p)) part ≡ None → false ≡ is_formula (content_at part p)
unfolding text_at
no_formula_there part p is = ap is_formula (sym empty_content) ∙ ap (λ (o : Option (List ℕ)). is_formula (content_of (unwrap_or o []))) (sym is)

-- ---- a lane that is written

pub spans_found : (index : Index) (lane : Position) (x : List Span) → lookup (is_at (position_cmp lane)) index ≡ Some x → spans_in index lane ≡ x
unfolding spans_in
spans_found index lane x is = ap (λ (o : Option (List Span)). unwrap_or o []) is

pub spans_none : (index : Index) (lane : Position) → lookup (is_at (position_cmp lane)) index ≡ None → spans_in index lane ≡ []
unfolding spans_in
spans_none index lane is = ap (λ (o : Option (List Span)). unwrap_or o []) is

-- the spans of each lane once those of one were changed
pub spans_changed : (f : List Span → List Span) (before after : Index) (lane : Position) (w : List Span) → w ≡ f (spans_in before lane) → ((q : Position) → lookup (is_at (position_cmp q)) after ≡ cond (is_at (position_cmp lane) q) (Some w) (lookup (is_at (position_cmp q)) before))
    → (q : Position) → spans_in after q ≡ cond (is_at (position_cmp q) lane) (f (spans_in before q)) (spans_in before q)
unfolding spans_in
spans_changed f before after lane w is written q =
    ap (λ (o : Option (List Span)). unwrap_or o []) (written q)
    ∙ ap (λ (b : Bool). unwrap_or (cond b (Some w) (lookup (is_at (position_cmp q)) before)) []) (at_flip lane q)
    ∙ by (is_at (position_cmp q) lane) refl
  where
    by : (b : Bool) → is_at (position_cmp q) lane ≡ b → unwrap_or (cond b (Some w) (lookup (is_at (position_cmp q)) before)) [] ≡ cond b (f (unwrap_or (lookup (is_at (position_cmp q)) before) [])) (unwrap_or (lookup (is_at (position_cmp q)) before) [])
    by true at = is ∙ ap (λ (r : Position). f (unwrap_or (lookup (is_at (position_cmp r)) before) [])) (sym (at_one q lane at))
    by false at = refl

-- where a lane has none, nothing is taken out
pub clear_none : (test : Span → Bool) (index : Index) (lane : Position) → lookup (is_at (position_cmp lane)) index ≡ None → (q : Position) → spans_in index q ≡ cond (is_at (position_cmp q) lane) (filter test (spans_in index q)) (spans_in index q)
clear_none test index lane none q = by (is_at (position_cmp q) lane) refl
  where
    by : (b : Bool) → is_at (position_cmp q) lane ≡ b → spans_in index q ≡ cond b (filter test (spans_in index q)) (spans_in index q)
    by true at =
        let empty = ap (spans_in index) (at_one q lane at) ∙ spans_none index lane none in
        empty ∙ sym (ap (filter test) empty)
    by false at = refl

-- the spans of each lane once one had what it had
pub spans_same : (before after : Index) (lane : Position) (w : List Span) → w ≡ spans_in before lane → ((q : Position) → lookup (is_at (position_cmp q)) after ≡ cond (is_at (position_cmp lane) q) (Some w) (lookup (is_at (position_cmp q)) before)) → (q : Position) → spans_in after q ≡ spans_in before q
spans_same before after lane w is written q = spans_changed (λ x. x) before after lane w is written q ∙ same (is_at (position_cmp q) lane) (spans_in before q)
  where
    same : (b : Bool) (x : List Span) → cond b x x ≡ x
    same true x = refl
    same false x = refl

-- a lane that is made for one span
pub spans_made : (before after : Index) (lane : Position) (s : Span) (w : List Span) → lookup (is_at (position_cmp lane)) before ≡ None → w ≡ [] ++ s ∷ [] → after ≡ insert_entry position_cmp before lane w → (q : Position) → spans_in after q ≡ cond (is_at (position_cmp q) lane) (spans_in before q ++ s ∷ []) (spans_in before q)
spans_made before after lane s w none is made =
    spans_changed (λ x. x ++ s ∷ []) before after lane w (is ∙ ap (λ (x : List Span). x ++ s ∷ []) (sym (spans_none before lane none)))
    (λ q. ap (λ (es : Index). lookup (is_at (position_cmp q)) es) made ∙ lookup_insert before lane w q ∙ ap (λ (b : Bool). cond b (Some w) (lookup (is_at (position_cmp q)) before)) (at_flip q lane))

-- facts of a call that succeeded, and of one that failed
pub on_ok : {T E : Type 0} (A B : Type 0) (r : Result T E) → (A → B) → OnOk r A → OnOk r B
on_ok A B (Ok x) f h = f h
on_ok A B (Err e) f h = tt

pub on_err : {T E : Type 0} (A B : Type 0) (r : Result T E) → (A → B) → OnErr r A → OnErr r B
on_err A B (Ok x) f h = tt
on_err A B (Err e) f h = f h
