-- Bytes one after another: by one, by a block of content, by two pieces.
use Rattle.std.proofs.Common.{ℕ, ◌≡◌, ◌+◌, ◌-◌, ◌<◌, ◌≤◌, true, false, cond, List, [], ◌∷◌, ◌++◌, length, refl, sym, ap, ◌∙◌, arith, append_assoc, max, take, drop, get_or}
use Rattle.std.proofs.lemmas.List.{length-take-le, take-append-drop}
use Rattle.wire_body.specs.declared.states.BodyState.{BodyState}
use Rattle.wire_body.specs.declared.states.Phase.{Phase}
use Rattle.wire_body.specs.declared.states.Phase.TheVariants.{Counted, Open, Full, Size, Digits, Pad, Extension, SizeEnd, Data, DataEnd, DataFeed, Trailer, Name, Value, ValueEnd, LastEnd, Done, TooLong, Bad}
use Rattle.std.proofs.lemmas.Bool.Decides.{nat_tests}
use Rattle.wire_body.specs.Bodies.{run, reached, step, taken, behind, is_content, framing_at, framing_in}

-- no byte
pub run_none : (s : BodyState) (body : List ℕ) → run s body [] ≡ reached s body
unfolding run
run_none s body = refl

-- a byte that is no content
pub run_one : (s : BodyState) (body : List ℕ) (b : ℕ) (bytes : List ℕ) → is_content s.phase ≡ false → run s body (b ∷ bytes) ≡ run (step s b) body bytes
unfolding run
run_one s body b bytes is = ap (λ c. run (step s b) (cond c (body ++ b ∷ []) body) bytes) is

-- a byte of content
pub run_content : (s : BodyState) (body : List ℕ) (b : ℕ) (bytes : List ℕ) → is_content s.phase ≡ true → run s body (b ∷ bytes) ≡ run (step s b) (body ++ b ∷ []) bytes
unfolding run
run_content s body b bytes is = ap (λ c. run (step s b) (cond c (body ++ b ∷ []) body) bytes) is

-- one piece and then another
pub run_append : (s : BodyState) (body xs ys : List ℕ) → run s body (xs ++ ys) ≡ run (run s body xs).state (run s body xs).body ys
unfolding run
run_append s body [] ys = refl
run_append s body (x ∷ xs) ys = run_append (step s x) (cond (is_content s.phase) (body ++ x ∷ []) body) xs ys

abbrev place : Phase → ℕ → ℕ → ℕ → BodyState
place p left room line = record { phase = p; left = left; room = room; line = line }

step_content : (p : Phase) (left room line b : ℕ) → is_content p ≡ true → step (place p left room line) b ≡ taken (behind p) 1 (place p left room line)
step_content Counted left room line b is = refl
step_content Open left room line b is = refl
step_content Data left room line b is = refl
step_content _ left room line b is = cc

-- one byte and then the others are all of them
one_more : (p : Phase) (left room line n : ℕ) → 0 < n → n + 1 ≤ left → taken (behind p) 1 (place p left room line) ≡ place p (left - 1) room line
one_more p left room line n pos fits = grind (arith, nat_tests)

all_but_one : (p : Phase) (left room line n : ℕ) → 0 < n → n + 1 ≤ left → taken (behind p) n (place p (left - 1) room line) ≡ taken (behind p) (n + 1) (place p left room line)
all_but_one p left room line n pos fits = grind (arith, nat_tests)

-- a block of content at once
block_at : (p : Phase) (room line : ℕ) → is_content p ≡ true → (left : ℕ) (body xs rest : List ℕ) → 0 < length xs → length xs ≤ max left 1
    → run (place p left room line) body (xs ++ rest) ≡ run (taken (behind p) (length xs) (place p left room line)) (body ++ xs) rest
block_at p room line is left body [] rest pos fits = absurd (omega arith)
block_at p room line is left body (x ∷ []) rest pos fits =
    run_content (place p left room line) body x rest is
    ∙ ap (λ s. run s (body ++ x ∷ []) rest) (step_content p left room line x is)
block_at p room line is left body (x ∷ (y ∷ ys)) rest pos fits =
    let n : ℕ = length (y ∷ ys) in
    let some : 0 < n = omega arith in
    let more : n + 1 ≤ left = omega arith in
    let less : n ≤ max (left - 1) 1 = omega arith in
    let same : n + 1 ≡ length (x ∷ (y ∷ ys)) = omega arith in
    run_content (place p left room line) body x ((y ∷ ys) ++ rest) is
    ∙ ap (λ s. run s (body ++ x ∷ []) ((y ∷ ys) ++ rest)) (step_content p left room line x is ∙ one_more p left room line n some more)
    ∙ block_at p room line is (left - 1) (body ++ x ∷ []) (y ∷ ys) rest some less
    ∙ ap (λ s. run s ((body ++ x ∷ []) ++ (y ∷ ys)) rest) (all_but_one p left room line n some more ∙ ap (λ m. taken (behind p) m (place p left room line)) same)
    ∙ ap (λ zs. run (taken (behind p) (length (x ∷ (y ∷ ys))) (place p left room line)) zs rest) (append_assoc body (x ∷ []) (y ∷ ys))

pub block : (s : BodyState) (body xs rest : List ℕ) → is_content s.phase ≡ true → 0 < length xs → length xs ≤ max s.left 1
    → run s body (xs ++ rest) ≡ run (taken (behind s.phase) (length xs) s) (body ++ xs) rest
block s body xs rest is pos fits = block_at s.phase s.room s.line is s.left body xs rest pos fits

-- the first so many bytes of a piece
pub block_of_piece : (s : BodyState) (body piece : List ℕ) (n : ℕ) → is_content s.phase ≡ true → 0 < n → n ≤ length piece → n ≤ max s.left 1
    → run s body piece ≡ run (taken (behind s.phase) n s) (body ++ take n piece) (drop n piece)
block_of_piece s body piece n is pos fits room =
    let len : length (take n piece) ≡ n = length-take-le n piece fits in
    ap (λ xs. run s body xs) (sym (take-append-drop n piece))
    ∙ block s body (take n piece) (drop n piece) is (omega arith) (omega arith)
    ∙ ap (λ m. run (taken (behind s.phase) m s) (body ++ take n piece) (drop n piece)) len

-- the first byte of a piece, which is no content
pub one_of_piece : (s : BodyState) (body piece : List ℕ) → is_content s.phase ≡ false → 0 < length piece
    → run s body piece ≡ run (step s (get_or piece 0 0)) body (drop 1 piece)
one_of_piece s body [] is pos = absurd (omega arith)
one_of_piece s body (x ∷ xs) is pos = run_one s body x xs is

-- ---- framing

pub framing_none : (s : BodyState) → framing_in s [] ≡ 0
unfolding framing_in
framing_none s = refl

pub framing_one : (s : BodyState) (b : ℕ) (bytes : List ℕ) → framing_in s (b ∷ bytes) ≡ framing_at s.phase + framing_in (step s b) bytes
unfolding framing_in
framing_one s b bytes = refl

-- the framing of one piece and then of another
pub framing_append : (s : BodyState) (body xs ys : List ℕ) → framing_in s (xs ++ ys) ≡ framing_in s xs + framing_in (run s body xs).state ys
unfolding run framing_in
framing_append s body [] ys = omega arith
framing_append s body (x ∷ xs) ys =
    let rest : framing_in (step s x) (xs ++ ys) ≡ framing_in (step s x) xs + framing_in (run (step s x) (cond (is_content s.phase) (body ++ x ∷ []) body) xs).state ys
    = framing_append (step s x) (cond (is_content s.phase) (body ++ x ∷ []) body) xs ys in
    omega (arith, rest)

content_at : (p : Phase) → is_content p ≡ true → framing_at p ≡ 0
content_at Counted is = refl
content_at Open is = refl
content_at Data is = refl
content_at _ is = cc

first_no_framing : (p : Phase) (left room line b : ℕ) (bytes : List ℕ) → is_content p ≡ true → framing_in (place p left room line) (b ∷ bytes) ≡ framing_in (step (place p left room line) b) bytes
first_no_framing p left room line b bytes is = omega (arith, framing_one (place p left room line) b bytes, content_at p is)

-- content has no framing
block_framing_at : (p : Phase) (room line : ℕ) → is_content p ≡ true → (left : ℕ) (xs rest : List ℕ) → 0 < length xs → length xs ≤ max left 1
    → framing_in (place p left room line) (xs ++ rest) ≡ framing_in (taken (behind p) (length xs) (place p left room line)) rest
block_framing_at p room line is left [] rest pos fits = absurd (omega arith)
block_framing_at p room line is left (x ∷ []) rest pos fits =
    first_no_framing p left room line x rest is
    ∙ ap (λ s. framing_in s rest) (step_content p left room line x is)
block_framing_at p room line is left (x ∷ (y ∷ ys)) rest pos fits =
    let n : ℕ = length (y ∷ ys) in
    let some : 0 < n = omega arith in
    let more : n + 1 ≤ left = omega arith in
    let less : n ≤ max (left - 1) 1 = omega arith in
    let same : n + 1 ≡ length (x ∷ (y ∷ ys)) = omega arith in
    first_no_framing p left room line x ((y ∷ ys) ++ rest) is
    ∙ ap (λ s. framing_in s ((y ∷ ys) ++ rest)) (step_content p left room line x is ∙ one_more p left room line n some more)
    ∙ block_framing_at p room line is (left - 1) (y ∷ ys) rest some less
    ∙ ap (λ s. framing_in s rest) (all_but_one p left room line n some more ∙ ap (λ m. taken (behind p) m (place p left room line)) same)

pub block_framing : (s : BodyState) (xs rest : List ℕ) → is_content s.phase ≡ true → 0 < length xs → length xs ≤ max s.left 1
    → framing_in s (xs ++ rest) ≡ framing_in (taken (behind s.phase) (length xs) s) rest
block_framing s xs rest is pos fits = block_framing_at s.phase s.room s.line is s.left xs rest pos fits

-- the first so many bytes of a piece
pub block_of_framing : (s : BodyState) (piece : List ℕ) (n : ℕ) → is_content s.phase ≡ true → 0 < n → n ≤ length piece → n ≤ max s.left 1
    → framing_in s piece ≡ framing_at s.phase + framing_in (taken (behind s.phase) n s) (drop n piece)
block_of_framing s piece n is pos fits room =
    let len : length (take n piece) ≡ n = length-take-le n piece fits in
    let all : framing_in s piece ≡ framing_in (taken (behind s.phase) n s) (drop n piece)
    = ap (λ xs. framing_in s xs) (sym (take-append-drop n piece))
    ∙ block_framing s (take n piece) (drop n piece) is (omega arith) (omega arith)
    ∙ ap (λ m. framing_in (taken (behind s.phase) m s) (drop n piece)) len in
    omega (arith, all, content_at s.phase is)

-- the first byte of a piece
pub one_of_framing : (s : BodyState) (piece : List ℕ) → 0 < length piece
    → framing_in s piece ≡ framing_at s.phase + framing_in (step s (get_or piece 0 0)) (drop 1 piece)
one_of_framing s [] pos = absurd (omega arith)
one_of_framing s (x ∷ xs) pos = framing_one s x xs

-- a byte is at most one byte of framing
pub framing_byte : (p : Phase) → framing_at p ≤ 1
framing_byte Counted = omega arith
framing_byte Open = omega arith
framing_byte Full = omega arith
framing_byte Size = omega arith
framing_byte Digits = omega arith
framing_byte Pad = omega arith
framing_byte Extension = omega arith
framing_byte SizeEnd = omega arith
framing_byte Data = omega arith
framing_byte DataEnd = omega arith
framing_byte DataFeed = omega arith
framing_byte Trailer = omega arith
framing_byte Name = omega arith
framing_byte Value = omega arith
framing_byte ValueEnd = omega arith
framing_byte LastEnd = omega arith
framing_byte Done = omega arith
framing_byte TooLong = omega arith
framing_byte Bad = omega arith
