-- The pieces of a body that came over a wire, and what they lead to.
use Rattle.std.proofs.Common.{ℕ, ◌≡◌, ◌+◌, ◌≤◌, Bool, true, false, not, ◌||◌, nat_le, cond}
use Rattle.std.proofs.Common.{List, [], ◌++◌, length, take, Option, Some, None, Result, Err}
use Rattle.std.proofs.Common.{refl, sym, ap, ◌∙◌, subst, arith, append_assoc, append-nil, inl, inr}
use Rattle.std.proofs.lemmas.List.{length-take-le}
use Rattle.outside.specs.declared.faults.WireFault.TheVariants.{ReadFault, BadChunk}
use Rattle.outside.specs.Wires.{Talk, Hears}
use Rattle.outside.proofs.Talks.{hears_nothing, hears_more}
use Rattle.wire_body.specs.declared.faults.HttpFault.{HttpFault}
use Rattle.wire_body.specs.declared.faults.HttpFault.TheVariants.{Wire, Memory as NoMemory}
use Rattle.wire_body.specs.declared.states.BodyState.{BodyState}
use Rattle.wire_body.specs.declared.states.Phase.{Phase}
use Rattle.wire_body.specs.declared.states.Phase.TheVariants.{Counted, Open, Full, Size, Digits, Pad, Extension, SizeEnd, Data, DataEnd, DataFeed, Trailer, Name, Value, ValueEnd, LastEnd, Done, TooLong, Bad}
use Rattle.wire_body.specs.Bodies.{run, reached, Reached, verdict, verdict_behind, is_final, body_says, framing_in}
use Rattle.wire_body.specs.declared.states.TheConstants.{FRAMING_LIMIT}
use Rattle.wire_body.specs.declared.reads.TheConstants.{PIECE_LIMIT}
use Rattle.wire_body.specs.Reads.{AllButLast, IsSaid, IsSilent, ReadsBody}
use Rattle.wire_body.proofs.Runs.{run_append, framing_append}

-- the bytes that were received so far, where they lead, and how much framing they had
pub record Gathers (old new : Option Talk) (start : BodyState) (front : List ℕ) (s : BodyState) (body : List ℕ) (n : ℕ) : Type 0 where
  pub more : List ℕ
  pub heard : Hears old more false new
  pub made : run start [] (front ++ more) ≡ reached s body
  pub framed : framing_in start (front ++ more) ≡ n
  pub late : AllButLast (IsSilent start front) more

pub gathers_none : (t : Option Talk) (start : BodyState) (front : List ℕ) (s : BodyState) (body : List ℕ) (n : ℕ)
    → run start [] front ≡ reached s body → n ≡ 0 + framing_in start front → Gathers t t start front s body n
gathers_none t start front s body n made framed = record {
  more = [];
  heard = hears_nothing t;
  made = ap (λ xs. run start [] xs) (append-nil front) ∙ made;
  framed = ap (λ xs. framing_in start xs) (append-nil front) ∙ omega (arith, framed);
  late = inl refl;
}

-- what was gathered says what the state and the count say
says : (old new : Option Talk) (start : BodyState) (front : List ℕ) (s : BodyState) (body : List ℕ) (n : ℕ) (g : Gathers old new start front s body n) (ended : Bool)
    → verdict_behind n s.phase body ended ≡ body_says start (front ++ g.more) ended
says old new start front s body n g ended =
    ap (λ k. verdict_behind k s.phase body ended) (sym g.framed)
    ∙ ap (λ (r : Reached). verdict_behind (framing_in start (front ++ g.more)) r.state.phase r.body ended) (sym g.made)

-- whether the bytes say something without the wire's end
abbrev pub speaks : ℕ → Phase → Bool
speaks n p = not (nat_le n FRAMING_LIMIT) || is_final p

-- the answer once the bytes say something
pub reads_whole : (old new : Option Talk) (start : BodyState) (front : List ℕ) (s : BodyState) (body : List ℕ) (n : ℕ) (result : Result (List ℕ) HttpFault)
    → Gathers old new start front s body n → IsSaid (verdict_behind n s.phase body false) result → ReadsBody old new start front result
reads_whole old new start front s body n result g said =
    (g.more, false, g.heard, subst (λ v. IsSaid v result) (says old new start front s body n g false) said, λ is. cc, g.late)

-- before its end a body says nothing
nothing_said : (p : Phase) (body : List ℕ) → is_final p ≡ false → verdict p body false ≡ None
nothing_said Counted body is = refl
nothing_said Open body is = refl
nothing_said Full body is = refl
nothing_said Size body is = refl
nothing_said Digits body is = refl
nothing_said Pad body is = refl
nothing_said Extension body is = refl
nothing_said SizeEnd body is = refl
nothing_said Data body is = refl
nothing_said DataEnd body is = refl
nothing_said DataFeed body is = refl
nothing_said Trailer body is = refl
nothing_said Name body is = refl
nothing_said Value body is = refl
nothing_said ValueEnd body is = refl
nothing_said LastEnd body is = refl
nothing_said Done body is = cc
nothing_said TooLong body is = cc
nothing_said Bad body is = cc

-- nor does it where its framing is within the limit
nothing_behind : (within : Bool) (p : Phase) (body : List ℕ) → not within || is_final p ≡ false → cond within (verdict p body false) (Some (Err BadChunk)) ≡ None
nothing_behind true p body is = nothing_said p body is
nothing_behind false p body is = cc

pub nothing_yet : (n : ℕ) (p : Phase) (body : List ℕ) → speaks n p ≡ false → verdict_behind n p body false ≡ None
nothing_yet n p body is = nothing_behind (nat_le n FRAMING_LIMIT) p body is

within_behind : (within final : Bool) → not within || final ≡ false → (within ≡ true) × (final ≡ false)
within_behind true final is = (refl, is)
within_behind false final is = cc

-- where nothing is said, the framing is within its limit and more bytes are due
pub goes_on : (n : ℕ) (p : Phase) → speaks n p ≡ false → (nat_le n FRAMING_LIMIT ≡ true) × (is_final p ≡ false)
goes_on n p is = within_behind (nat_le n FRAMING_LIMIT) (is_final p) is

-- what a receive gave is one piece
pub piece_small : (count : ℕ) (into : List ℕ) → count ≤ length into
    → length into ≤ PIECE_LIMIT → length (take count into) ≤ PIECE_LIMIT
piece_small count into within small =
    omega (arith, within, small, length-take-le count into within)

-- a piece that was received where nothing was said yet
late_by : (old new : Option Talk) (start : BodyState) (front : List ℕ) (s : BodyState)
    (body piece : List ℕ) (n : ℕ) (g : Gathers old new start front s body n)
    → speaks n s.phase ≡ false → length piece ≤ PIECE_LIMIT
    → AllButLast (IsSilent start front) (g.more ++ piece)
late_by old new start front s body piece n g is small = inr (
  g.more,
  piece,
  refl,
  small,
  sym (says old new start front s body n g false) ∙ nothing_yet n s.phase body is,
)

-- more was gathered
pub gathers_more : (old new new' : Option Talk) (start : BodyState) (front : List ℕ) (s s' : BodyState) (body body' piece : List ℕ) (n n' : ℕ)
    → Gathers old new start front s body n → Hears new piece false new' → run s body piece ≡ reached s' body' → n' ≡ n + framing_in s piece
    → speaks n s.phase ≡ false → length piece ≤ PIECE_LIMIT → Gathers old new' start front s' body' n'
gathers_more old new new' start front s s' body body' piece n n' g heard made framed is small = record {
  more = g.more ++ piece;
  heard = hears_more old new new' g.more piece false g.heard heard;
  made =
      ap (λ xs. run start [] xs) (sym (append_assoc front g.more piece))
      ∙ run_append start [] (front ++ g.more) piece
      ∙ ap (λ (r : Reached). run r.state r.body piece) g.made
      ∙ made;
  framed =
      ap (λ xs. framing_in start xs) (sym (append_assoc front g.more piece))
      ∙ framing_append start [] (front ++ g.more) piece
      ∙ ap (λ k. k + framing_in (run start [] (front ++ g.more)).state piece) g.framed
      ∙ ap (λ (r : Reached). n + framing_in r.state piece) g.made
      ∙ sym framed;
  late = late_by old new start front s body piece n g is small;
}

-- the answer once the wire gave its end
pub reads_end : (old new new' : Option Talk) (start : BodyState) (front : List ℕ) (s : BodyState) (body : List ℕ) (n : ℕ) (result : Result (List ℕ) HttpFault)
    → Gathers old new start front s body n → Hears new [] true new' → speaks n s.phase ≡ false → IsSaid (verdict_behind n s.phase body true) result → ReadsBody old new' start front result
reads_end old new new' start front s body n result g ended is said = (
  g.more,
  true,
  subst (λ xs. Hears old xs true new') (append-nil g.more) (hears_more old new new' g.more [] true g.heard ended),
  subst (λ v. IsSaid v result) (says old new start front s body n g true) said,
  λ end. sym (says old new start front s body n g false) ∙ nothing_yet n s.phase body is,
  g.late,
)

-- the answer where a read failed
pub reads_fault : (old new new' : Option Talk) (start : BodyState) (front : List ℕ) (s : BodyState) (body : List ℕ) (n : ℕ)
    → Gathers old new start front s body n → new' ≡ new → speaks n s.phase ≡ false → ReadsBody old new' start front (Err (Wire ReadFault))
reads_fault old new new' start front s body n g same is =
    (g.more, false, subst (λ t. Hears old g.more false t) (sym same) g.heard, sym (says old new start front s body n g false) ∙ nothing_yet n s.phase body is, λ is. cc, g.late)

-- memory ran out before a byte was received
pub reads_no_memory : (t : Option Talk) (start : BodyState) (front : List ℕ) → ReadsBody t t start front (Err NoMemory)
reads_no_memory t start front = ([], false, hears_nothing t, tt, λ is. cc, inl refl)

-- memory ran out over a piece that was received
pub reads_piece_no_memory : (old new new' : Option Talk) (start : BodyState) (front : List ℕ) (s : BodyState) (body piece : List ℕ) (n : ℕ)
    → Gathers old new start front s body n → Hears new piece false new' → speaks n s.phase ≡ false → length piece ≤ PIECE_LIMIT
    → ReadsBody old new' start front (Err NoMemory)
reads_piece_no_memory old new new' start front s body piece n g heard is small = (
  g.more ++ piece,
  false,
  hears_more old new new' g.more piece false g.heard heard,
  tt,
  λ is. cc,
  late_by old new start front s body piece n g is small,
)
