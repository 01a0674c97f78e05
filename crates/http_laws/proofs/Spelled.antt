-- The chunks that were read.
use Rattle.std.proofs.Common.{ℕ, ◌≡◌, ◌+◌, ◌-◌, ◌<◌, ◌≤◌, Bool, true, false, cond, eqb, nat_le, List, [], ◌∷◌, ◌++◌, length, take, drop, Option, Some, None, Result, Ok, Err, refl, sym, ap, ◌∙◌, subst, arith, append_assoc, append-nil, zero, suc, inl, inr}
use Rattle.std.specs.List.{flat_map, All}
use Rattle.std.proofs.lemmas.Bool.{cases_lt}
use Rattle.std.proofs.lemmas.Bool.Decides.{nat_tests}
use Rattle.std.proofs.lemmas.List.{length-append, length-take-le, take-append-drop}
use Rattle.httparse.specs.Grammar.{print_chunk_line, print_section, IsField}
use Rattle.outside.specs.declared.faults.WireFault.{WireFault}
use Rattle.outside.specs.declared.faults.WireFault.TheVariants.{BadChunk, CutOff}
use Rattle.wire_body.specs.declared.states.Phase.{Phase}
use Rattle.wire_body.specs.declared.states.Phase.TheVariants.{Counted, Open, Full, Size, Data, DataEnd, DataFeed, Trailer, Done, TooLong, Bad}
use Rattle.wire_body.specs.Bodies.{run, reached, Reached, taken, verdict, body_says, chunked_body, framing_in}
use Rattle.wire_body.specs.declared.states.TheConstants.{BODY_LIMIT, FRAMING_LIMIT, LINE_LIMIT}
use Rattle.wire_body.proofs.Runs.{run_none, block_of_piece, block}
use Rattle.http_laws.specs.Spellings.{print_chunk, AreChunks, IsSizeLine, Spelling, print_spelling, content, IsSpelling}
use Rattle.http_laws.proofs.Leads.{place}
use Rattle.http_laws.proofs.Kept.{is_of_chunks, run_kept}
use Rattle.http_laws.proofs.Ends.{Ends, ends_next, not_yet, split, expect_next}
use Rattle.http_laws.proofs.SizeLinesIn.{SizeLineIn, size_line_in, test_holds}
use Rattle.http_laws.proofs.ChunkTexts.{spelling_counts}
use Rattle.http_laws.proofs.SectionsIn.{SectionIn, section_in}

taken_all : (n room line : ℕ) → taken DataEnd n (place Data n room line) ≡ place DataEnd 0 room line
taken_all n room line = grind (arith, nat_tests)

taken_some : (m n room line : ℕ) → m < n → taken DataEnd m (place Data n room line) ≡ place Data (n - m) room line
taken_some m n room line less = grind (arith, nat_tests)

-- fewer bytes than a chunk has end no body
too_few : (bytes : List ℕ) (size room line : ℕ) (body out : List ℕ) → length bytes < size → Ends (place Data size room line) body bytes out → ⊥
too_few [] size room line body out less e = not_yet (place Data size room line) body out refl e
too_few (b ∷ bytes) size room line body out less e =
    let whole : run (place Data size room line) body ((b ∷ bytes) ++ []) ≡ run (taken DataEnd (length (b ∷ bytes)) (place Data size room line)) (body ++ (b ∷ bytes)) []
    = block (place Data size room line) body (b ∷ bytes) [] refl (omega arith) (omega arith) in
    let there : run (place Data size room line) body (b ∷ bytes) ≡ reached (place Data (size - length (b ∷ bytes)) room line) (body ++ (b ∷ bytes))
    = ap (λ xs. run (place Data size room line) body xs) (sym (append-nil (b ∷ bytes))) ∙ whole
    ∙ ap (λ s. run s (body ++ (b ∷ bytes)) []) (taken_some (length (b ∷ bytes)) size room line less)
    ∙ run_none (place Data (size - length (b ∷ bytes)) room line) (body ++ (b ∷ bytes)) in
    let p : Data ≡ Done = ap (λ (r : Reached). r.state.phase) (sym there ∙ e.runs) ∙ e.done in
    cc

record DataIn (size room line : ℕ) (body bytes out : List ℕ) : Type 0 where
  pub xs : List ℕ
  pub rest : List ℕ
  pub len : length xs ≡ size
  pub text : bytes ≡ xs ++ rest
  pub ends : Ends (place DataEnd 0 room line) (body ++ xs) rest out

data_in : (bytes : List ℕ) (size room line : ℕ) (body out : List ℕ) → 0 < size → Ends (place Data size room line) body bytes out → DataIn size room line body bytes out
data_in bytes size room line body out some e =
    elim (cases_lt (length bytes) size) [
      | inl less ↦ absurd (too_few bytes size room line body out less e)
      | inr fits ↦ record {
        xs = take size bytes;
        rest = drop size bytes;
        len = length-take-le size bytes fits;
        text = sym (take-append-drop size bytes);
        ends = record {
          to = e.to;
          runs =
              ap (λ s. run s (body ++ take size bytes) (drop size bytes)) (sym (taken_all size room line))
              ∙ sym (block_of_piece (place Data size room line) body bytes size refl some fits (omega arith))
              ∙ e.runs;
          done = e.done;
        };
      }
    ]

-- the line end behind a chunk's content
record BreakIn (room : ℕ) (body bytes out : List ℕ) : Type 0 where
  pub rest : List ℕ
  pub text : bytes ≡ 13 ∷ (10 ∷ rest)
  pub ends : Ends (place Size 0 room LINE_LIMIT) body rest out

feed_in : (bytes : List ℕ) (room line : ℕ) (body out : List ℕ) → Ends (place DataFeed 0 room line) body bytes out → (rest : List ℕ) × (bytes ≡ 10 ∷ rest) × Ends (place Size 0 room LINE_LIMIT) body rest out
feed_in [] room line body out e = absurd (not_yet (place DataFeed 0 room line) body out refl e)
feed_in (b ∷ bytes) room line body out e =
    let r : (b ≡ 10) × Ends (place Size 0 room LINE_LIMIT) body bytes out
    = expect_next 10 b 0 room line DataFeed (place Size 0 room LINE_LIMIT) body bytes out (ends_next (place DataFeed 0 room line) b body bytes out refl e) in
    (bytes, ap (λ c. c ∷ bytes) r.0, r.1)

break_in : (bytes : List ℕ) (room line : ℕ) (body out : List ℕ) → Ends (place DataEnd 0 room line) body bytes out → BreakIn room body bytes out
break_in [] room line body out e = absurd (not_yet (place DataEnd 0 room line) body out refl e)
break_in (b ∷ bytes) room line body out e =
    let r : (b ≡ 13) × Ends (place DataFeed 0 room line) body bytes out
    = expect_next 13 b 0 room line DataEnd (place DataFeed 0 room line) body bytes out (ends_next (place DataEnd 0 room line) b body bytes out refl e) in
    let f : (rest : List ℕ) × (bytes ≡ 10 ∷ rest) × Ends (place Size 0 room LINE_LIMIT) body rest out = feed_in bytes room line body out r.1 in
    record { rest = f.0; text = ap (λ c. c ∷ bytes) r.0 ∙ ap (λ z. 13 ∷ z) f.1; ends = f.2 }

record SpelledIn (room : ℕ) (body bytes out : List ℕ) : Type 0 where
  m : Spelling
  rest : List ℕ
  chunks : AreChunks m.chunks
  last : IsSizeLine m.last 0
  trailers : All IsField m.trailers
  few : length (print_section m.trailers m.end) ≤ LINE_LIMIT
  fits : length (content m) ≤ room
  text : bytes ≡ print_spelling m ++ rest
  same : body ++ content m ≡ out

is_zero : (n : ℕ) → eqb n 0 ≡ true → n ≡ 0
is_zero n is = grind (arith, nat_tests)

is_some : (n : ℕ) → eqb n 0 ≡ false → 0 < n
is_some n is = grind (arith, nat_tests)

-- the last chunk and the trailers
last_of : (room : ℕ) (body bytes out : List ℕ) (s : SizeLineIn room body bytes out) → s.size ≡ 0 → SectionIn LINE_LIMIT body s.rest out → SpelledIn room body bytes out
last_of room body bytes out s none t = record {
  m = record { chunks = []; last = s.line; trailers = t.fields; end = t.end };
  rest = t.rest;
  chunks = tt;
  last = subst (λ n. IsSizeLine s.line n) none s.ok;
  trailers = t.ok;
  few = t.short;
  fits = omega arith;
  text = s.text ∙ ap (λ z. print_chunk_line s.line ++ z) t.text ∙ sym (append_assoc (print_chunk_line s.line) (print_section t.fields t.end) t.rest);
  same = append-nil body ∙ t.same;
}

chunk_parts : (line xs end more tail rest : List ℕ) → ((line ++ (xs ++ end)) ++ more ++ tail) ++ rest ≡ line ++ (xs ++ (end ++ ((more ++ tail) ++ rest)))
chunk_parts line xs end more tail rest = simp append_assoc

-- one chunk more
with_chunk : (room : ℕ) (body bytes out : List ℕ) (s : SizeLineIn room body bytes out) (line : ℕ) → 0 < s.size
    → (d : DataIn s.size (room - s.size) line body s.rest out) (e : BreakIn (room - s.size) (body ++ d.xs) d.rest out)
    → SpelledIn (room - s.size) (body ++ d.xs) e.rest out → SpelledIn room body bytes out
with_chunk room body bytes out s line some d e r = record {
  m = record { chunks = record { line = s.line; content = d.xs } ∷ r.m.chunks; last = r.m.last; trailers = r.m.trailers; end = r.m.end };
  rest = r.rest;
  chunks = (omega (arith, d.len), subst (λ n. IsSizeLine s.line n) (sym d.len) s.ok, r.chunks);
  last = r.last;
  trailers = r.trailers;
  few = r.few;
  fits = omega (arith, length-append d.xs (content r.m), d.len, r.fits, s.fits);
  text =
      s.text
      ∙ ap (λ z. print_chunk_line s.line ++ z) (d.text ∙ ap (λ z. d.xs ++ z) (e.text ∙ ap (λ z. 13 ∷ (10 ∷ z)) r.text))
      ∙ sym (chunk_parts (print_chunk_line s.line) d.xs (13 ∷ (10 ∷ [])) (flat_map print_chunk r.m.chunks) (print_chunk_line r.m.last ++ print_section r.m.trailers r.m.end) r.rest);
  same = sym (append_assoc body d.xs (content r.m)) ∙ r.same;
}

-- what is behind a chunk is shorter
shorter : (fuel : ℕ) (line xs rest r1 r2 bytes : List ℕ) → bytes ≡ line ++ rest → rest ≡ xs ++ r1 → r1 ≡ 13 ∷ (10 ∷ r2) → length bytes ≤ suc fuel → length r2 ≤ fuel
shorter fuel line xs rest r1 r2 bytes e1 e2 e3 fits = omega (arith, ap length e1, ap length e2, ap length e3, length-append line rest, length-append xs r1)

spelled_in : (fuel : ℕ) (bytes : List ℕ) (room : ℕ) (body out : List ℕ) → length bytes ≤ fuel → Ends (place Size 0 room LINE_LIMIT) body bytes out → SpelledIn room body bytes out
spelled_in zero [] room body out fits e = absurd (not_yet (place Size 0 room LINE_LIMIT) body out refl e)
spelled_in zero (b ∷ bytes) room body out fits e = absurd (omega arith)
spelled_in (suc fuel) bytes room body out fits e =
    let s : SizeLineIn room body bytes out = size_line_in bytes room body out e in
    elim (split (eqb s.size 0) (place Trailer 0 room LINE_LIMIT) (place Data s.size (room - s.size) s.k) body s.rest out s.ends) [
      | inl h ↦ last_of room body bytes out s (is_zero s.size h.0) (section_in (length s.rest) s.rest 0 room LINE_LIMIT body out (omega arith) h.1)
      | inr h ↦
          let some : 0 < s.size = is_some s.size h.0 in
          let d : DataIn s.size (room - s.size) s.k body s.rest out = data_in s.rest s.size (room - s.size) s.k body out some h.1 in
          let f : BreakIn (room - s.size) (body ++ d.xs) d.rest out = break_in d.rest (room - s.size) s.k (body ++ d.xs) out d.ends in
          with_chunk room body bytes out s s.k some d f
          (spelled_in fuel f.rest (room - s.size) (body ++ d.xs) out (shorter fuel (print_chunk_line s.line) d.xs s.rest d.rest f.rest bytes s.text d.text f.text fits) f.ends)
    ]

no_body_yet : (ended : Bool) (out : List ℕ) → cond ended (Some (Err CutOff)) None ≡ Some (Ok out) → ⊥
no_body_yet true out is = cc
no_body_yet false out is = cc

said_done : (p : Phase) (body out : List ℕ) (ended : Bool) → is_of_chunks p ≡ true → verdict p body ended ≡ Some (Ok out) → (p ≡ Done) × (body ≡ out)
said_done Done body out ended kept is = (refl, cc)
said_done TooLong body out ended kept is = cc
said_done Bad body out ended kept is = cc
said_done Counted body out ended kept is = cc
said_done Open body out ended kept is = cc
said_done Full body out ended kept is = cc
said_done _ body out ended kept is = absurd (no_body_yet ended out is)

-- a body is said where its framing is within the limit
body_within : (within : Bool) (v : Option (Result (List ℕ) WireFault)) (out : List ℕ) → cond within v (Some (Err BadChunk)) ≡ Some (Ok out) → (within ≡ true) × (v ≡ Some (Ok out))
body_within true v out is = (refl, is)
body_within false v out is = cc

-- what was read is within the limit of framing
framed_in : {bytes body : List ℕ} (s : SpelledIn BODY_LIMIT [] bytes body) → nat_le (framing_in chunked_body bytes) FRAMING_LIMIT ≡ true → length (print_spelling s.m) ≤ length (content s.m) + FRAMING_LIMIT
framed_in {bytes} {body} s within =
    let here : framing_in chunked_body bytes ≡ framing_in chunked_body (print_spelling s.m ++ s.rest) = ap (λ xs. framing_in chunked_body xs) s.text in
    omega (arith, here, test_holds (framing_in chunked_body bytes) FRAMING_LIMIT within, spelling_counts s.m s.rest s.chunks s.last s.trailers s.few s.fits)

pub read_is_spelled : (bytes body : List ℕ) (ended : Bool) → body_says chunked_body bytes ended ≡ Some (Ok body)
    → (m : Spelling) × IsSpelling m × (body ≡ content m) × ((rest : List ℕ) × (bytes ≡ print_spelling m ++ rest))
read_is_spelled bytes body ended is =
    let said : (nat_le (framing_in chunked_body bytes) FRAMING_LIMIT ≡ true) × (verdict (run chunked_body [] bytes).state.phase (run chunked_body [] bytes).body ended ≡ Some (Ok body))
    = body_within (nat_le (framing_in chunked_body bytes) FRAMING_LIMIT) (verdict (run chunked_body [] bytes).state.phase (run chunked_body [] bytes).body ended) body is in
    let done : ((run chunked_body [] bytes).state.phase ≡ Done) × ((run chunked_body [] bytes).body ≡ body)
    = said_done (run chunked_body [] bytes).state.phase (run chunked_body [] bytes).body body ended (run_kept chunked_body [] bytes refl) said.1 in
    let ends : Ends chunked_body [] bytes body
    = record { to = (run chunked_body [] bytes).state; runs = ap (λ b. reached (run chunked_body [] bytes).state b) done.1; done = done.0 } in
    let s : SpelledIn BODY_LIMIT [] bytes body = spelled_in (length bytes) bytes BODY_LIMIT [] body (omega arith) ends in
    (s.m, record { chunks = s.chunks; last = s.last; trailers = s.trailers; few = s.few; fits = s.fits; framed = framed_in s said.0 }, sym s.same, (s.rest, s.text))
