-- What is written in chunks leads to its content.
use Rattle.std.proofs.Common.{ℕ, ◌≡◌, ◌+◌, ◌-◌, ◌<◌, ◌≤◌, Bool, true, false, cond, nat_le, List, [], ◌∷◌, ◌++◌, length, Some, Ok, Err, refl, sym, ap, ◌∙◌, arith, append_assoc, append-nil}
use Rattle.std.specs.List.{flat_map, All}
use Rattle.std.proofs.lemmas.Bool.Decides.{nat_tests}
use Rattle.outside.specs.declared.faults.WireFault.TheVariants.{BadChunk}
use Rattle.std.proofs.lemmas.List.{length-append}
use Rattle.httparse.specs.Ascii.{crlf_bytes}
use Rattle.httparse.specs.Grammar.{print_chunk_line, print_section, IsField}
use Rattle.wire_body.specs.declared.states.Phase.TheVariants.{Size, SizeEnd, Data, DataEnd, DataFeed, Trailer, Done}
use Rattle.wire_body.specs.Bodies.{run, reached, Reached, behind_size_line, chunked_body, body_says, verdict_behind, framing_in}
use Rattle.wire_body.specs.declared.states.TheConstants.{BODY_LIMIT, FRAMING_LIMIT, LINE_LIMIT}
use Rattle.wire_body.proofs.Runs.{block, block_framing}
use Rattle.http_laws.specs.Spellings.{Chunk, print_chunk, content_of, AreChunks, Spelling, print_spelling, content, IsSpelling, IsSizeLine}
use Rattle.http_laws.proofs.Finals.{run_final, framing_final}
use Rattle.http_laws.proofs.Leads.{place, Leads, leads_one, leads_first, not_zero, fits}
use Rattle.http_laws.proofs.SizeLines.{size_line}
use Rattle.http_laws.proofs.Sections.{section}

-- the content of a chunk
data_runs : (xs : List ℕ) (room line : ℕ) (body more : List ℕ) → 0 < length xs
    → run (place Data (length xs) room line) body (xs ++ more) ≡ run (place DataEnd 0 room line) (body ++ xs) more
data_runs xs room line body more some =
    block (place Data (length xs) room line) body xs more refl some (omega arith)
    ∙ ap (λ s. run s (body ++ xs) more) (fits (length xs) (length xs) (place DataEnd 0 room line) (place Data (length xs - length xs) room line) (omega arith))

-- the line end behind it
data_end : (room line : ℕ) → Leads (place DataEnd 0 room line) crlf_bytes (place Size 0 room LINE_LIMIT)
data_end room line =
    leads_first 13 refl refl (leads_one (place DataFeed 0 room line) (place Size 0 room LINE_LIMIT) 10 refl refl)

into_data : (size room m : ℕ) → 0 < size → behind_size_line (place SizeEnd size room m) ≡ place Data size (room - size) m
into_data size room m some = not_zero size (place Trailer 0 room LINE_LIMIT) (place Data size (room - size) m) some

-- a whole chunk
chunk_runs : (c : Chunk) (room : ℕ) (body more : List ℕ) → 0 < length c.content → IsSizeLine c.line (length c.content) → length c.content ≤ room
    → run (place Size 0 room LINE_LIMIT) body (print_chunk c ++ more) ≡ run (place Size 0 (room - length c.content) LINE_LIMIT) (body ++ c.content) more
chunk_runs c room body more some ok within =
    let line : (m : ℕ) × Leads (place Size 0 room LINE_LIMIT) (print_chunk_line c.line) (behind_size_line (place SizeEnd (length c.content) room m)) = size_line c.line (length c.content) room ok within in
    ap (λ zs. run (place Size 0 room LINE_LIMIT) body zs) (append_assoc (print_chunk_line c.line) (c.content ++ crlf_bytes) more)
    ∙ line.1.runs body ((c.content ++ crlf_bytes) ++ more)
    ∙ ap (λ s. run s body ((c.content ++ crlf_bytes) ++ more)) (into_data (length c.content) room line.0 some)
    ∙ ap (λ zs. run (place Data (length c.content) (room - length c.content) line.0) body zs) (append_assoc c.content crlf_bytes more)
    ∙ data_runs c.content (room - length c.content) line.0 body (crlf_bytes ++ more) some
    ∙ (data_end (room - length c.content) line.0).runs (body ++ c.content) more

-- all chunks
chunks_run : (cs : List Chunk) (room : ℕ) (body more : List ℕ) → AreChunks cs → length (flat_map content_of cs) ≤ room
    → run (place Size 0 room LINE_LIMIT) body (flat_map print_chunk cs ++ more) ≡ run (place Size 0 (room - length (flat_map content_of cs)) LINE_LIMIT) (body ++ flat_map content_of cs) more
chunks_run [] room body more ok within =
    ap (λ r. run (place Size 0 r LINE_LIMIT) body more) (omega arith) ∙ ap (λ b. run (place Size 0 (room - 0) LINE_LIMIT) b more) (sym (append-nil body))
chunks_run (c ∷ cs) room body more ok within =
    let len : length (c.content ++ flat_map content_of cs) ≡ length c.content + length (flat_map content_of cs) = length-append c.content (flat_map content_of cs) in
    ap (λ zs. run (place Size 0 room LINE_LIMIT) body zs) (append_assoc (print_chunk c) (flat_map print_chunk cs) more)
    ∙ chunk_runs c room body (flat_map print_chunk cs ++ more) ok.0 ok.1 (omega arith)
    ∙ chunks_run cs (room - length c.content) (body ++ c.content) more ok.2 (omega arith)
    ∙ ap (λ r. run (place Size 0 r LINE_LIMIT) ((body ++ c.content) ++ flat_map content_of cs) more) (omega arith)
    ∙ ap (λ b. run (place Size 0 (room - length (c.content ++ flat_map content_of cs)) LINE_LIMIT) b more) (append_assoc body c.content (flat_map content_of cs))

-- a body of any limit
spelling_runs : (m : Spelling) (limit : ℕ) (behind : List ℕ) → AreChunks m.chunks → IsSizeLine m.last 0 → length (content m) ≤ limit
    → (n : ℕ) × Leads (place Trailer 0 (limit - length (content m)) LINE_LIMIT) (print_section m.trailers m.end) (place Done 0 (limit - length (content m)) n)
    → (n : ℕ) × (run (place Size 0 limit LINE_LIMIT) [] (print_spelling m ++ behind) ≡ reached (place Done 0 (limit - length (content m)) n) (content m))
spelling_runs m limit behind chunks last within trailers =
    let room : ℕ = limit - length (content m) in
    let tail : List ℕ = print_chunk_line m.last ++ print_section m.trailers m.end in
    let line : (k : ℕ) × Leads (place Size 0 room LINE_LIMIT) (print_chunk_line m.last) (behind_size_line (place SizeEnd 0 room k)) = size_line m.last 0 room last (omega arith) in (
      trailers.0,
      ap (λ zs. run (place Size 0 limit LINE_LIMIT) [] zs) (append_assoc (flat_map print_chunk m.chunks) tail behind)
          ∙ chunks_run m.chunks limit [] (tail ++ behind) chunks within
          ∙ ap (λ zs. run (place Size 0 room LINE_LIMIT) (content m) zs) (append_assoc (print_chunk_line m.last) (print_section m.trailers m.end) behind)
          ∙ line.1.runs (content m) (print_section m.trailers m.end ++ behind)
          ∙ trailers.1.runs (content m) behind
          ∙ run_final (place Done 0 room trailers.0) (content m) behind refl,
    )

-- ---- how much of it is framing

-- content is none
data_counts : (xs : List ℕ) (room line : ℕ) (more : List ℕ) → 0 < length xs
    → framing_in (place Data (length xs) room line) (xs ++ more) ≡ framing_in (place DataEnd 0 room line) more
data_counts xs room line more some =
    block_framing (place Data (length xs) room line) xs more refl some (omega arith)
    ∙ ap (λ s. framing_in s more) (fits (length xs) (length xs) (place DataEnd 0 room line) (place Data (length xs - length xs) room line) (omega arith))

-- all of a chunk but its content
chunk_counts : (c : Chunk) (room : ℕ) (more : List ℕ) → 0 < length c.content → IsSizeLine c.line (length c.content) → length c.content ≤ room
    → framing_in (place Size 0 room LINE_LIMIT) (print_chunk c ++ more) + length c.content ≡ length (print_chunk c) + framing_in (place Size 0 (room - length c.content) LINE_LIMIT) more
chunk_counts c room more some ok within =
    let line : (m : ℕ) × Leads (place Size 0 room LINE_LIMIT) (print_chunk_line c.line) (behind_size_line (place SizeEnd (length c.content) room m)) = size_line c.line (length c.content) room ok within in
    let parts : framing_in (place Size 0 room LINE_LIMIT) (print_chunk c ++ more) ≡ framing_in (place Size 0 room LINE_LIMIT) (print_chunk_line c.line ++ ((c.content ++ crlf_bytes) ++ more))
    = ap (λ zs. framing_in (place Size 0 room LINE_LIMIT) zs) (append_assoc (print_chunk_line c.line) (c.content ++ crlf_bytes) more) in
    let inside : framing_in (behind_size_line (place SizeEnd (length c.content) room line.0)) ((c.content ++ crlf_bytes) ++ more) ≡ framing_in (place DataEnd 0 (room - length c.content) line.0) (crlf_bytes ++ more)
    = ap (λ s. framing_in s ((c.content ++ crlf_bytes) ++ more)) (into_data (length c.content) room line.0 some)
    ∙ ap (λ zs. framing_in (place Data (length c.content) (room - length c.content) line.0) zs) (append_assoc c.content crlf_bytes more)
    ∙ data_counts c.content (room - length c.content) line.0 (crlf_bytes ++ more) some in
    omega
    (arith, parts, line.1.counts ((c.content ++ crlf_bytes) ++ more), inside, (data_end (room - length c.content) line.0).counts more, length-append (print_chunk_line c.line) (c.content ++ crlf_bytes), length-append c.content crlf_bytes)

chunks_count : (cs : List Chunk) (room : ℕ) (more : List ℕ) → AreChunks cs → length (flat_map content_of cs) ≤ room
    → framing_in (place Size 0 room LINE_LIMIT) (flat_map print_chunk cs ++ more) + length (flat_map content_of cs)
    ≡ length (flat_map print_chunk cs) + framing_in (place Size 0 (room - length (flat_map content_of cs)) LINE_LIMIT) more
chunks_count [] room more ok within =
    let same : framing_in (place Size 0 room LINE_LIMIT) more ≡ framing_in (place Size 0 (room - 0) LINE_LIMIT) more = ap (λ r. framing_in (place Size 0 r LINE_LIMIT) more) (omega arith) in
    omega (arith, same)
chunks_count (c ∷ cs) room more ok within =
    let len : length (c.content ++ flat_map content_of cs) ≡ length c.content + length (flat_map content_of cs) = length-append c.content (flat_map content_of cs) in
    let parts : framing_in (place Size 0 room LINE_LIMIT) ((print_chunk c ++ flat_map print_chunk cs) ++ more) ≡ framing_in (place Size 0 room LINE_LIMIT) (print_chunk c ++ (flat_map print_chunk cs ++ more))
    = ap (λ zs. framing_in (place Size 0 room LINE_LIMIT) zs) (append_assoc (print_chunk c) (flat_map print_chunk cs) more) in
    let same : framing_in (place Size 0 ((room - length c.content) - length (flat_map content_of cs)) LINE_LIMIT) more ≡ framing_in (place Size 0 (room - length (c.content ++ flat_map content_of cs)) LINE_LIMIT) more
    = ap (λ r. framing_in (place Size 0 r LINE_LIMIT) more) (omega (arith, len)) in
    omega
    (arith, parts, len, chunk_counts c room (flat_map print_chunk cs ++ more) ok.0 ok.1 (omega (arith, len)), chunks_count cs (room - length c.content) more ok.2 (omega (arith, len)), same, length-append (print_chunk c) (flat_map print_chunk cs))

counts_at : (m : Spelling) (limit : ℕ) (behind : List ℕ) → AreChunks m.chunks → IsSizeLine m.last 0 → length (content m) ≤ limit
    → (n : ℕ) × Leads (place Trailer 0 (limit - length (content m)) LINE_LIMIT) (print_section m.trailers m.end) (place Done 0 (limit - length (content m)) n)
    → framing_in (place Size 0 limit LINE_LIMIT) (print_spelling m ++ behind) + length (content m) ≡ length (print_spelling m)
counts_at m limit behind chunks last within trailers =
    let room : ℕ = limit - length (content m) in
    let tail : List ℕ = print_chunk_line m.last ++ print_section m.trailers m.end in
    let line : (k : ℕ) × Leads (place Size 0 room LINE_LIMIT) (print_chunk_line m.last) (behind_size_line (place SizeEnd 0 room k)) = size_line m.last 0 room last (omega arith) in
    let parts : framing_in (place Size 0 limit LINE_LIMIT) (print_spelling m ++ behind) ≡ framing_in (place Size 0 limit LINE_LIMIT) (flat_map print_chunk m.chunks ++ (tail ++ behind))
    = ap (λ zs. framing_in (place Size 0 limit LINE_LIMIT) zs) (append_assoc (flat_map print_chunk m.chunks) tail behind) in
    let lines : framing_in (place Size 0 room LINE_LIMIT) (tail ++ behind) ≡ framing_in (place Size 0 room LINE_LIMIT) (print_chunk_line m.last ++ (print_section m.trailers m.end ++ behind))
    = ap (λ zs. framing_in (place Size 0 room LINE_LIMIT) zs) (append_assoc (print_chunk_line m.last) (print_section m.trailers m.end) behind) in
    omega
    (arith, parts, chunks_count m.chunks limit (tail ++ behind) chunks within, lines, line.1.counts (print_section m.trailers m.end ++ behind), trailers.1.counts behind, framing_final (place Done 0 room trailers.0) behind refl, length-append (flat_map print_chunk m.chunks) tail, length-append (print_chunk_line m.last) (print_section m.trailers m.end))

-- all that is no content is framing
pub spelling_counts : (m : Spelling) (behind : List ℕ) → AreChunks m.chunks → IsSizeLine m.last 0 → All IsField m.trailers → length (print_section m.trailers m.end) ≤ LINE_LIMIT → length (content m) ≤ BODY_LIMIT
    → framing_in chunked_body (print_spelling m ++ behind) + length (content m) ≡ length (print_spelling m)
spelling_counts m behind chunks last trailers few within =
    counts_at m BODY_LIMIT behind chunks last within (section m.trailers m.end 0 (BODY_LIMIT - length (content m)) LINE_LIMIT trailers few)

within_limit : (n limit : ℕ) → n ≤ limit → nat_le n limit ≡ true
within_limit n limit le = grind (arith, nat_tests)

pub read_again : (m : Spelling) (behind : List ℕ) (ended : Bool) → IsSpelling m → body_says chunked_body (print_spelling m ++ behind) ended ≡ Some (Ok (content m))
read_again m behind ended ok =
    let r : (n : ℕ) × (run chunked_body [] (print_spelling m ++ behind) ≡ reached (place Done 0 (BODY_LIMIT - length (content m)) n) (content m))
    = spelling_runs m BODY_LIMIT behind ok.chunks ok.last ok.fits (section m.trailers m.end 0 (BODY_LIMIT - length (content m)) LINE_LIMIT ok.trailers ok.few) in
    let framed : framing_in chunked_body (print_spelling m ++ behind) ≤ FRAMING_LIMIT
    = omega (arith, spelling_counts m behind ok.chunks ok.last ok.trailers ok.few ok.fits, ok.framed) in
    ap (λ (q : Reached). verdict_behind (framing_in chunked_body (print_spelling m ++ behind)) q.state.phase q.body ended) r.1
    ∙ ap (λ w. cond w (Some (Ok (content m))) (Some (Err BadChunk))) (within_limit (framing_in chunked_body (print_spelling m ++ behind)) FRAMING_LIMIT framed)
