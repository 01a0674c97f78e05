-- How a body may be written in chunks.
use Rattle.std.specs.Prelude.{ℕ, ◌≡◌, ◌+◌, ◌<◌, ◌≤◌, List, [], ◌∷◌, ◌++◌, length, All, ⊤}
use Rattle.std.specs.List.{flat_map}
use Rattle.std.specs.Char.{is_ascii_hexdigit}
use Rattle.httparse.specs.Ascii.{crlf_bytes}
use Rattle.httparse.specs.Grammar.{AllPass, ChunkLine, IsExtension, chunk_size, print_chunk_line, is_ows, Field, IsField, LineEnd, print_section}
use Rattle.wire_body.specs.declared.states.TheConstants.{BODY_LIMIT, FRAMING_LIMIT, LINE_LIMIT}

-- a size line that writes this size in any number of digits, within its limit
pub record IsSizeLine (l : ChunkLine) (size : ℕ) : Type 0 where
  pub digits : 0 < length l.digits
  pub hex : AllPass is_ascii_hexdigit l.digits
  pub pad : AllPass is_ows l.pad
  pub extension : IsExtension l.extension
  pub within : length (print_chunk_line l) ≤ LINE_LIMIT
  pub value : chunk_size l ≡ size

-- a size line and the content behind it
pub record Chunk : Type 0 where
  pub line : ChunkLine
  pub content : List ℕ

abbrev pub print_chunk : Chunk → List ℕ
print_chunk c = print_chunk_line c.line ++ (c.content ++ crlf_bytes)

abbrev pub content_of : Chunk → List ℕ
content_of c = c.content

-- each chunk has content, and its line writes how much
abbrev pub AreChunks : List Chunk → Type 0
AreChunks [] = ⊤
AreChunks (c ∷ chunks) = (0 < length c.content) × IsSizeLine c.line (length c.content) × AreChunks chunks

-- chunks, the line of the last one, the trailers, and the end of the empty line
pub record Spelling : Type 0 where
  pub chunks : List Chunk
  pub last : ChunkLine
  pub trailers : List Field
  pub end : LineEnd

abbrev pub print_spelling : Spelling → List ℕ
print_spelling m = flat_map print_chunk m.chunks ++ (print_chunk_line m.last ++ print_section m.trailers m.end)

-- the content that it writes
abbrev pub content : Spelling → List ℕ
content m = flat_map content_of m.chunks

-- it is in the grammar and within the limits: of the content, of each size line, of the trailers, and of
-- all that is no content
pub record IsSpelling (m : Spelling) : Type 0 where
  pub chunks : AreChunks m.chunks
  pub last : IsSizeLine m.last 0
  pub trailers : All IsField m.trailers
  pub few : length (print_section m.trailers m.end) ≤ LINE_LIMIT
  pub fits : length (content m) ≤ BODY_LIMIT
  pub framed : length (print_spelling m) ≤ length (content m) + FRAMING_LIMIT
