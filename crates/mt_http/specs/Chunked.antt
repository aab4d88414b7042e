-- A chunked body in the words of the grammar (RFC 9112, section 7.1): chunks, the last chunk, the trailer.
use Rattle.std.specs.Prelude.{◌≡◌, ℕ, ◌<◌, ◌≤◌, false, nat_eq, List, [], ◌∷◌, ◌++◌, length, All}
use Rattle.std.specs.List.{flat_map}
use Rattle.httparse.specs.Ascii.{carriage_return, line_feed, crlf_bytes}
use Rattle.httparse.specs.Grammar.{LineEnd, print_end, ChunkLine, IsChunkLine, print_chunk_line, chunk_size}
use Rattle.mt_http.specs.Body.{body_at, line_limit, trailer_limit}
use Rattle.mt_http.specs.declared.framing.Framing.TheVariants.{Chunked}
use Rattle.mt_http.specs.declared.message.Ending.TheVariants.{Whole}

-- a chunk line and the bytes that it tells of
pub record Chunk : Type 0 where
  pub line : ChunkLine
  pub bytes : List ℕ

abbrev pub print_chunk : Chunk → List ℕ
print_chunk c = print_chunk_line c.line ++ (c.bytes ++ crlf_bytes)

-- a line of the grammar within the limit
pub record IsLine (line : ChunkLine) : Type 0 where
  pub valid : IsChunkLine line
  pub small : length (print_chunk_line line) ≤ line_limit

-- its line tells how many bytes it has, at least one
pub record IsChunk (c : Chunk) : Type 0 where
  pub line : IsLine c.line
  pub size : chunk_size c.line ≡ length c.bytes
  pub some : 0 < length c.bytes

abbrev pub bytes_of : List Chunk → List ℕ
bytes_of chunks = flat_map (λ (c : Chunk). c.bytes) chunks

-- no LF is among these bytes
abbrev pub HasNoFeed : List ℕ → Type 0
HasNoFeed bytes = All (λ b. nat_eq b line_feed ≡ false) bytes

-- a line of a trailer: not empty, and not the CR of an empty line
pub record IsTrailerLine (line : List ℕ) : Type 0 where
  pub no_feed : HasNoFeed line
  pub some : ¬ (line ≡ [])
  pub no_return : ¬ (line ≡ carriage_return ∷ [])

-- the lines of a trailer, and the empty line
abbrev pub print_trailer : List (List ℕ) → LineEnd → List ℕ
print_trailer lines last = flat_map (λ line. line ++ line_feed ∷ []) lines ++ print_end last

-- the bytes are chunks, the last chunk, a trailer and then the rest; the chunks have these bytes
pub record HasChunks (limit : ℕ) (bytes body rest : List ℕ) : Type 0 where
  pub chunks : List Chunk
  pub last : ChunkLine
  pub lines : List (List ℕ)
  pub end : LineEnd
  pub each : All IsChunk chunks
  pub last_line : IsLine last
  pub last_size : chunk_size last ≡ 0
  pub each_line : All IsTrailerLine lines
  pub small : length (print_trailer lines end) ≤ trailer_limit
  pub body_is : body ≡ bytes_of chunks
  pub within : length body ≤ limit
  pub split : bytes ≡ flat_map print_chunk chunks ++ (print_chunk_line last ++ (print_trailer lines end ++ rest))

-- what the grammar calls a chunked body is read as one
abbrev pub ChunksAreRead : Type 0
ChunksAreRead = (limit : ℕ) (bytes body rest : List ℕ) → HasChunks limit bytes body rest → body_at Chunked limit bytes ≡ record { body = body; ending = Whole; rest = rest }

-- and a body that is read whole as a chunked one is one of the grammar
abbrev pub WholeIsChunks : Type 0
WholeIsChunks = (limit : ℕ) (bytes body rest : List ℕ) → body_at Chunked limit bytes ≡ record { body = body; ending = Whole; rest = rest } → HasChunks limit bytes body rest
