-- What a list of bytes is as a body: its bytes, how it ends, and what follows (RFC 9112, sections 6 and 7.1).
use Rattle.std.specs.Prelude.{◌≡◌, ℕ, ◌+◌, ◌-◌, Bool, true, false, ◌==◌, nat_lt, nat_le, if◌then◌else◌, List, [], ◌∷◌, ◌++◌, length, Option, Some, None}
use Rattle.httparse.specs.Ascii.{line_feed, carriage_return}
use Rattle.mt_http.specs.Chunk.{chunk_line_size}
use Rattle.mt_http.specs.declared.framing.Framing.{Framing}
use Rattle.mt_http.specs.declared.framing.Framing.TheVariants.{Empty, Length, Chunked}
use Rattle.mt_http.specs.declared.message.Ending.{Ending}
use Rattle.mt_http.specs.declared.message.Ending.TheVariants.{Whole, Truncated, Bad, TooLarge}
use Rattle.mt_http.specs.declared.stage.Stage.{Stage}
use Rattle.mt_http.specs.declared.stage.Stage.TheVariants as at
use Rattle.mt_http.specs.declared.stage.TrailerLine.{TrailerLine}
use Rattle.mt_http.specs.declared.stage.TrailerLine.TheVariants.{Nothing, Return, Text}

-- a chunk line has no more bytes than this
abbrev pub line_limit : ℕ
line_limit = 256

-- a trailer has no more bytes than this
abbrev pub trailer_limit : ℕ
trailer_limit = 65536

-- how far a body has been read
pub record BodyState : Type 0 where
  -- what comes next
  pub stage : Stage
  -- what came of a chunk line
  pub line : List ℕ
  -- the sizes of the chunks so far, together
  pub sizes : ℕ
  -- the body has no more bytes than this
  pub limit : ℕ

-- no byte is a byte of the body any more
abbrev pub over : BodyState → Ending → BodyState
over s ending = record s { stage = at.Over ending; line = [] }

-- so many bytes of a body whose length was told
abbrev pub counted : BodyState → ℕ → BodyState
counted s n = if n == 0 then over s Whole else record s { stage = at.Counted n }

-- so many bytes of a chunk
abbrev pub in_chunk : BodyState → ℕ → BodyState
in_chunk s n = if n == 0 then record s { stage = at.ChunkReturn } else record s { stage = at.Chunk n }

-- a body before its first byte
abbrev pub first_state : Framing → ℕ → BodyState
first_state Empty limit = record { stage = at.Over Whole; line = []; sizes = 0; limit = limit }
first_state (Length n) limit = if nat_lt limit n then record { stage = at.Over TooLarge; line = []; sizes = 0; limit = limit } else counted (record { stage = at.ChunkLine; line = []; sizes = 0; limit = limit }) n
first_state Chunked limit = record { stage = at.ChunkLine; line = []; sizes = 0; limit = limit }

-- after a chunk line: a chunk, the trailer behind the last chunk, or too much
abbrev pub after_line : BodyState → Option ℕ → BodyState
after_line s None = over s Bad
after_line s (Some n) =
    if nat_lt s.limit (s.sizes + n) then over s TooLarge
    else if n == 0 then record s { stage = at.Trailer 0 Nothing; line = [] }
    else record s { stage = at.Chunk n; line = []; sizes = s.sizes + n }

-- a byte of a chunk line
abbrev pub line_byte : BodyState → ℕ → BodyState
line_byte s b =
    if nat_le line_limit (length s.line) then over s Bad
    else if b == line_feed then after_line s (chunk_line_size (s.line ++ b ∷ []))
    else record s { line = s.line ++ b ∷ [] }

-- a line of a trailer goes on
abbrev pub trailer_line : TrailerLine → ℕ → TrailerLine
trailer_line Nothing b = if b == carriage_return then Return else Text
trailer_line Return b = Text
trailer_line Text b = if b == line_feed then Nothing else Text

-- a byte of a trailer: it ends with an empty line
abbrev pub trailer_byte : BodyState → ℕ → TrailerLine → ℕ → BodyState
trailer_byte s n Text b = if nat_le trailer_limit n then over s Bad else record s { stage = at.Trailer (n + 1) (trailer_line Text b) }
trailer_byte s n line b =
    if nat_le trailer_limit n then over s Bad
    else if b == line_feed then over s Whole
    else record s { stage = at.Trailer (n + 1) (trailer_line line b) }

-- after one more byte of the source
abbrev pub next_at : Stage → BodyState → ℕ → BodyState
next_at (at.Counted n) s b = counted s (n - 1)
next_at at.ChunkLine s b = line_byte s b
next_at (at.Chunk n) s b = in_chunk s (n - 1)
next_at at.ChunkReturn s b = if b == carriage_return then record s { stage = at.ChunkFeed } else over s Bad
next_at at.ChunkFeed s b = if b == line_feed then record s { stage = at.ChunkLine } else over s Bad
next_at (at.Trailer n line) s b = trailer_byte s n line b
next_at (at.Over ending) s b = s

abbrev pub next_state : BodyState → ℕ → BodyState
next_state s b = next_at s.stage s b

-- after more bytes of the source
abbrev pub after_bytes : BodyState → List ℕ → BodyState
after_bytes s [] = s
after_bytes s (b ∷ bytes) = after_bytes (next_state s b) bytes

-- so many bytes, none of them an LF, go on with a line of the chunks or of the trailer
abbrev pub line_room_at : Stage → ℕ → ℕ
line_room_at at.ChunkLine n = line_limit - n
line_room_at (at.Trailer m line) n = trailer_limit - m
line_room_at _ n = 0

abbrev pub line_room : BodyState → ℕ
line_room s = line_room_at s.stage (length s.line)

-- a byte of the source is one of the body's
abbrev pub is_data : Stage → Bool
is_data (at.Counted n) = true
is_data (at.Chunk n) = true
is_data _ = false

-- after so many bytes of the body
abbrev pub after_data_at : Stage → BodyState → ℕ → BodyState
after_data_at (at.Counted m) s n = counted s (m - n)
after_data_at (at.Chunk m) s n = in_chunk s (m - n)
after_data_at _ s n = s

abbrev pub after_data : BodyState → ℕ → BodyState
after_data s n = after_data_at s.stage s n

-- how many bytes of the body come before the next byte that is none
abbrev pub data_left : Stage → ℕ
data_left (at.Counted n) = n
data_left (at.Chunk n) = n
data_left _ = 0

-- there is such a byte, and a trailer is within its limit
abbrev pub is_sound : Stage → Bool
is_sound (at.Counted n) = nat_lt 0 n
is_sound (at.Chunk n) = nat_lt 0 n
is_sound (at.Trailer n line) = nat_le n trailer_limit
is_sound _ = true

-- the body has no more bytes than this from here on
abbrev pub most_left_at : Stage → ℕ → ℕ
most_left_at (at.Counted n) more = n
most_left_at (at.Chunk n) more = n + more
most_left_at (at.Over ending) more = 0
most_left_at _ more = more

abbrev pub most_left : BodyState → ℕ
most_left s = most_left_at s.stage (s.limit - s.sizes)

-- how the body ended, if it has
abbrev pub ended : Stage → Option Ending
ended (at.Over ending) = Some ending
ended _ = None

-- what a list of bytes is as a body
pub record Told : Type 0 where
  pub body : List ℕ
  pub ending : Ending
  pub rest : List ℕ

-- with one more byte of the body before
abbrev pub with_byte : ℕ → Told → Told
with_byte b told = record told { body = b ∷ told.body }

-- what this byte and these bytes are, by what the bytes are behind the byte
abbrev pub told_by : Stage → ℕ → List ℕ → Told → Told
told_by (at.Over ending) b bytes told = record { body = []; ending = ending; rest = b ∷ bytes }
told_by (at.Counted n) b bytes told = with_byte b told
told_by (at.Chunk n) b bytes told = with_byte b told
told_by _ b bytes told = told

-- where no byte is left
abbrev pub told_at_end : Stage → Told
told_at_end (at.Over ending) = record { body = []; ending = ending; rest = [] }
told_at_end _ = record { body = []; ending = Truncated; rest = [] }

-- what these bytes are as the rest of a body that was read so far
unfoldable pub told_from : BodyState → List ℕ → Told
told_from s [] = told_at_end s.stage
told_from s (b ∷ bytes) = told_by s.stage b bytes (told_from (next_state s b) bytes)

-- what these bytes are as a body of this framing, of at most so many bytes
abbrev pub body_at : Framing → ℕ → List ℕ → Told
body_at told limit bytes = told_from (first_state told limit) bytes

-- a body that is whole is told by the bytes up to its end, whatever follows them
abbrev pub WholeBodyIsLocal : Type 0
WholeBodyIsLocal = (s : BodyState) (bytes body rest : List ℕ) → told_from s bytes ≡ record { body = body; ending = Whole; rest = rest }
    → (used : List ℕ) × (bytes ≡ used ++ rest) × ((more : List ℕ) → told_from s (used ++ more) ≡ record { body = body; ending = Whole; rest = more })
