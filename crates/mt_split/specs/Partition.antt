-- Which reducer gets a line of a text: lines, their keys, and the digest of a key.
use Rattle.std.specs.Prelude.{◌==◌, ℕ, ◌+◌, ◌-◌, ◌%◌, List, [], ◌∷◌, ◌++◌, length, take, drop, map, slice_index_or, if◌then◌else◌}
use Rattle.std.specs.List.{filter, flat_map}
use Rattle.std.specs.Int.{w32, from_be_bytes}
use Rattle.md5.specs.Md5.{md5}
use Rattle.mt_split.specs.declared.key.KeyRule.{KeyRule}
use Rattle.mt_split.specs.declared.key.KeyRule.TheVariants.{Line, Fields}

-- a byte in front of the first of these pieces; without a piece it is one
abbrev pub before_first : ℕ → List (List ℕ) → List (List ℕ)
before_first byte [] = (byte ∷ []) ∷ []
before_first byte (piece ∷ pieces) = (byte ∷ piece) ∷ pieces

-- the lines of a text, each with its line feed, which the last may lack
unfoldable pub lines_of : List ℕ → List (List ℕ)
lines_of [] = []
lines_of (byte ∷ text) = if byte == 10 then (byte ∷ []) ∷ lines_of text else before_first byte (lines_of text)

-- a line without the line feed at its end
unfoldable pub content : List ℕ → List ℕ
content line = if slice_index_or line (length line - 1) 0 == 10 then take (length line - 1) line else line

-- what stands between the delimiters: one field more than there are of these
unfoldable pub fields_of : ℕ → List ℕ → List (List ℕ)
fields_of delimiter [] = [] ∷ []
fields_of delimiter (byte ∷ bytes) = if byte == delimiter then [] ∷ fields_of delimiter bytes else before_first byte (fields_of delimiter bytes)

-- the field of a number, counted from 1; one that is not there is empty
unfoldable pub field_at : List (List ℕ) → ℕ → List ℕ
field_at fields number = if number == 0 then [] else slice_index_or fields (number - 1) []

-- the pieces with the delimiter between each two
unfoldable pub joined : ℕ → List (List ℕ) → List ℕ
joined delimiter [] = []
joined delimiter (piece ∷ pieces) = piece ++ flat_map (λ p. delimiter ∷ p) pieces

-- the key of a line: its content, or the named fields of it in the order of their numbers' list
abbrev pub line_key : List ℕ → KeyRule → List ℕ
line_key line Line = content line
line_key line (Fields delimiter numbers) = joined delimiter (map (field_at (fields_of delimiter (content line))) numbers)

-- the reducer of a key, of n: the first four bytes of the key's digest as a number, modulo n
unfoldable pub reducer_of : List ℕ → ℕ → ℕ
reducer_of key n = from_be_bytes w32 (take 4 (md5 key)) % n

-- the lines whose keys go to this reducer of n, in their order
abbrev pub part_of_lines : List (List ℕ) → ℕ → KeyRule → ℕ → List ℕ
part_of_lines lines n rule reducer = flat_map (λ line. line) (filter (λ line. reducer_of (line_key line rule) n == reducer) lines)

-- the part of a text that a reducer of n gets
unfoldable pub part_of : List ℕ → ℕ → KeyRule → ℕ → List ℕ
part_of text n rule reducer = part_of_lines (lines_of text) n rule reducer
