-- Identifiers as text: version 8 UUIDs (RFC 9562, section 5.8) that hold a kind and a number.
use Rattle.std.specs.Prelude.{◌≡◌, ℕ, Bool, ◌+◌, ◌*◌, ◌^◌, ◌%◌, ◌<◌, ◌≤◌, ◌⊎◌, List, Option, Some, None, option_and_then, ◌&&◌, nat_le, nat_lt, bytes_eq, if◌then◌else◌}
use Rattle.std.specs.Int.{IsInRange, w128, to_be_bytes, from_be_bytes}
use Rattle.std.specs.Cmp.Lexicographic.{slice_cmp}
use Rattle.std.specs.Ordering.{is_le, nat_cmp}
use Rattle.uuid.specs.Text.{hyphen, hyphenated_text, lower, parsed}

-- 1 names an object, 2 a job, 3 an output and 4 an upload
abbrev pub IsKind : ℕ → Type 0
IsKind kind = (1 ≤ kind) × (kind ≤ 4)

-- the 128 bits: the kind in the first 32, the version 8, and then the variant's bit and the number in 64
abbrev pub identifier_value : ℕ → ℕ → ℕ
identifier_value kind number = (kind * 2 ^ 32 + 0x8000) * 2 ^ 64 + (2 ^ 63 + number)

-- the text of an identifier: `0000000K-0000-8000-`, and the last 64 bits in hexadecimal, in lower case
unfoldable pub identifier_text : ℕ → ℕ → List ℕ
identifier_text kind number = hyphenated_text lower (to_be_bytes w128 (identifier_value kind number))

-- the text is the one of the identifier with this kind and number
pub record IsIdentifier (kind number : ℕ) (text : List ℕ) : Type 0 where
  pub known : IsKind kind
  pub small : number < 2 ^ 62
  pub written : text ≡ identifier_text kind number

-- a hyphen, a digit or a letter from a to f
abbrev pub IsIdentifierByte : ℕ → Type 0
IsIdentifierByte b = (b ≡ hyphen) ⊎ (IsInRange 48 57 b ⊎ IsInRange 97 102 b)

-- the number that the last 63 of 128 bits hold, if the text is that identifier
abbrev pub number_in : ℕ → List ℕ → List ℕ → Option ℕ
number_in kind text bits =
    let number : ℕ = from_be_bytes w128 bits % 2 ^ 63 in
    if nat_le 1 kind && nat_le kind 4 && nat_lt number (2 ^ 62) && bytes_eq text (identifier_text kind number)
    then Some number else None

-- the number of the identifier of this kind that the text is, if it is one
unfoldable pub identifier_number : ℕ → List ℕ → Option ℕ
identifier_number kind text = option_and_then (number_in kind text) (parsed text)

-- the text of the identifier with this kind and number does not stand before the marker, by bytes
abbrev pub is_from : ℕ → List ℕ → ℕ → Bool
is_from kind marker number = is_le (slice_cmp nat_cmp marker (identifier_text kind number))
