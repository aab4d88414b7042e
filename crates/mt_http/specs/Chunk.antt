-- The line before a chunk (RFC 9112, section 7.1): the size that it tells.
use Rattle.std.specs.Prelude.{ℕ, Bool, false, ◌&&◌, bytes_eq, nat_lt, nat_le, if◌then◌else◌, List, [], ◌∷◌, ◌==◌, length, Option, Some, None}
use Rattle.std.specs.Char.{is_ascii_hexdigit}
use Rattle.std.specs.Str.Parse.{digits_value}
use Rattle.httparse.specs.Ascii.{semicolon, crlf_bytes}
use Rattle.httparse.specs.Grammar.{is_ows, is_extension_byte}

-- the bytes before the first that fails the test
abbrev pub keep_while : (ℕ → Bool) → List ℕ → List ℕ
keep_while test [] = []
keep_while test (b ∷ bytes) = if test b then b ∷ keep_while test bytes else []

-- the bytes from the first that fails the test
abbrev pub skip_while : (ℕ → Bool) → List ℕ → List ℕ
skip_while test [] = []
skip_while test (b ∷ bytes) = if test b then skip_while test bytes else b ∷ bytes

-- CR LF, maybe behind an extension
abbrev pub ends_chunk_line : List ℕ → Bool
ends_chunk_line [] = false
ends_chunk_line (b ∷ bytes) = if b == semicolon then bytes_eq (skip_while is_extension_byte bytes) crlf_bytes else bytes_eq (b ∷ bytes) crlf_bytes

-- the digits at the front
abbrev pub chunk_digits : List ℕ → List ℕ
chunk_digits line = keep_while is_ascii_hexdigit line

-- 1 to 16 hexadecimal digits, blanks, maybe an extension, CR LF
abbrev pub is_chunk_line : List ℕ → Bool
is_chunk_line line = nat_lt 0 (length (chunk_digits line)) && nat_le (length (chunk_digits line)) 16 && ends_chunk_line (skip_while is_ows (skip_while is_ascii_hexdigit line))

-- the size that a whole chunk line tells, if it is one
unfoldable pub chunk_line_size : List ℕ → Option ℕ
chunk_line_size line = if is_chunk_line line then Some (digits_value 16 (chunk_digits line)) else None
