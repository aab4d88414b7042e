-- Numbers as big-endian bytes and as decimal text.
use Rattle.std.specs.Prelude.{ℕ, ◌≤◌, IsTrue, List, length}
use Rattle.std.specs.Int.{w16, w32, w64, to_be_bytes}
use Rattle.std.specs.List.{list_all}
use Rattle.std.specs.Char.{is_ascii_digit}

-- two, four and eight bytes, the highest first
abbrev pub big_endian_16 : ℕ → List ℕ
big_endian_16 n = to_be_bytes w16 n

abbrev pub big_endian_32 : ℕ → List ℕ
big_endian_32 n = to_be_bytes w32 n

abbrev pub big_endian_64 : ℕ → List ℕ
big_endian_64 n = to_be_bytes w64 n

-- a decimal as requests and words have it: 1 to 19 digits, leading zeros allowed
pub record IsDecimal (text : List ℕ) : Type 0 where
  pub some : 1 ≤ length text
  pub few : length text ≤ 19
  pub digits : IsTrue (list_all is_ascii_digit text)
