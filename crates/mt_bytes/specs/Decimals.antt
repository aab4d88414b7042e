-- Decimal numbers in text: 1 to 19 digits, leading zeros allowed, so that each fits 64 bits.
use Rattle.std.specs.Prelude.{ℕ, List, length, Option, Some, None, Bool, ◌&&◌, nat_le, if◌then◌else◌}
use Rattle.std.specs.Char.{is_ascii_digit}
use Rattle.std.specs.List.{list_all}
use Rattle.std.specs.Str.Parse.{digits_value}

-- the text is a decimal
abbrev pub is_decimal : List ℕ → Bool
is_decimal text = nat_le 1 (length text) && nat_le (length text) 19 && list_all is_ascii_digit text

-- the number that a text writes, if it is a decimal
unfoldable pub decimal_number : List ℕ → Option ℕ
decimal_number text = if is_decimal text then Some (digits_value 10 text) else None
