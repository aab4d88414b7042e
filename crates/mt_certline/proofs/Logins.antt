-- A login is a text.
use Rattle.std.proofs.Common.{◌≡◌, ℕ, ◌<◌, ◌≤◌, ◌==◌, true, ◌||◌, List, [], ◌∷◌, IsAscii, IsUtf8, arith, inl, inr}
use Rattle.std.specs.Char.{is_ascii_alphanumeric}
use Rattle.std.specs.Int.{is_in_range}
use Rattle.std.specs.List.{list_all}
use Rattle.std.proofs.lemmas.Bool.{and_parts, eqb-true, leb-true, or_cases}
use Rattle.std.proofs.lemmas.Str.{IsUtf8-from_ascii}
use Rattle.std.proofs.lemmas.Str.Ascii.{IsAscii-cons, IsAscii-nil}
use Rattle.mt_path.specs.AccountPath.{IsLogin, is_login_byte}

within : (low high b : ℕ) → is_in_range low high b ≡ true → b ≤ high
within low high b e = leb-true b high (and_parts _ _ e).1

small_byte : (b : ℕ) → is_login_byte b ≡ true → b < 128
small_byte b e = elim (or_cases (is_ascii_alphanumeric b || b == 95) (b == 45) e) [
  | inl x ↦ elim (or_cases (is_ascii_alphanumeric b) (b == 95) x) [
    | inl y ↦ elim (or_cases (is_in_range 48 57 b || is_in_range 65 90 b) (is_in_range 97 122 b) y) [
      | inl z ↦ elim (or_cases (is_in_range 48 57 b) (is_in_range 65 90 b) z) [
        | inl u ↦ omega (arith, within 48 57 b u)
        | inr u ↦ omega (arith, within 65 90 b u)
      ]
      | inr z ↦ omega (arith, within 97 122 b z)
    ]
    | inr y ↦ omega (arith, eqb-true b 95 y)
  ]
  | inr x ↦ omega (arith, eqb-true b 45 x)
]

ascii_bytes : (name : List ℕ) → list_all is_login_byte name ≡ true → IsAscii name
ascii_bytes [] plain = IsAscii-nil
ascii_bytes (b ∷ bs) plain =
    let parts = and_parts (is_login_byte b) (list_all is_login_byte bs) plain in
    IsAscii-cons b bs (small_byte b parts.0) (ascii_bytes bs parts.1)

pub IsUtf8-login : (name : List ℕ) → IsLogin name → IsUtf8 name
IsUtf8-login name is = IsUtf8-from_ascii name (ascii_bytes name is.plain)
