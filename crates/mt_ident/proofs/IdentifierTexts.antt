-- The text of an identifier parses to its bits, so it has one kind and one number.
use Rattle.std.proofs.Common.{◌≡◌, ℕ, zero, suc, ◌%◌, ◌^◌, ◌<◌, ◌≤◌, inl, inr, List, length, Some, None, Option, refl, sym, ap, ◌∙◌, arith, All, IsAscii, IsUtf8, Bool, true, false, nat_lt, nat_le, ◌&&◌, bytes_eq, if◌then◌else◌, option_and_then, ◌↔◌}
use Rattle.std.proofs.lemmas.Bool.{cases_lt, lt-ltb, le-ltb, le-leb, and_from, and_parts, leb-true, ltb-true, cases_Bool, cond-true, cond-false}
use Rattle.std.proofs.lemmas.List.Elements.{All-nil, All-cons}
use Rattle.std.proofs.lemmas.Str.{IsUtf8-from_ascii}
use Rattle.std.proofs.lemmas.Slice.Eq.{bytes_eq-Decides}
use Rattle.std.specs.Int.{w128, to_be_bytes, from_be_bytes, bytes_high_first, byte_at}
use Rattle.uuid.specs.Text.{hex_digit, hyphen, is_hyphen_place, lower, nibble, digit_place, parsed}
use Rattle.uuid.proofs.TextLemmas.{hyphenated_ascii, by_index_length, by_index_at, nibble_small}
use Rattle.uuid.proofs.RoundTrips.{parses_hyphenated}
use Rattle.uuid.proofs.OrderLemmas.{from_be_bytes-to_be_bytes_16}
use Rattle.mt_ident.specs.Identifiers.{identifier_value, identifier_text, identifier_number, number_in, IsIdentifier, IsIdentifierByte}

byte_small : (i n : ℕ) → byte_at i n < 256
byte_small zero n = omega arith
byte_small (suc i) n = omega arith

bytes_small : (k n : ℕ) → All (λ b. b < 256) (bytes_high_first k n)
bytes_small zero n = All-nil _
bytes_small (suc k) n = All-cons (λ b. b < 256) (byte_at k n) (bytes_high_first k n) (byte_small k n) (bytes_small k n)

pub parsed-identifier_text : (kind number : ℕ) → parsed (identifier_text kind number) ≡ Some (to_be_bytes w128 (identifier_value kind number))
unfolding identifier_text
parsed-identifier_text kind number =
    let bits : List ℕ = to_be_bytes w128 (identifier_value kind number) in
    sym (parses_hyphenated lower bits (inl refl) refl (bytes_small 16 (identifier_value kind number)))

pub IsAscii-identifier_text : (kind number : ℕ) → IsAscii (identifier_text kind number)
unfolding identifier_text
IsAscii-identifier_text kind number = hyphenated_ascii lower (to_be_bytes w128 (identifier_value kind number)) (inl refl)

pub IsUtf8-identifier_text : (kind number : ℕ) → IsUtf8 (identifier_text kind number)
IsUtf8-identifier_text kind number = IsUtf8-from_ascii (identifier_text kind number) (IsAscii-identifier_text kind number)

pub length-identifier_text : (kind number : ℕ) → length (identifier_text kind number) ≡ 36
unfolding identifier_text
length-identifier_text kind number = by_index_length 36 _

-- the last 63 bits are the number
pub last_bits : (kind number : ℕ) → kind ≤ 4 → number < 2 ^ 62 → from_be_bytes w128 (to_be_bytes w128 (identifier_value kind number)) % 2 ^ 63 ≡ number
last_bits kind number known small =
    rw (from_be_bytes-to_be_bytes_16 (identifier_value kind number) (omega arith)) (omega arith)

digit_is : (d : ℕ) → d < 16 → IsIdentifierByte (hex_digit lower d)
digit_is d small = elim (cases_lt d 10) [
  | inl lt ↦ rw (lt-ltb d 10 lt) (inr (inl (omega arith, omega arith)))
  | inr le ↦ rw (le-ltb d 10 le) (inr (inr (omega arith, omega arith)))
]

place_is : (hyphenated : Bool) (d : ℕ) → d < 16 → IsIdentifierByte (if hyphenated then hyphen else hex_digit lower d)
place_is true d small = inl refl
place_is false d small = digit_is d small

pub bytes_of-identifier_text : (kind number : ℕ) → All IsIdentifierByte (identifier_text kind number)
unfolding identifier_text
bytes_of-identifier_text kind number = λ k d within.
    let bits : List ℕ = to_be_bytes w128 (identifier_value kind number) in
    let place : ℕ → ℕ = λ j. if is_hyphen_place j then hyphen else hex_digit lower (nibble bits (digit_place j)) in
    let known : k < 36 = rw (by_index_length 36 place) at within in
    rw (by_index_at 36 place k d known) (place_is (is_hyphen_place k) (nibble bits (digit_place k)) (nibble_small bits (digit_place k)))

-- the test of a text against a number
abbrev is_text_of : ℕ → ℕ → List ℕ → Bool
is_text_of kind number text = nat_le 1 kind && nat_le kind 4 && nat_lt number (2 ^ 62) && bytes_eq text (identifier_text kind number)

test_passes : (kind number : ℕ) (text : List ℕ) → IsIdentifier kind number text → is_text_of kind number text ≡ true
test_passes kind number text is =
    and_from _ _
    (and_from _ _ (and_from _ _ (le-leb 1 kind is.known.0) (le-leb kind 4 is.known.1)) (lt-ltb number (2 ^ 62) is.small))
    ((bytes_eq-Decides text (identifier_text kind number)).1 is.written)

test_tells : (kind number : ℕ) (text : List ℕ) → is_text_of kind number text ≡ true → IsIdentifier kind number text
test_tells kind number text e =
    let all = and_parts _ _ e in
    let front = and_parts _ _ all.0 in
    let kinds = and_parts _ _ front.0 in
    record {
      known = (leb-true 1 kind kinds.0, leb-true kind 4 kinds.1);
      small = ltb-true number (2 ^ 62) front.1;
      written = (bytes_eq-Decides text (identifier_text kind number)).0 all.1;
    }

number_in-written : (kind number : ℕ) (text bits : List ℕ) → from_be_bytes w128 bits % 2 ^ 63 ≡ number → IsIdentifier kind number text → number_in kind text bits ≡ Some number
number_in-written kind number text bits e is =
    rw e (cond-true (is_text_of kind number text) (Some number) None (test_passes kind number text is))

-- the number of a text that is an identifier
pub identifier_number-written : (kind number : ℕ) (text : List ℕ) → IsIdentifier kind number text → identifier_number kind text ≡ Some number
unfolding identifier_number
identifier_number-written kind number text is =
    let bits : List ℕ = to_be_bytes w128 (identifier_value kind number) in
    let parses : parsed text ≡ Some bits = ap parsed is.written ∙ parsed-identifier_text kind number in
    ap (option_and_then (number_in kind text)) parses ∙ number_in-written kind number text bits (last_bits kind number is.known.1 is.small) is

number_in-read : (kind number : ℕ) (text : List ℕ) (o : Option (List ℕ)) → option_and_then (number_in kind text) o ≡ Some number → IsIdentifier kind number text
number_in-read kind number text None e = cc
number_in-read kind number text (Some bits) e =
    let found : ℕ = from_be_bytes w128 bits % 2 ^ 63 in
    elim (cases_Bool (is_text_of kind found text)) [
      | inl passes ↦
          let same : Some found ≡ Some number = sym (cond-true (is_text_of kind found text) (Some found) None passes) ∙ e in
          let is : found ≡ number = cc in
          rw (← is) (test_tells kind found text passes)
      | inr fails ↦
          let never : None ≡ Some number = sym (cond-false (is_text_of kind found text) (Some found) None fails) ∙ e in
          cc
    ]

-- a text whose number is known is an identifier
pub identifier_number-read : (kind number : ℕ) (text : List ℕ) → identifier_number kind text ≡ Some number → IsIdentifier kind number text
unfolding identifier_number
identifier_number-read kind number text e = number_in-read kind number text (parsed text) e

none_is : (o : Option ℕ) → ((n : ℕ) → o ≡ Some n → ⊥) → None ≡ o
none_is None never = refl
none_is (Some n) never = absurd (never n refl)

-- an exact answer is the number
pub same_from_exact : (kind : ℕ) (text : List ℕ) (r : Option ℕ) → ((n : ℕ) → (r ≡ Some n) ↔ IsIdentifier kind n text) → r ≡ identifier_number kind text
same_from_exact kind text None exact =
    none_is (identifier_number kind text) (λ n e. let no = (exact n).1 (identifier_number-read kind n text e) in cc)
same_from_exact kind text (Some n) exact = sym (identifier_number-written kind n text ((exact n).0 refl))
