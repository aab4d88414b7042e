-- Texts of at most 19 digits, digit by digit.
use Rattle.std.proofs.Common.{◌≡◌, ℕ, ◌+◌, ◌-◌, ◌*◌, ◌^◌, ◌<◌, ◌≤◌, List, length, take, get_or, true, false, sym, ap, ◌∙◌, arith, rules, Some, None}
use Rattle.std.specs.Char.{is_ascii_digit, digit_value}
use Rattle.std.specs.Fmt.{decimal}
use Rattle.std.specs.List.{list_all}
use Rattle.std.specs.Str.Parse.{digits_value}
use Rattle.std.proofs.lemmas.Bool.{false≢true, and_from, and_parts, cond-true, cond-false, le-leb, leb-true, false_from_ne_true}
use Rattle.std.proofs.lemmas.Bool.Decides.{nat_tests}
use Rattle.std.proofs.lemmas.Fmt.{decimal_is_IsNumeral, length-decimal-le}
use Rattle.std.proofs.lemmas.Int.Digits.{digits_value_more}
use Rattle.std.proofs.lemmas.List.Folds.{list_all_more, list_all_at}
use Rattle.std.proofs.lemmas.List.{length-take-le, take_all}
use Rattle.std.proofs.lemmas.Str.Parse.{IsNumeralModel, numerals_by_value, digits_value_short}
use Rattle.mt_base.specs.Numbers.{IsDecimal}
use Rattle.mt_bytes.specs.Decimals.{is_decimal, decimal_number}

pub numerals : IsNumeralModel (λ ds. list_all is_ascii_digit ds ≡ true) (digits_value 10)
numerals = numerals_by_value _ (search rules)

-- what a loop over the digits of a text keeps: those before place i are digits, and they write this number
pub record IsRead (text : List ℕ) (i value : ℕ) : Type 0 where
  pub digits : list_all is_ascii_digit (take i text) ≡ true
  pub number : value ≡ digits_value 10 (take i text)

-- eighteen digits leave room for one more
pub IsRead-fits : (text : List ℕ) (i value : ℕ) → i < length text → length text ≤ 19 → IsRead text i value → value * 10 + 10 < 2 ^ 64
IsRead-fits text i value within few is =
    let short : length (take i text) ≤ 18 = omega (arith, length-take-le i text (omega arith)) in
    omega (arith, is.number, digits_value_short numerals (take i text) 18 is.digits short)

-- a digit stands for its distance from '0'
digit_is : (c : ℕ) → is_ascii_digit c ≡ true → (48 ≤ c) × (c ≤ 57) × (digit_value c ≡ c - 48)
digit_is c digit =
    let low : 48 ≤ c = grind (arith, nat_tests) in
    let high : c ≤ 57 = grind (arith, nat_tests) in
    (low, high, grind (arith, nat_tests))

pub digit-le : (c : ℕ) → is_ascii_digit c ≡ true → c - 48 ≤ 9
digit-le c digit = omega (arith, digit_is c digit)

pub IsRead-more : (text : List ℕ) (i value : ℕ) → i < length text → is_ascii_digit (get_or text i 0) ≡ true → IsRead text i value → IsRead text (i + 1) (value * 10 + (get_or text i 0 - 48))
IsRead-more text i value within digit is = record {
  digits = list_all_more is_ascii_digit text i 0 within ∙ and_from _ _ is.digits digit;
  number = omega (arith, is.number, digits_value_more 10 text i within, digit_is (get_or text i 0) digit);
}

-- the whole text was read
pub IsDecimal-read : (text : List ℕ) (i value : ℕ) → 1 ≤ length text → length text ≤ 19 → length text ≤ i → IsRead text i value → IsDecimal text × (value ≡ digits_value 10 text)
IsDecimal-read text i value some few all is =
    let whole : take i text ≡ text = take_all i text all in
    (record { some = some; few = few; digits = rw whole at is.digits }, rw whole at is.number)

-- a byte that is no digit stands in no decimal
pub IsDecimal-not : (text : List ℕ) (i : ℕ) → i < length text → is_ascii_digit (get_or text i 0) ≡ false → ¬ (IsDecimal text)
IsDecimal-not text i within other is = false≢true (sym (list_all_at is_ascii_digit text i 0 within other) ∙ is.digits)

-- a decimal has its number
pub decimal_number-some : (text : List ℕ) → IsDecimal text → decimal_number text ≡ Some (digits_value 10 text)
unfolding decimal_number
decimal_number-some text is = cond-true (is_decimal text) (Some (digits_value 10 text)) None (and_from _ _ (and_from _ _ (le-leb 1 (length text) is.some) (le-leb (length text) 19 is.few)) is.digits)

-- and another text has none
pub decimal_number-none : (text : List ℕ) → ¬ (IsDecimal text) → None ≡ decimal_number text
unfolding decimal_number
decimal_number-none text never =
    let fails : is_decimal text ≡ false = false_from_ne_true (is_decimal text) (λ e.
    let parts = and_parts _ _ e in
    let sizes = and_parts _ _ parts.0 in
    never (record { some = leb-true 1 (length text) sizes.0; few = leb-true (length text) 19 sizes.1; digits = parts.1 })) in
    sym (cond-false (is_decimal text) (Some (digits_value 10 text)) None fails)

-- what is written of a number of at most 19 digits is a decimal, and reads as the number
pub decimal_number-decimal : (n : ℕ) → n < 10 ^ 19 → decimal_number (decimal n) ≡ Some n
decimal_number-decimal n small =
    let fits : n < 2 ^ 64 = omega arith in
    let written = decimal_is_IsNumeral n fits in
    let is : IsDecimal (decimal n) = record { some = written.0.0; few = length-decimal-le 19 n (omega arith) small fits; digits = numerals.from (decimal n) written.0.1 } in
    decimal_number-some (decimal n) is ∙ ap Some written.1
