-- What stands in a target is decoded to what it was.
use Rattle.std.proofs.Common.{◌≡◌, ◌≢◌, ℕ, ◌≤◌, Bool, true, false, not, List, [], ◌∷◌, ◌++◌, All, refl, sym, ap, ap₂, ⊎_elim, ◌∙◌, arith}
use Rattle.std.specs.List.{flat_map}
use Rattle.std.proofs.lemmas.Bool.{agree_below, agree_below_at, cases_lt}
use Rattle.std.proofs.lemmas.Bool.Decides.{nat_tests}
use Rattle.percent_encoding.specs.AsciiSet.{contains, should_percent_encode}
use Rattle.percent_encoding.specs.Percent.{encode_byte, percent_decode, percent_encode}
use Rattle.percent_encoding.proofs.PercentLemmas.{All-percent_encode, IsByte, IsEscapeByte, round_trip}
use Rattle.mt_ask.specs.Requests.{escaped, escaped_byte, is_plain}
use Rattle.mt_ask.specs.declared.escapes.TheConstants.{ESCAPED}

table : agree_below (contains ESCAPED) (λ b. not (is_plain b)) 128 ≡ true
table = refl

-- exactly the bytes are escaped that don't stand for themselves
sets_agree : (b : ℕ) → should_percent_encode ESCAPED b ≡ not (is_plain b)
unfolding should_percent_encode
sets_agree b = ⊎_elim
    (λ low. let is = agree_below_at (contains ESCAPED) (λ c. not (is_plain c)) 128 b table low in grind (arith, nat_tests, is, low))
    (λ high. grind (arith, nat_tests, high))
    (cases_lt b 128)

byte_is : (b : ℕ) (plain : Bool) → is_plain b ≡ plain → encode_byte ESCAPED b ≡ escaped_byte b
byte_is b true is = let other = sets_agree b in rw (other, is) refl
byte_is b false is = let other = sets_agree b in rw (other, is) refl

bytes_are : (bytes : List ℕ) → flat_map (encode_byte ESCAPED) bytes ≡ flat_map escaped_byte bytes
bytes_are [] = refl
bytes_are (b ∷ bs) = ap₂ (λ x y. x ++ y) (byte_is b (is_plain b) refl) (bytes_are bs)

-- what is written is what is defined
pub escaped_is : (bytes : List ℕ) → percent_encode ESCAPED bytes ≡ escaped bytes
unfolding escaped percent_encode
escaped_is bytes = bytes_are bytes

pub decoded_again : (bytes : List ℕ) → All IsByte bytes → percent_decode (escaped bytes) ≡ bytes
decoded_again bytes small = ap percent_decode (sym (escaped_is bytes)) ∙ round_trip ESCAPED bytes refl small

-- a byte of a target: printable, and none that a target or a query is cut at, but for the slash
pub record IsTargetByte (b : ℕ) : Type 0 where
  pub low : 33 ≤ b
  pub high : b ≤ 126
  pub no_question : b ≢ 63
  pub no_ampersand : b ≢ 38
  pub no_plus : b ≢ 43

kept_byte : (b : ℕ) → should_percent_encode ESCAPED b ≡ false → IsTargetByte b
kept_byte b kept =
    let plain : not (is_plain b) ≡ false = sym (sets_agree b) ∙ kept in
    record {
      low = grind (arith, nat_tests, plain);
      high = grind (arith, nat_tests, plain);
      no_question = λ e. grind (arith, nat_tests, plain, e);
      no_ampersand = λ e. grind (arith, nat_tests, plain, e);
      no_plus = λ e. grind (arith, nat_tests, plain, e);
    }

escape_byte : (b : ℕ) → IsEscapeByte b → IsTargetByte b
escape_byte b is = record {
  low = ⊎_elim (λ e. omega (arith, e)) (λ h. ⊎_elim (λ d. omega (arith, d.0)) (λ d. omega (arith, d.0)) h) is;
  high = ⊎_elim (λ e. omega (arith, e)) (λ h. ⊎_elim (λ d. omega (arith, d.1)) (λ d. omega (arith, d.1)) h) is;
  no_question = λ x. ⊎_elim (λ e. absurd (omega (arith, e, x))) (λ h. ⊎_elim (λ d. absurd (omega (arith, d.1, x))) (λ d. absurd (omega (arith, d.0, x))) h) is;
  no_ampersand = λ x. ⊎_elim (λ e. absurd (omega (arith, e, x))) (λ h. ⊎_elim (λ d. absurd (omega (arith, d.0, x))) (λ d. absurd (omega (arith, d.0, x))) h) is;
  no_plus = λ x. ⊎_elim (λ e. absurd (omega (arith, e, x))) (λ h. ⊎_elim (λ d. absurd (omega (arith, d.0, x))) (λ d. absurd (omega (arith, d.0, x))) h) is;
}

pub target_bytes : (bytes : List ℕ) → All IsTargetByte (escaped bytes)
target_bytes bytes = rw (sym (escaped_is bytes)) (All-percent_encode IsTargetByte ESCAPED bytes kept_byte escape_byte)
