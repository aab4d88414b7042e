-- The fields of a head that is read.
use Rattle.std.proofs.Common.{◌≡◌, ℕ, suc, ◌≤◌, Bool, true, false, List, [], ◌∷◌, ◌++◌, length, map, reverse, All, Some, refl, ap, sym, subst, ◌∙◌, arith, option_map}
use Rattle.std.specs.Prelude.{Option, None}
use Rattle.std.specs.Char.{to_ascii_lowercase}
use Rattle.std.specs.Str.{str_to_ascii_lowercase}
use Rattle.std.proofs.lemmas.Bool.Decides.{nat_tests}
use Rattle.std.proofs.lemmas.List.{length-map, reverse-append, reverse-reverse}
use Rattle.std.proofs.lemmas.List.Elements.{All-nil, All-cons, All-head, All-tail}
use Rattle.std.proofs.lemmas.Option.{none-some, same_Some}
use Rattle.std.proofs.lemmas.Str.Ascii.{lowercase-lowercase}
use Rattle.httparse.specs.Grammar.{AllPass, IsField, IsToken, RequestHead, is_ows, is_token_byte, is_value_byte, skip_ows, trim_ows}
use Rattle.httparse.specs.Grammar as grammar
use Rattle.httparse.proofs.TrimLemmas.{AllPass-trim_ows}
use Rattle.mt_http.specs.Framing.{IsRequestHeadOf, RequestAt, field_limit}
use Rattle.mt_http.specs.Message.{IsClean, field_of, fields_of, framing, head_of, head_with}
use Rattle.mt_http.specs.declared.framing.Framing.{Framing}
use Rattle.mt_http.specs.declared.message.Head.{Head}

-- ---- names

lower_token : (b : ℕ) → is_token_byte b ≡ true → is_token_byte (to_ascii_lowercase b) ≡ true
unfolding is_token_byte
lower_token b token = grind (arith, nat_tests)

lower_tokens : (bytes : List ℕ) → AllPass is_token_byte bytes → AllPass is_token_byte (str_to_ascii_lowercase bytes)
lower_tokens [] all = All-nil (λ x. is_token_byte x ≡ true)
lower_tokens (b ∷ bytes) all =
    let P : ℕ → Type 0 = λ x. is_token_byte x ≡ true in
    All-cons P (to_ascii_lowercase b) (str_to_ascii_lowercase bytes) (lower_token b (All-head P b bytes all)) (lower_tokens bytes (All-tail P b bytes all))

lower-lower : (bytes : List ℕ) → str_to_ascii_lowercase (str_to_ascii_lowercase bytes) ≡ str_to_ascii_lowercase bytes
lower-lower [] = refl
lower-lower (b ∷ bytes) = λ i. lowercase-lowercase b i ∷ lower-lower bytes i

length-lower : (bytes : List ℕ) → length (str_to_ascii_lowercase bytes) ≡ length bytes
length-lower [] = refl
length-lower (b ∷ bytes) = ap suc (length-lower bytes)

-- ---- values

skip-skip : (xs : List ℕ) → skip_ows (skip_ows xs) ≡ skip_ows xs
skip-skip [] = refl
skip-skip (b ∷ xs) = by (is_ows b) refl (skip-skip xs)
  where
    by : (t : Bool) → is_ows b ≡ t → skip_ows (skip_ows xs) ≡ skip_ows xs → skip_ows (skip_ows (b ∷ xs)) ≡ skip_ows (b ∷ xs)
    by true is more = rw is more
    by false is more = rw (is, is) refl

shorter : (xs : List ℕ) → length (skip_ows xs) ≤ length xs
shorter [] = omega arith
shorter (b ∷ xs) = by (is_ows b) refl (shorter xs)
  where
    by : (t : Bool) → is_ows b ≡ t → length (skip_ows xs) ≤ length xs → length (skip_ows (b ∷ xs)) ≤ length (b ∷ xs)
    by true is less = rw is (omega (arith, less))
    by false is less = rw is (omega arith)

-- what is skipped stands in front
skipped : (xs : List ℕ) → (front : List ℕ) × (xs ≡ front ++ skip_ows xs)
skipped [] = ([], refl)
skipped (b ∷ xs) = by (is_ows b) refl (skipped xs)
  where
    by : (t : Bool) → is_ows b ≡ t → ((front : List ℕ) × (xs ≡ front ++ skip_ows xs)) → (front : List ℕ) × (b ∷ xs ≡ front ++ skip_ows (b ∷ xs))
    by true is more = (b ∷ more.0, rw is (ap (λ l. b ∷ l) more.1))
    by false is more = ([], rw is refl)

-- a front of what begins with no blank begins with none
front_of : (p q : List ℕ) → skip_ows (p ++ q) ≡ p ++ q → skip_ows p ≡ p
front_of [] q same = refl
front_of (b ∷ p) q same = by (is_ows b) refl same
  where
    by : (t : Bool) → is_ows b ≡ t → skip_ows (b ∷ (p ++ q)) ≡ b ∷ (p ++ q) → skip_ows (b ∷ p) ≡ b ∷ p
    by true is long =
        let here : skip_ows (b ∷ (p ++ q)) ≡ skip_ows (p ++ q) = rw is refl in
        absurd (omega (arith, shorter (p ++ q), ap length (sym here ∙ long)))
    by false is long = rw is refl

trim_front : (raw : List ℕ) → skip_ows (trim_ows raw) ≡ trim_ows raw
unfolding trim_ows
trim_front raw =
    let begun = skip_ows raw in
    let x = skip_ows (reverse begun) in
    let split = skipped (reverse begun) in
    let whole : begun ≡ reverse x ++ reverse split.0 = sym (reverse-reverse begun) ∙ ap reverse split.1 ∙ reverse-append split.0 x in
    front_of (reverse x) (reverse split.0) (subst (λ (l : List ℕ). skip_ows l ≡ l) whole (skip-skip raw))

trim_back : (raw : List ℕ) → skip_ows (reverse (trim_ows raw)) ≡ reverse (trim_ows raw)
unfolding trim_ows
trim_back raw =
    let begun = skip_ows raw in
    subst (λ (l : List ℕ). skip_ows l ≡ l) (sym (reverse-reverse (skip_ows (reverse begun)))) (skip-skip (reverse begun))

-- ---- fields

field_clean : (f : grammar.Field) → IsField f → IsClean (field_of f)
field_clean f is = record {
  name = (omega (arith, is.name.0, length-lower f.name), lower_tokens f.name is.name.1);
  lower = lower-lower f.name;
  value = AllPass-trim_ows is_value_byte f.raw is.raw;
  front = trim_front f.raw;
  back = trim_back f.raw;
}

fields_clean : (lines : List grammar.Field) → All IsField lines → All IsClean (map field_of lines)
fields_clean [] all = All-nil IsClean
fields_clean (f ∷ fs) all = All-cons IsClean (field_of f) (map field_of fs) (field_clean f (All-head IsField f fs all)) (fields_clean fs (All-tail IsField f fs all))

-- what a head says has the fields of its lines
says_fields : (h : RequestHead) (head : Head) → head_of h ≡ Some head → head.fields ≡ fields_of h
says_fields h head says = by (framing (fields_of h)) says
  where
    by : (o : Option Framing) → option_map (head_with h) o ≡ Some head → head.fields ≡ fields_of h
    by (Some told) is = ap (λ (x : Head). x.fields) (sym (same_Some _ _ is))
    by None is = absurd (none-some head is)

pub says_clean : (text : List ℕ) (h : RequestHead) (head : Head) → IsRequestHeadOf text h → head_of h ≡ Some head → (length head.fields ≤ field_limit) × All IsClean head.fields
says_clean text h head reads says =
    let same = says_fields h head says in (
      omega (arith, reads.1, ap length same, length-map h.fields field_of),
      subst (All IsClean) (sym same) (fields_clean h.fields reads.0.0.fields),
    )

pub head_clean : (bytes : List ℕ) (head : Head) (rest : List ℕ) → RequestAt bytes head rest → (length head.fields ≤ field_limit) × All IsClean head.fields
head_clean bytes head rest at = says_clean at.text at.h head at.reads at.says
