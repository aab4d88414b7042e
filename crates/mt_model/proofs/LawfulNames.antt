-- The names of outputs without a place are components, and end in the identifier of their number.
use Rattle.std.proofs.Common.{◌≡◌, ℕ, ◌+◌, ◌-◌, ◌%◌, ◌^◌, ◌<◌, ◌≤◌, false, List, [], ◌∷◌, ◌++◌, codes, drop, length, length-append, Some, refl, ap, ◌∙◌, arith}
use Rattle.std.specs.Prelude.{IsUtf8}
use Rattle.std.specs.Fmt.{decimal}
use Rattle.std.specs.List.{list_any}
use Rattle.std.proofs.Math.Seq.{drop-append_seam}
use Rattle.std.proofs.lemmas.Fmt.{IsAscii-decimal, decimal_by_steps, length-decimal-le}
use Rattle.std.proofs.lemmas.List.Elements.{All-nil, All-cons, All-weaker}
use Rattle.std.proofs.lemmas.List.Folds.{list_any-append, list_any_none}
use Rattle.std.proofs.lemmas.Str.{IsUtf8-append, IsUtf8-from_ascii}
use Rattle.mt_ident.specs.Identifiers.{IsIdentifierByte, identifier_number, identifier_text}
use Rattle.mt_ident.proofs.IdentifierTexts.{IsUtf8-identifier_text, bytes_of-identifier_text, identifier_number-written, length-identifier_text}
use Rattle.mt_path.specs.AccountPath.{IsComponent, IsPath, is_barred, slash}
use Rattle.mt_model.specs.Names.{anonymous_place, job_name, output_prefix}
use Rattle.mt_model.proofs.Words.{IsAscii-from_test, in_range, name_is_component, or_false, stor_is_component, unbarred}

-- bytes that may stand in a name
record Plain (bs : List ℕ) : Type 0 where
  text : IsUtf8 bs
  clear : list_any is_barred bs ≡ false

plain_append : (xs ys : List ℕ) → Plain xs → Plain ys → Plain (xs ++ ys)
plain_append xs ys p q = record {
  text = IsUtf8-append xs ys p.text q.text;
  clear = list_any-append is_barred xs ys ∙ or_false (list_any is_barred xs) (list_any is_barred ys) p.clear q.clear;
}

plain_dot : Plain (codes ".")
plain_dot = record { text = IsUtf8-from_ascii (codes ".") (IsAscii-from_test (codes ".") refl); clear = refl }

abbrev Clear : ℕ → List ℕ → Type 0
Clear n ds = list_any is_barred ds ≡ false

one_digit : (d : ℕ) → d < 10 → Clear d ((48 + d) ∷ [])
one_digit d less = or_false (is_barred (48 + d)) false (in_range (48 + d) (omega arith) (omega arith)) refl

last_digit : (n : ℕ) → n % 10 < 10
last_digit n = omega arith

plain_decimal : (n : ℕ) → n < 2 ^ 64 → Plain (decimal n)
plain_decimal n less = record {
  text = IsUtf8-from_ascii (decimal n) (IsAscii-decimal n less);
  clear = decimal_by_steps Clear one_digit
      (λ k ds many before. list_any-append is_barred ds ((48 + k % 10) ∷ []) ∙ or_false (list_any is_barred ds) (list_any is_barred ((48 + k % 10) ∷ [])) before (one_digit (k % 10) (last_digit k))) n less;
}

plain_identifier : (number : ℕ) → Plain (identifier_text 3 number)
plain_identifier number = record {
  text = IsUtf8-identifier_text 3 number;
  clear = list_any_none is_barred (identifier_text 3 number) (All-weaker IsIdentifierByte (λ b. is_barred b ≡ false) unbarred (identifier_text 3 number) (bytes_of-identifier_text 3 number));
}

module _ (root : List ℕ) (component : IsComponent root) (short : length root ≤ 200) (phase : ℕ) (few : phase < 16) (number : ℕ) where
  abbrev name : List ℕ
  name = output_prefix root phase ++ identifier_text 3 number

  decimal_short : length (decimal phase) ≤ 2
  decimal_short = length-decimal-le 2 phase (omega arith) (omega arith) (omega arith)

  prefix_length : length (output_prefix root phase) ≡ length root + 1 + length (decimal phase) + 1
  prefix_length = omega (arith, length-append (root ++ codes "." ++ decimal phase) (codes "."), length-append (root ++ codes ".") (decimal phase), length-append root (codes "."))

  name_length : length name ≡ length (output_prefix root phase) + 36
  name_length = omega (arith, length-append (output_prefix root phase) (identifier_text 3 number), length-identifier_text 3 number)

  plain_name : Plain name
  plain_name =
      plain_append (output_prefix root phase) (identifier_text 3 number)
      (plain_append (root ++ codes "." ++ decimal phase) (codes ".")
      (plain_append (root ++ codes ".") (decimal phase) (plain_append root (codes ".") (record { text = component.text; clear = component.clear }) plain_dot) (plain_decimal phase (omega arith))) plain_dot)
      (plain_identifier number)

  output_is_component : IsComponent name
  output_is_component = record {
    some = omega (arith, name_length);
    short = omega (arith, name_length, prefix_length, decimal_short, short);
    text = plain_name.text;
    clear = plain_name.clear;
    no_dot = λ e. let one : length name ≡ 1 = ap length e in absurd (omega (arith, one, name_length));
    no_dots = λ e. let two : length name ≡ 2 = ap length e in absurd (omega (arith, two, name_length));
  }

  pub output_is_path : (job : ℕ) → IsPath (anonymous_place job root phase number)
  output_is_path job =
      let long : length (job_name job) ≡ 36 = length-identifier_text 2 job in
      record {
        components = All-cons IsComponent (job_name job) (codes "stor" ∷ name ∷ []) (name_is_component job)
            (All-cons IsComponent (codes "stor") (name ∷ []) stor_is_component (All-cons IsComponent name [] output_is_component (All-nil IsComponent)));
        short = omega (arith, long, name_length, prefix_length, decimal_short, short, length-append (job_name job) (slash ∷ codes "stor" ++ (slash ∷ name ++ [])), length-append name []);
      }

  -- the number that its name ends in
  pub output_number : number < 2 ^ 62 → identifier_number 3 (drop (length name - 36) name) ≡ Some number
  output_number small =
      let cut : length name - 36 ≡ length (output_prefix root phase) = omega (arith, name_length) in
      ap (λ n. identifier_number 3 (drop n name)) cut
      ∙ ap (identifier_number 3) (drop-append_seam (output_prefix root phase) (identifier_text 3 number))
      ∙ identifier_number-written 3 number (identifier_text 3 number) (record { known = (omega arith, omega arith); small = small; written = refl })
