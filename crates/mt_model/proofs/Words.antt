-- The words that the store gives as names are components.
use Rattle.std.proofs.Common.{◌≡◌, ℕ, ◌≤◌, ◌&&◌, ◌||◌, Bool, true, false, nat_lt, List, [], ◌∷◌, ◌++◌, codes, refl, ap, arith, IsAscii, length, inl, inr, length-append}
use Rattle.std.specs.List.{list_all}
use Rattle.std.proofs.lemmas.Bool.{le-ltb, ltb-true, ne_eqb}
use Rattle.std.proofs.lemmas.Str.{IsUtf8-from_ascii}
use Rattle.std.proofs.lemmas.Str.Ascii.{IsAscii-nil, IsAscii-cons}
use Rattle.std.proofs.lemmas.List.Elements.{All-nil, All-cons, All-weaker}
use Rattle.std.proofs.lemmas.List.Folds.{list_any_none}
use Rattle.mt_ident.specs.Identifiers.{IsIdentifierByte}
use Rattle.mt_ident.proofs.IdentifierTexts.{IsUtf8-identifier_text, bytes_of-identifier_text, length-identifier_text}
use Rattle.mt_path.specs.AccountPath.{IsComponent, IsPath, is_barred, slash}
use Rattle.mt_model.specs.Names.{job_folder, job_name, job_stor}

and_left : (a b : Bool) → (a && b) ≡ true → a ≡ true
and_left true b e = refl
and_left false b e = e

and_right : (a b : Bool) → (a && b) ≡ true → b ≡ true
and_right true b e = e
and_right false b e = cc

pub IsAscii-from_test : (bs : List ℕ) → list_all (λ b. nat_lt b 128) bs ≡ true → IsAscii bs
IsAscii-from_test [] e = IsAscii-nil
IsAscii-from_test (b ∷ bs) e = IsAscii-cons b bs (ltb-true b 128 (and_left _ _ e)) (IsAscii-from_test bs (and_right (nat_lt b 128) _ e))

pub input_is_component : IsComponent (codes "input")
input_is_component = record {
  some = omega arith;
  short = omega arith;
  text = IsUtf8-from_ascii (codes "input") (IsAscii-from_test (codes "input") refl);
  clear = refl;
  no_dot = λ e. cc;
  no_dots = λ e. cc;
}

pub stor_is_component : IsComponent (codes "stor")
stor_is_component = record {
  some = omega arith;
  short = omega arith;
  text = IsUtf8-from_ascii (codes "stor") (IsAscii-from_test (codes "stor") refl);
  clear = refl;
  no_dot = λ e. cc;
  no_dots = λ e. cc;
}

-- ---- the folders of jobs are paths

pub or_false : (a b : Bool) → a ≡ false → b ≡ false → (a || b) ≡ false
or_false true b p q = cc
or_false false b p q = q

pub in_range : (b : ℕ) → 48 ≤ b → b ≤ 102 → is_barred b ≡ false
in_range b low high = or_false _ _ (or_false _ _ (le-ltb b 32 (omega arith)) (ne_eqb b slash (λ e. omega arith))) (ne_eqb b 127 (λ e. omega arith))

-- no byte of an identifier is barred from a name
pub unbarred : (b : ℕ) → IsIdentifierByte b → is_barred b ≡ false
unbarred b (inl e) = ap is_barred e
unbarred b (inr (inl r)) = in_range b (omega arith) (omega arith)
unbarred b (inr (inr r)) = in_range b (omega arith) (omega arith)

pub name_is_component : (number : ℕ) → IsComponent (job_name number)
name_is_component number =
    let long : length (job_name number) ≡ 36 = length-identifier_text 2 number in
    record {
      some = omega arith;
      short = omega arith;
      text = IsUtf8-identifier_text 2 number;
      clear = list_any_none is_barred (job_name number) (All-weaker IsIdentifierByte (λ b. is_barred b ≡ false) unbarred (job_name number) (bytes_of-identifier_text 2 number));
      no_dot = λ e. let short : length (job_name number) ≡ 1 = ap length e in absurd (omega arith);
      no_dots = λ e. let short : length (job_name number) ≡ 2 = ap length e in absurd (omega arith);
    }

pub job_folder_is_path : (number : ℕ) → IsPath (job_folder number)
job_folder_is_path number =
    let long : length (job_name number) ≡ 36 = length-identifier_text 2 number in
    record {
      components = All-cons IsComponent (job_name number) [] (name_is_component number) (All-nil IsComponent);
      short = omega (arith, length-append (job_name number) []);
    }

pub job_stor_is_path : (number : ℕ) → IsPath (job_stor number)
job_stor_is_path number =
    let long : length (job_name number) ≡ 36 = length-identifier_text 2 number in
    record {
      components = All-cons IsComponent (job_name number) (codes "stor" ∷ []) (name_is_component number)
          (All-cons IsComponent (codes "stor") [] stor_is_component (All-nil IsComponent));
      short = omega (arith, length-append (job_name number) (slash ∷ codes "stor" ++ []));
    }
