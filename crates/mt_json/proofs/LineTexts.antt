-- The text of a value without floats is UTF-8, and has no line feed.
use Rattle.std.proofs.Common.{◌≡◌, ℕ, ◌<◌, zero, suc, pos, negsuc, Bool, true, false, not, ◌&&◌, List, [], ◌∷◌, ◌++◌, inl, inr, IsUtf8, refl, ◌∙◌, arith, decimal}
use Rattle.std.specs.Char.{digit_value}
use Rattle.std.specs.List.{list_any}
use Rattle.std.specs.Str.Parse.{AllDigits}
use Rattle.std.proofs.lemmas.Bool.{and_parts, cases_eq, cases_lt, ne_eqb, or_from}
use Rattle.std.proofs.lemmas.Fmt.{IsAscii-decimal, IsAscii-signed, decimal_is_IsNumeral}
use Rattle.std.proofs.lemmas.List.Folds.{list_any-append}
use Rattle.std.proofs.lemmas.Str.{IsUtf8-append, IsUtf8-from_ascii}
use Rattle.json.specs.Print.{escape, escape_byte, quoted}
use Rattle.json.proofs.Printed.Utf8.{IsUtf8-are_ascii, IsUtf8-quoted, are_ascii}
use Rattle.json.proofs.Printed.Strings.{escape_byte_plain}
use Rattle.serde_json.specs.Data.{Num, unsigned, negative, float, Data, null, boolean, number, string, array, object, Items, no_items, item, Members, no_members, member}
use Rattle.serde_json.specs.Written.{comma_if, compact_text, items_text, members_text, number_text}
use Rattle.mt_json.specs.Lines.{is_feed}
use Rattle.mt_json.specs.Plain.{AreItemsPlain, AreMembersPlain, IsPlain, IsWhole}

-- UTF-8 without a line feed
pub record IsOneLine (t : List ℕ) : Type 0 where
  pub utf8 : IsUtf8 t
  pub clear : list_any is_feed t ≡ false

line_append : (xs ys : List ℕ) → IsOneLine xs → IsOneLine ys → IsOneLine (xs ++ ys)
line_append xs ys a b = record { utf8 = IsUtf8-append xs ys a.utf8 b.utf8; clear = list_any-append is_feed xs ys ∙ or_from _ _ a.clear b.clear }

line_ascii : (xs : List ℕ) → are_ascii xs ≡ true → list_any is_feed xs ≡ false → IsOneLine xs
line_ascii xs ascii clear = record { utf8 = IsUtf8-are_ascii xs ascii; clear = clear }

-- ---- texts in quotes

-- no escape of a byte below n has a line feed
abbrev escapes_clear : ℕ → Bool
escapes_clear zero = true
escapes_clear (suc n) = not (list_any is_feed (escape_byte n)) && escapes_clear n

all_clear : escapes_clear 128 ≡ true
unfolding escape_byte
all_clear = refl

from_not : (b : Bool) → not b ≡ true → b ≡ false
from_not true e = cc
from_not false e = refl

clear_below : (n : ℕ) → escapes_clear n ≡ true → (x : ℕ) → x < n → list_any is_feed (escape_byte x) ≡ false
clear_below zero e x lt = absurd (omega arith)
clear_below (suc n) e x lt =
    let p = and_parts _ _ e in
    elim (cases_eq x n) [ inl same ↦ rw same (from_not _ p.0) | inr other ↦ clear_below n p.1 x (omega arith) ]

clear_byte : (x : ℕ) → list_any is_feed (escape_byte x) ≡ false
clear_byte x = elim (cases_lt x 128) [
  | inl small ↦ clear_below 128 all_clear x small
  | inr big ↦ rw (escape_byte_plain x (λ e. omega arith) (λ e. omega arith) (omega arith)) (or_from (is_feed x) false (ne_eqb x 10 (λ e. omega arith)) refl)
]

clear_escape : (s : List ℕ) → list_any is_feed (escape s) ≡ false
clear_escape [] = refl
clear_escape (x ∷ xs) = list_any-append is_feed (escape_byte x) (escape xs) ∙ or_from _ _ (clear_byte x) (clear_escape xs)

line_quoted : (s : List ℕ) → IsUtf8 s → IsOneLine (quoted s)
line_quoted s text = record { utf8 = IsUtf8-quoted s text; clear = list_any-append is_feed (escape s) (34 ∷ []) ∙ or_from _ _ (clear_escape s) refl }

-- ---- numbers

digits_clear : (ds : List ℕ) → AllDigits 10 ds → list_any is_feed ds ≡ false
digits_clear [] all = refl
digits_clear (d ∷ ds) all = let digit : digit_value d < 10 = all.0 in or_from (is_feed d) _ (ne_eqb d 10 (λ e. let is : d ≡ 10 = e in grind arith)) (digits_clear ds all.1)

line_number : (n : Num) → IsWhole n → IsOneLine (number_text n)
line_number (unsigned n) small = record { utf8 = IsUtf8-from_ascii (decimal n) (IsAscii-decimal n small); clear = digits_clear (decimal n) (decimal_is_IsNumeral n small).0.1 }
line_number (negative (pos n)) small = absurd small
line_number (negative (negsuc n)) small = record {
  utf8 = IsUtf8-from_ascii _ (IsAscii-signed (negsuc n) (omega (arith, small)));
  clear = digits_clear (decimal (suc n)) (decimal_is_IsNumeral (suc n) (omega (arith, small))).0.1;
}
line_number (float x) small = absurd small

-- ---- values

line_boolean : (b : Bool) → IsOneLine (compact_text (boolean b))
line_boolean true = line_ascii _ refl refl
line_boolean false = line_ascii _ refl refl

line_comma : (later : Bool) → IsOneLine (comma_if later)
line_comma true = line_ascii (44 ∷ []) refl refl
line_comma false = line_ascii [] refl refl

mutual
  pub line-compact_text : (d : Data) → IsPlain d → IsOneLine (compact_text d)
  line-compact_text null plain = line_ascii _ refl refl
  line-compact_text (boolean b) plain = line_boolean b
  line-compact_text (number n) plain = line_number n plain
  line-compact_text (string s) plain = line_quoted s plain
  line-compact_text (array ds) plain = line_append (91 ∷ []) _ (line_ascii (91 ∷ []) refl refl) (line-items false ds plain)
  line-compact_text (object ms) plain = line_append (123 ∷ []) _ (line_ascii (123 ∷ []) refl refl) (line-members false ms plain.1)

  line-items : (later : Bool) (ds : Items) → AreItemsPlain ds → IsOneLine (items_text later ds)
  line-items later no_items plain = line_ascii (93 ∷ []) refl refl
  line-items later (item d ds) plain = line_append _ _ (line_comma later) (line_append _ _ (line-compact_text d plain.0) (line-items true ds plain.1))

  line-members : (later : Bool) (ms : Members) → AreMembersPlain ms → IsOneLine (members_text later ms)
  line-members later no_members plain = line_ascii (125 ∷ []) refl refl
  line-members later (member k d ms) plain =
      line_append _ _ (line_comma later)
      (line_append _ _ (line_quoted k plain.0)
      (line_append (58 ∷ []) _ (line_ascii (58 ∷ []) refl refl) (line_append _ _ (line-compact_text d plain.1) (line-members true ms plain.2))))
