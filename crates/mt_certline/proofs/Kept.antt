-- JSON values that are read again from their texts, and whose texts are UTF-8.
use Rattle.std.proofs.Common.{◌≡◌, ℕ, ◌+◌, ◌<◌, ◌≤◌, ◌^◌, ◌==◌, zero, suc, Bool, true, false, not, ◌&&◌, ◌||◌, List, [], ◌∷◌, ◌++◌, map, Option, Some, option_map, option_and_then, inl, inr, IsUtf8, refl, sym, ap, ◌∙◌, arith, append-nil, codes, decimal}
use Rattle.std.specs.Char.{digit_value}
use Rattle.std.specs.List.{AllByRecursion, list_any}
use Rattle.std.specs.Str.Parse.{AllDigits}
use Rattle.std.proofs.lemmas.Bool.{and_parts, cases_eq, cases_lt, ne_eqb, or_from}
use Rattle.std.specs.Prelude.{⊤}
use Rattle.std.proofs.lemmas.Fmt.{IsAscii-decimal, decimal_is_IsNumeral}
use Rattle.std.proofs.lemmas.Str.{IsUtf8-append, IsUtf8-from_ascii}
use Rattle.json.specs.Json as json
use Rattle.json.specs.Print.{escape, escape_byte, quoted}
use Rattle.json.specs.Token.{Token}
use Rattle.json.specs.Tree as tree
use Rattle.json.specs.Tree.{HasNumbers, ItemsHaveNumbers, MembersHaveNumbers, json_tokens}
use Rattle.json.proofs.Printed.Decimals.{IsNumber-decimal}
use Rattle.json.proofs.Printed.Tokens.{tokens-print}
use Rattle.json.proofs.Printed.Trees.{ArePrintable-json_tokens, value-json_tokens}
use Rattle.json.proofs.Printed.Utf8.{IsUtf8-are_ascii, IsUtf8-quoted, are_ascii}
use Rattle.json.proofs.Printed.Strings.{escape_byte_plain}
use Rattle.serde_json.specs.Data.{Data, Members, array, boolean, item, member, no_members, null, number, object, string, unsigned}
use Rattle.serde_json.specs.Read.{max_depth, of_items, of_json, read}
use Rattle.serde_json.specs.View.{items_of}
use Rattle.serde_json.specs.Written.{comma_if, compact_text, items_outline, items_text, members_text, outline}
use Rattle.serde_json.proofs.Numbers.{number_of-decimal}
use Rattle.serde_json.proofs.Texts.{print-outline}

-- ---- texts of one line

abbrev is_feed : ℕ → Bool
is_feed b = b == 10

-- UTF-8 without a line feed
pub record IsOneLine (t : List ℕ) : Type 0 where
  pub utf8 : IsUtf8 t
  pub clear : list_any is_feed t ≡ false

or_group : (a b c : Bool) → ((a || b) || c) ≡ (a || (b || c))
or_group true b c = refl
or_group false b c = refl

any_append : (xs ys : List ℕ) → list_any is_feed (xs ++ ys) ≡ (list_any is_feed xs || list_any is_feed ys)
any_append [] ys = refl
any_append (x ∷ xs) ys = ap (λ b. is_feed x || b) (any_append xs ys) ∙ sym (or_group (is_feed x) (list_any is_feed xs) (list_any is_feed ys))

line_append : (xs ys : List ℕ) → IsOneLine xs → IsOneLine ys → IsOneLine (xs ++ ys)
line_append xs ys a b = record { utf8 = IsUtf8-append xs ys a.utf8 b.utf8; clear = any_append xs ys ∙ or_from _ _ a.clear b.clear }

pub line_ascii : (xs : List ℕ) → are_ascii xs ≡ true → list_any is_feed xs ≡ false → IsOneLine xs
line_ascii xs ascii clear = record { utf8 = IsUtf8-are_ascii xs ascii; clear = clear }

-- no escape of a byte below n has a line feed
abbrev escapes_clear : ℕ → Bool
escapes_clear zero = true
escapes_clear (suc n) = not (list_any is_feed (escape_byte n)) && escapes_clear n

all_clear : escapes_clear 128 ≡ true
unfolding escape_byte
all_clear = refl

from_not : (b : Bool) → not b ≡ true → b ≡ false
from_not true e = cc
from_not false e = refl

clear_below : (n : ℕ) → escapes_clear n ≡ true → (x : ℕ) → x < n → list_any is_feed (escape_byte x) ≡ false
clear_below zero e x lt = absurd (omega arith)
clear_below (suc n) e x lt =
    let p = and_parts _ _ e in
    elim (cases_eq x n) [ inl same ↦ rw same (from_not _ p.0) | inr other ↦ clear_below n p.1 x (omega arith) ]

clear_byte : (x : ℕ) → list_any is_feed (escape_byte x) ≡ false
clear_byte x = elim (cases_lt x 128) [
  | inl small ↦ clear_below 128 all_clear x small
  | inr big ↦ rw (escape_byte_plain x (λ e. omega arith) (λ e. omega arith) (omega arith)) (or_from (is_feed x) false (ne_eqb x 10 (λ e. omega arith)) refl)
]

clear_escape : (s : List ℕ) → list_any is_feed (escape s) ≡ false
clear_escape [] = refl
clear_escape (x ∷ xs) = any_append (escape_byte x) (escape xs) ∙ or_from _ _ (clear_byte x) (clear_escape xs)

line_quoted : (s : List ℕ) → IsUtf8 s → IsOneLine (quoted s)
line_quoted s text = record { utf8 = IsUtf8-quoted s text; clear = any_append (escape s) (34 ∷ []) ∙ or_from _ _ (clear_escape s) refl }

digits_clear : (ds : List ℕ) → AllDigits 10 ds → list_any is_feed ds ≡ false
digits_clear [] all = refl
digits_clear (d ∷ ds) all = let digit : digit_value d < 10 = all.0 in or_from (is_feed d) _ (ne_eqb d 10 (λ e. let is : d ≡ 10 = e in grind arith)) (digits_clear ds all.1)

line_decimal : (n : ℕ) → n < 2 ^ 64 → IsOneLine (decimal n)
line_decimal n small = record { utf8 = IsUtf8-from_ascii (decimal n) (IsAscii-decimal n small); clear = digits_clear (decimal n) (decimal_is_IsNumeral n small).0.1 }

-- it has no number but in digits, its text stands for it alone, it nests no deeper than this, and its text is one line
pub record Kept (n : ℕ) (d : Data) : Type 0 where
  pub numbers : HasNumbers (outline d)
  pub same : of_json (outline d) ≡ Some d
  pub shallow : tree.depth (outline d) ≤ n
  pub text : IsOneLine (compact_text d)

abbrev whole_value : Option (json.Json × List Token) → Option Data
whole_value found = option_and_then of_json (option_and_then (λ p. json.if_last p.0 p.1) found)

-- such a value is read from its text
pub reads_again : (n : ℕ) (d : Data) → n ≤ max_depth → Kept n d → read (compact_text d) ≡ Some d
reads_again n d few k =
    let tokens_are = tokens-print (json_tokens (outline d)) (ArePrintable-json_tokens (outline d) k.numbers) in
    ap read (sym (print-outline d))
    ∙ (ap whole_value (ap (json.value max_depth) (tokens_are ∙ sym (append-nil _)) ∙ value-json_tokens (outline d) max_depth [] (omega (arith, few, k.shallow))) ∙ k.same)

pub deeper : (m n : ℕ) (d : Data) → m ≤ n → Kept m d → Kept n d
deeper m n d le k = record { numbers = k.numbers; same = k.same; shallow = omega (arith, le, k.shallow); text = k.text }

-- ---- single values

pub kept_null : Kept 0 null
kept_null = record { numbers = tt; same = refl; shallow = omega arith; text = line_ascii _ refl refl }

pub kept_true : Kept 0 (boolean true)
kept_true = record { numbers = tt; same = refl; shallow = omega arith; text = line_ascii _ refl refl }

pub kept_string : (s : List ℕ) → IsUtf8 s → Kept 0 (string s)
kept_string s text = record { numbers = tt; same = refl; shallow = omega arith; text = line_quoted s text }

pub kept_whole : (n : ℕ) → n < 2 ^ 64 → Kept 0 (number (unsigned n))
kept_whole n small = record {
  numbers = IsNumber-decimal n small;
  same = rw (number_of-decimal n small) refl;
  shallow = omega arith;
  text = line_decimal n small;
}

-- ---- lists

comma_text : (later : Bool) → IsOneLine (comma_if later)
comma_text true = line_ascii (44 ∷ []) refl refl
comma_text false = line_ascii [] refl refl

module _ (n : ℕ) where
  items_numbers : (ds : List Data) → AllByRecursion (Kept n) ds → ItemsHaveNumbers (items_outline (items_of ds))
  items_numbers [] all = tt
  items_numbers (d ∷ ds) all = (all.0.numbers, items_numbers ds all.1)

  items_same : (ds : List Data) → AllByRecursion (Kept n) ds → of_items (items_outline (items_of ds)) ≡ Some (items_of ds)
  items_same [] all = refl
  items_same (d ∷ ds) all =
      ap (option_and_then (λ x. option_map (item x) (of_items (items_outline (items_of ds))))) all.0.same
      ∙ ap (option_map (item d)) (items_same ds all.1)

  items_shallow : (ds : List Data) → AllByRecursion (Kept n) ds → tree.items_depth (items_outline (items_of ds)) ≤ n
  items_shallow [] all = omega arith
  items_shallow (d ∷ ds) all = omega (arith, all.0.shallow, items_shallow ds all.1)

  items_utf8 : (later : Bool) (ds : List Data) → AllByRecursion (Kept n) ds → IsOneLine (items_text later (items_of ds))
  items_utf8 later [] all = line_ascii (93 ∷ []) refl refl
  items_utf8 later (d ∷ ds) all = line_append _ _ (comma_text later) (line_append _ _ all.0.text (items_utf8 true ds all.1))

  pub kept_list : (ds : List Data) → AllByRecursion (Kept n) ds → Kept (n + 1) (array (items_of ds))
  kept_list ds all = record {
    numbers = items_numbers ds all;
    same = ap (option_map (λ x. array x)) (items_same ds all);
    shallow = omega (arith, items_shallow ds all);
    text = line_append (91 ∷ []) _ (line_ascii (91 ∷ []) refl refl) (items_utf8 false ds all);
  }

-- each value of a list is such a one, if what it is made of is
pub all_kept : {A : Type 0} (P : A → Type 0) (n : ℕ) (f : A → Data) → ((x : A) → P x → Kept n (f x)) → (xs : List A) → AllByRecursion P xs → AllByRecursion (Kept n) (map f xs)
all_kept P n f each [] all = tt
all_kept P n f each (x ∷ xs) all = (each x all.0, all_kept P n f each xs all.1)

-- ---- objects

-- keys of ASCII, and texts
abbrev AreTexts : Members → Type 0
AreTexts no_members = ⊤
AreTexts (member k d ms) = (are_ascii k ≡ true) × IsOneLine (compact_text d) × AreTexts ms

members_utf8 : (later : Bool) (ms : Members) → AreTexts ms → IsOneLine (members_text later ms)
members_utf8 later no_members all = line_ascii (125 ∷ []) refl refl
members_utf8 later (member k d ms) all =
    line_append _ _ (comma_text later)
    (line_append _ _ (line_quoted k (IsUtf8-are_ascii k all.0))
    (line_append (58 ∷ []) _ (line_ascii (58 ∷ []) refl refl) (line_append _ _ all.1 (members_utf8 true ms all.2))))

object_utf8 : (ms : Members) → AreTexts ms → IsOneLine (compact_text (object ms))
object_utf8 ms all = line_append (123 ∷ []) _ (line_ascii (123 ∷ []) refl refl) (members_utf8 false ms all)

-- the forms of objects
module _ (n : ℕ) where
  pub kept_input : (a : Data) → Kept n a → Kept (n + 1) (object (member (codes "input") a no_members))
  kept_input a ka = record {
    numbers = (ka.numbers, tt);
    same = rw ka.same refl;
    shallow = omega (arith, ka.shallow);
    text = object_utf8 (member (codes "input") a no_members) (refl, ka.text, tt);
  }

  pub kept_output : (a : Data) → Kept n a → Kept (n + 1) (object (member (codes "output") a no_members))
  kept_output a ka = record {
    numbers = (ka.numbers, tt);
    same = rw ka.same refl;
    shallow = omega (arith, ka.shallow);
    text = object_utf8 (member (codes "output") a no_members) (refl, ka.text, tt);
  }

  pub kept_end : (a : Data) → Kept n a → Kept (n + 1) (object (member (codes "end") a no_members))
  kept_end a ka = record {
    numbers = (ka.numbers, tt);
    same = rw ka.same refl;
    shallow = omega (arith, ka.shallow);
    text = object_utf8 (member (codes "end") a no_members) (refl, ka.text, tt);
  }

  pub kept_begin : (a b c : Data) → Kept n a → Kept n b → Kept n c
      → Kept (n + 1) (object (member (codes "certificate") a (member (codes "id") b (member (codes "phases") c no_members))))
  kept_begin a b c ka kb kc = record {
    numbers = (ka.numbers, (kb.numbers, (kc.numbers, tt)));
    same = rw (ka.same, kb.same, kc.same) refl;
    shallow = omega (arith, ka.shallow, kb.shallow, kc.shallow);
    text = object_utf8 (member (codes "certificate") a (member (codes "id") b (member (codes "phases") c no_members))) (refl, ka.text, (refl, kb.text, (refl, kc.text, tt)));
  }

  pub kept_item : (a b c d e : Data) → Kept n a → Kept n b → Kept n c → Kept n d → Kept n e
      → Kept (n + 1) (object (member (codes "md5") a (member (codes "name") b (member (codes "reducer") c (member (codes "root") d (member (codes "size") e no_members))))))
  kept_item a b c d e ka kb kc kd ke = record {
    numbers = (ka.numbers, (kb.numbers, (kc.numbers, (kd.numbers, (ke.numbers, tt)))));
    same = rw (ka.same, kb.same, kc.same, kd.same, ke.same) refl;
    shallow = omega (arith, ka.shallow, kb.shallow, kc.shallow, kd.shallow, ke.shallow);
    text = object_utf8 (member (codes "md5") a (member (codes "name") b (member (codes "reducer") c (member (codes "root") d (member (codes "size") e no_members))))) (refl, ka.text, (refl, kb.text, (refl, kc.text, (refl, kd.text, (refl, ke.text, tt)))));
  }

  pub kept_task : (a b c d e f : Data) → Kept n a → Kept n b → Kept n c → Kept n d → Kept n e → Kept n f
      → Kept (n + 1) (object (member (codes "items") a (member (codes "phase") b (member (codes "place") c (member (codes "position") d (member (codes "reads") e (member (codes "state") f no_members)))))))
  kept_task a b c d e f ka kb kc kd ke kf = record {
    numbers = (ka.numbers, (kb.numbers, (kc.numbers, (kd.numbers, (ke.numbers, (kf.numbers, tt))))));
    same = rw (ka.same, kb.same, kc.same, kd.same, ke.same, kf.same) refl;
    shallow = omega (arith, ka.shallow, kb.shallow, kc.shallow, kd.shallow, ke.shallow, kf.shallow);
    text = object_utf8 (member (codes "items") a (member (codes "phase") b (member (codes "place") c (member (codes "position") d (member (codes "reads") e (member (codes "state") f no_members)))))) (refl, ka.text, (refl, kb.text, (refl, kc.text, (refl, kd.text, (refl, ke.text, (refl, kf.text, tt))))));
  }

  -- a phase in its four forms
  pub kept_map : (a b c : Data) → Kept n a → Kept n b → Kept n c
      → Kept (n + 1) (object (member (codes "assets") a (member (codes "exec") b (member (codes "type") c no_members))))
  kept_map a b c ka kb kc = record {
    numbers = (ka.numbers, (kb.numbers, (kc.numbers, tt)));
    same = rw (ka.same, kb.same, kc.same) refl;
    shallow = omega (arith, ka.shallow, kb.shallow, kc.shallow);
    text = object_utf8 (member (codes "assets") a (member (codes "exec") b (member (codes "type") c no_members))) (refl, ka.text, (refl, kb.text, (refl, kc.text, tt)));
  }

  pub kept_map_init : (a b c d : Data) → Kept n a → Kept n b → Kept n c → Kept n d
      → Kept (n + 1) (object (member (codes "assets") a (member (codes "exec") b (member (codes "init") c (member (codes "type") d no_members)))))
  kept_map_init a b c d ka kb kc kd = record {
    numbers = (ka.numbers, (kb.numbers, (kc.numbers, (kd.numbers, tt))));
    same = rw (ka.same, kb.same, kc.same, kd.same) refl;
    shallow = omega (arith, ka.shallow, kb.shallow, kc.shallow, kd.shallow);
    text = object_utf8 (member (codes "assets") a (member (codes "exec") b (member (codes "init") c (member (codes "type") d no_members)))) (refl, ka.text, (refl, kb.text, (refl, kc.text, (refl, kd.text, tt))));
  }

  pub kept_reduce : (a b c d : Data) → Kept n a → Kept n b → Kept n c → Kept n d
      → Kept (n + 1) (object (member (codes "assets") a (member (codes "count") b (member (codes "exec") c (member (codes "type") d no_members)))))
  kept_reduce a b c d ka kb kc kd = record {
    numbers = (ka.numbers, (kb.numbers, (kc.numbers, (kd.numbers, tt))));
    same = rw (ka.same, kb.same, kc.same, kd.same) refl;
    shallow = omega (arith, ka.shallow, kb.shallow, kc.shallow, kd.shallow);
    text = object_utf8 (member (codes "assets") a (member (codes "count") b (member (codes "exec") c (member (codes "type") d no_members)))) (refl, ka.text, (refl, kb.text, (refl, kc.text, (refl, kd.text, tt))));
  }

  pub kept_reduce_init : (a b c d e : Data) → Kept n a → Kept n b → Kept n c → Kept n d → Kept n e
      → Kept (n + 1) (object (member (codes "assets") a (member (codes "count") b (member (codes "exec") c (member (codes "init") d (member (codes "type") e no_members))))))
  kept_reduce_init a b c d e ka kb kc kd ke = record {
    numbers = (ka.numbers, (kb.numbers, (kc.numbers, (kd.numbers, (ke.numbers, tt)))));
    same = rw (ka.same, kb.same, kc.same, kd.same, ke.same) refl;
    shallow = omega (arith, ka.shallow, kb.shallow, kc.shallow, kd.shallow, ke.shallow);
    text = object_utf8 (member (codes "assets") a (member (codes "count") b (member (codes "exec") c (member (codes "init") d (member (codes "type") e no_members))))) (refl, ka.text, (refl, kb.text, (refl, kc.text, (refl, kd.text, (refl, ke.text, tt)))));
  }
