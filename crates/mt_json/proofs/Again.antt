-- What is written of a value without floats is read as that value.
use Rattle.std.proofs.Common.{◌≡◌, ℕ, ◌≤◌, pos, negsuc, true, List, [], ◌∷◌, Option, Some, option_map, option_and_then, Ordering, Less, Equal, Greater, nat_cmp, refl, sym, ap, ◌∙◌, arith, append-nil}
use Rattle.std.specs.Cmp.Lexicographic.{slice_cmp}
use Rattle.std.specs.List.{AllByRecursion, list_all}
use Rattle.std.specs.Ordering.{is_lt, ordering_reverse}
use Rattle.std.specs.Prelude.{⊤}
use Rattle.std.proofs.lemmas.Bool.{and_parts}
use Rattle.std.proofs.lemmas.Cmp.{nat_list_cmp_total}
use Rattle.json.specs.Json as json
use Rattle.json.specs.Print.{IsNumber}
use Rattle.json.specs.Token.{Token}
use Rattle.json.specs.Tree as tree
use Rattle.json.specs.Tree.{HasNumbers, ItemsHaveNumbers, MembersHaveNumbers, json_tokens}
use Rattle.json.proofs.Printed.Decimals.{IsNumber-decimal, IsNumber-signed_decimal}
use Rattle.json.proofs.Printed.Tokens.{tokens-print}
use Rattle.json.proofs.Printed.Trees.{ArePrintable-json_tokens, value-json_tokens}
use Rattle.serde_json.specs.Data.{Num, unsigned, negative, float, Data, null, boolean, number, string, array, object, Items, no_items, item, Members, no_members, member, put, depth, items_depth, members_depth}
use Rattle.serde_json.specs.Read.{number_of, max_depth, of_items, of_json, of_members, read}
use Rattle.serde_json.specs.Written.{compact_text, number_text, outline, items_outline, members_outline}
use Rattle.serde_json.proofs.Numbers.{number_of-decimal, number_of-negative}
use Rattle.serde_json.proofs.Texts.{print-outline}
use Rattle.mt_json.specs.Plain.{AreItemsPlain, AreMembersPlain, IsPlain, IsWhole, keys_of, keys_rise}

-- ---- numbers

whole_again : (n : Num) → IsWhole n → number_of (number_text n) ≡ Some n
whole_again (unsigned n) small = number_of-decimal n small
whole_again (negative (pos n)) small = absurd small
whole_again (negative (negsuc n)) small = number_of-negative n (omega (arith, small))
whole_again (float x) small = absurd small

whole_number : (n : Num) → IsWhole n → IsNumber (number_text n)
whole_number (unsigned n) small = IsNumber-decimal n small
whole_number (negative (pos n)) small = absurd small
whole_number (negative (negsuc n)) small = IsNumber-signed_decimal (negsuc n) (omega (arith, small))
whole_number (float x) small = absurd small

-- ---- members whose keys rise

-- each key of members is below this one
abbrev AreBelow : List ℕ → Members → Type 0
AreBelow k no_members = ⊤
AreBelow k (member l d ms) = (slice_cmp nat_cmp l k ≡ Less) × AreBelow k ms

abbrev behind : Members → Members → Members
behind no_members ms = ms
behind (member k d found) ms = member k d (behind found ms)

behind_nothing : (found : Members) → behind found no_members ≡ found
behind_nothing no_members = refl
behind_nothing (member k d found) = ap (member k d) (behind_nothing found)

behind_one : (found : Members) (k : List ℕ) (d : Data) (ms : Members) → behind (behind found (member k d no_members)) ms ≡ behind found (member k d ms)
behind_one no_members k d ms = refl
behind_one (member l e found) k d ms = ap (member l e) (behind_one found k d ms)

put_last : (k : List ℕ) (d : Data) (found : Members) → AreBelow k found → put k d found ≡ behind found (member k d no_members)
put_last k d no_members below = refl
put_last k d (member l e found) below =
    let above : slice_cmp nat_cmp k l ≡ Greater = nat_list_cmp_total.antisymm k l ∙ ap ordering_reverse below.0 in
    rw above (ap (member l e) (put_last k d found below.1))

from_lt : (o : Ordering) → is_lt o ≡ true → o ≡ Less
from_lt Less e = refl
from_lt Equal e = cc
from_lt Greater e = cc

below_push : (l : List ℕ) (found : Members) (k : List ℕ) (d : Data) → AreBelow l found → slice_cmp nat_cmp k l ≡ Less → AreBelow l (behind found (member k d no_members))
below_push l no_members k d below less = (less, tt)
below_push l (member m e found) k d below less = (below.0, below_push l found k d below.1 less)

-- the keys of what was found are below each of these
abbrev AreAllBelow : Members → List (List ℕ) → Type 0
AreAllBelow found ks = AllByRecursion (λ k. AreBelow k found) ks

all_below_push : (ls : List (List ℕ)) (found : Members) (k : List ℕ) (d : Data) → AreAllBelow found ls → list_all (λ l. is_lt (slice_cmp nat_cmp k l)) ls ≡ true → AreAllBelow (behind found (member k d no_members)) ls
all_below_push [] found k d below less = tt
all_below_push (l ∷ ls) found k d below less =
    let parts = and_parts _ _ less in
    (below_push l found k d below.0 (from_lt _ parts.0), all_below_push ls found k d below.1 parts.1)

none_below : (ks : List (List ℕ)) → AreAllBelow no_members ks
none_below [] = tt
none_below (k ∷ ks) = (tt, none_below ks)

-- ---- values

mutual
  of_json-again : (d : Data) → IsPlain d → of_json (outline d) ≡ Some d
  of_json-again null plain = refl
  of_json-again (boolean b) plain = refl
  of_json-again (number n) plain = ap (option_map number) (whole_again n plain)
  of_json-again (string s) plain = refl
  of_json-again (array ds) plain = ap (option_map array) (of_items-again ds plain)
  of_json-again (object ms) plain = ap (option_map object) (of_members-again ms no_members plain.0 plain.1 (none_below (keys_of ms)))

  of_items-again : (ds : Items) → AreItemsPlain ds → of_items (items_outline ds) ≡ Some ds
  of_items-again no_items plain = refl
  of_items-again (item d ds) plain =
      ap (option_and_then (λ x. option_map (item x) (of_items (items_outline ds)))) (of_json-again d plain.0)
      ∙ ap (option_map (item d)) (of_items-again ds plain.1)

  of_members-again : (ms found : Members) → keys_rise (keys_of ms) ≡ true → AreMembersPlain ms → AreAllBelow found (keys_of ms) → of_members (members_outline ms) found ≡ Some (behind found ms)
  of_members-again no_members found rise plain below = ap (λ ms. Some ms) (sym (behind_nothing found))
  of_members-again (member k d ms) found rise plain below =
      let parts = and_parts _ _ rise in
      ap (option_and_then (λ x. of_members (members_outline ms) (put k x found))) (of_json-again d plain.1)
      ∙ ap (of_members (members_outline ms)) (put_last k d found below.0)
      ∙ of_members-again ms (behind found (member k d no_members)) parts.1 plain.2 (all_below_push (keys_of ms) found k d below.1 parts.0)
      ∙ ap (λ ms. Some ms) (behind_one found k d ms)

mutual
  numbers-outline : (d : Data) → IsPlain d → HasNumbers (outline d)
  numbers-outline null plain = tt
  numbers-outline (boolean b) plain = tt
  numbers-outline (number n) plain = whole_number n plain
  numbers-outline (string s) plain = tt
  numbers-outline (array ds) plain = numbers-items ds plain
  numbers-outline (object ms) plain = numbers-members ms plain.1

  numbers-items : (ds : Items) → AreItemsPlain ds → ItemsHaveNumbers (items_outline ds)
  numbers-items no_items plain = tt
  numbers-items (item d ds) plain = (numbers-outline d plain.0, numbers-items ds plain.1)

  numbers-members : (ms : Members) → AreMembersPlain ms → MembersHaveNumbers (members_outline ms)
  numbers-members no_members plain = tt
  numbers-members (member k d ms) plain = (numbers-outline d plain.1, numbers-members ms plain.2)

mutual
  depth-outline : (d : Data) → tree.depth (outline d) ≤ depth d
  depth-outline null = omega arith
  depth-outline (boolean b) = omega arith
  depth-outline (number n) = omega arith
  depth-outline (string s) = omega arith
  depth-outline (array ds) = omega (arith, depth-items ds)
  depth-outline (object ms) = omega (arith, depth-members ms)

  depth-items : (ds : Items) → tree.items_depth (items_outline ds) ≤ items_depth ds
  depth-items no_items = omega arith
  depth-items (item d ds) = omega (arith, depth-outline d, depth-items ds)

  depth-members : (ms : Members) → tree.members_depth (members_outline ms) ≤ members_depth ms
  depth-members no_members = omega arith
  depth-members (member k d ms) = omega (arith, depth-outline d, depth-members ms)

abbrev whole_value : Option (json.Json × List Token) → Option Data
whole_value found = option_and_then of_json (option_and_then (λ p. json.if_last p.0 p.1) found)

pub read-compact_text : (d : Data) → IsPlain d → depth d ≤ max_depth → read (compact_text d) ≡ Some d
read-compact_text d plain shallow =
    let tokens_are = tokens-print (json_tokens (outline d)) (ArePrintable-json_tokens (outline d) (numbers-outline d plain)) in
    ap read (sym (print-outline d))
    ∙ (ap whole_value (ap (json.value max_depth) (tokens_are ∙ sym (append-nil _)) ∙ value-json_tokens (outline d) max_depth [] (omega (arith, shallow, depth-outline d))) ∙ of_json-again d plain)
