-- Content types are ASCII, and so UTF-8.
use Rattle.std.proofs.Common.{◌≡◌, ℕ, zero, suc, ◌<◌, true, List, [], ◌∷◌, length, get_or, arith}
use Rattle.std.specs.Prelude.{IsUtf8, nat_le}
use Rattle.std.specs.List.{list_all}
use Rattle.std.proofs.lemmas.Bool.{and_parts, leb-true}
use Rattle.std.proofs.lemmas.Str.{IsUtf8-from_ascii}
use Rattle.mt_types.specs.Limits.{is_content_type, is_plain_text, is_visible}
use Rattle.mt_types.specs.declared.limits.TheConstants.{LONGEST_CONTENT_TYPE}

visible_below : (b : ℕ) → is_visible b ≡ true → b < 128
visible_below b is = omega (arith, leb-true b 126 (and_parts (nat_le 32 b) (nat_le b 126) is).1)

ascii : (t : List ℕ) → list_all is_visible t ≡ true → (i : ℕ) → get_or t i 0 < 128
ascii [] all i = omega arith
ascii (b ∷ t) all zero = visible_below b (and_parts (is_visible b) (list_all is_visible t) all).0
ascii (b ∷ t) all (suc i) = ascii t (and_parts (is_visible b) (list_all is_visible t) all).1 i

utf8_from_plain : (t : List ℕ) → is_plain_text t ≡ true → IsUtf8 t
unfolding is_plain_text
utf8_from_plain t is = IsUtf8-from_ascii t (ascii t (and_parts (list_all is_visible t) _ is).0)

pub utf8_from_type : (t : List ℕ) → is_content_type t ≡ true → IsUtf8 t
utf8_from_type t is = utf8_from_plain t (and_parts (nat_le (length t) LONGEST_CONTENT_TYPE) (is_plain_text t) is).1
