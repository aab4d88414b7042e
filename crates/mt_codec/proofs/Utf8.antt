-- Texts of ASCII are UTF-8.
use Rattle.std.proofs.Common.{◌≡◌, ℕ, zero, suc, ◌<◌, List, [], ◌∷◌, Bool, true, false, cond, Some, None, length, get_or, refl, ap, arith}
use Rattle.std.specs.Prelude.{IsUtf8, ◌&&◌, ◌||◌, nat_le, ◌==◌, if◌then◌else◌}
use Rattle.std.specs.Str.{is_utf8}
use Rattle.std.specs.List.{list_all, list_any}
use Rattle.std.proofs.lemmas.Bool.{and_parts, false_from_ne_true, leb-true, eqb-true}
use Rattle.std.proofs.lemmas.Str.{IsUtf8-from_ascii, IsUtf8-from_is_utf8, is_utf8-from_IsUtf8}
use Rattle.mt_types.specs.Limits.{is_visible, is_plain_text, is_content_type, is_token_byte, is_metadata_name}
use Rattle.mt_types.specs.declared.limits.TheConstants.{LONGEST_CONTENT_TYPE, TOKEN_MARKS}

-- text that passes a test of each byte that ASCII alone passes
ascii : (p : ℕ → Bool) → ((b : ℕ) → p b ≡ true → b < 128) → (t : List ℕ) → list_all p t ≡ true → (i : ℕ) → get_or t i 0 < 128
ascii p below [] all i = omega arith
ascii p below (b ∷ t) all zero = below b (and_parts (p b) (list_all p t) all).0
ascii p below (b ∷ t) all (suc i) = ascii p below t (and_parts (p b) (list_all p t) all).1 i

visible_below : (b : ℕ) → is_visible b ≡ true → b < 128
visible_below b is = omega (arith, leb-true b 126 (and_parts (nat_le 32 b) (nat_le b 126) is).1)

pub utf8-plain_text : (t : List ℕ) → is_plain_text t ≡ true → IsUtf8 t
unfolding is_plain_text
utf8-plain_text t is = IsUtf8-from_ascii t (ascii is_visible visible_below t (and_parts (list_all is_visible t) _ is).0)

pub utf8-content_type : (t : List ℕ) → is_content_type t ≡ true → IsUtf8 t
utf8-content_type t is = utf8-plain_text t (and_parts (nat_le (length t) LONGEST_CONTENT_TYPE) (is_plain_text t) is).1

or_cases : (a b : Bool) (P : Type 0) → (a ≡ true → P) → (b ≡ true → P) → (a || b) ≡ true → P
or_cases true b P f g is = f refl
or_cases false b P f g is = g is

any_mark : (marks : List ℕ) (b : ℕ) → list_all (λ c. nat_le c 127) marks ≡ true → list_any (λ c. c == b) marks ≡ true → b < 128
any_mark [] b all is = cc
any_mark (c ∷ marks) b all is =
    let parts = and_parts (nat_le c 127) (list_all (λ c. nat_le c 127) marks) all in
    or_cases (c == b) (list_any (λ c. c == b) marks) (b < 128) (λ e. omega (arith, leb-true c 127 parts.0, eqb-true c b e)) (any_mark marks b parts.1) is

token_below : (b : ℕ) → is_token_byte b ≡ true → b < 128
token_below b is =
    or_cases (nat_le 97 b && nat_le b 122) _ (b < 128) (λ e. omega (arith, leb-true b 122 (and_parts (nat_le 97 b) (nat_le b 122) e).1))
    (or_cases (nat_le 48 b && nat_le b 57) _ (b < 128) (λ e. omega (arith, leb-true b 57 (and_parts (nat_le 48 b) (nat_le b 57) e).1)) (any_mark TOKEN_MARKS b refl)) is

pub utf8-metadata_name : (t : List ℕ) → is_metadata_name t ≡ true → IsUtf8 t
utf8-metadata_name t is = IsUtf8-from_ascii t (ascii is_token_byte token_below t (and_parts _ (list_all is_token_byte t) is).1)

-- the text of a piece that is UTF-8
pub chosen_text : (t : List ℕ) → IsUtf8 t → (if is_utf8 t then Some t else None) ≡ Some t
chosen_text t is = ap (λ b. cond b (Some t) None) (is_utf8-from_IsUtf8 t is)

-- none of a piece that is not
pub no_text : (t : List ℕ) → (IsUtf8 t → ⊥) → (if is_utf8 t then Some t else None) ≡ None
no_text t never = ap (λ b. cond b (Some t) None) (false_from_ne_true (is_utf8 t) (λ e. never (IsUtf8-from_is_utf8 t e)))
