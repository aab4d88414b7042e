-- A digest is read from its text and from no other.
use Rattle.std.proofs.Common.{◌≡◌, ℕ, zero, suc, ◌↔◌, true, List, [], ◌∷◌, length, bytes_eq, Option, Some, None, Result, Ok, Err, inl, inr, refl, sym, ap, ◌∙◌, arith}
use Rattle.std.specs.Prelude.{◌&&◌, ◌==◌, nat_lt, option_and_then}
use Rattle.std.specs.List.{list_all}
use Rattle.std.specs.Result.{result_ok}
use Rattle.std.proofs.lemmas.Bool.{and_parts, and_from, cases_Bool, cond-true, cond-false, eqb-true, ltb-true, lt-ltb}
use Rattle.std.proofs.lemmas.Slice.Eq.{bytes_eq-Decides}
use Rattle.base64.specs.declared.decode.DecodeError.{DecodeError}
use Rattle.base64.specs.Engines.{standard}
use Rattle.base64.specs.GeneralPurpose.{decode_of, IsBytes}
use Rattle.mt_ident.specs.Digests.{IsDigest, digest_text}
use Rattle.mt_ident.proofs.DigestTexts.{decode_of-digest_text}
use Rattle.mt_request.specs.Digest.{digest_if, digest_read, is_digest}

-- two answers that are the same where there is one
pub same_option : {A : Type 0} (r q : Option A) → ((d : A) → (r ≡ Some d) ↔ (q ≡ Some d)) → r ≡ q
same_option None None both = refl
same_option None (Some d) both = (both d).1 refl
same_option (Some d) q both = sym ((both d).0 refl)

all_below : (d : List ℕ) → IsBytes d → list_all (λ b. nat_lt b 256) d ≡ true
all_below [] bytes = refl
all_below (b ∷ d) bytes = and_from (nat_lt b 256) (list_all (λ c. nat_lt c 256) d) (lt-ltb b 256 (bytes 0)) (all_below d (λ i. bytes (suc i)))

below_all : (d : List ℕ) → list_all (λ b. nat_lt b 256) d ≡ true → IsBytes d
below_all [] all i = omega arith
below_all (b ∷ d) all zero = ltb-true b 256 (and_parts (nat_lt b 256) (list_all (λ c. nat_lt c 256) d) all).0
below_all (b ∷ d) all (suc i) = below_all d (and_parts (nat_lt b 256) (list_all (λ c. nat_lt c 256) d) all).1 i

digest_from_test : (d : List ℕ) → is_digest d ≡ true → IsDigest d
digest_from_test d is =
    let parts = and_parts (length d == 16) (list_all (λ b. nat_lt b 256) d) is in
    record { sixteen = eqb-true (length d) 16 parts.0; bytes = below_all d parts.1 }

test_from_digest : (d : List ℕ) → IsDigest d → is_digest d ≡ true
test_from_digest d is = and_from (length d == 16) (list_all (λ b. nat_lt b 256) d) (ap (λ n. n == 16) is.sixteen) (all_below d is.bytes)

digest_if-some : (text e d : List ℕ) → digest_if text e ≡ Some d → IsDigest d × (text ≡ digest_text d)
digest_if-some text e d found = elim (cases_Bool (is_digest e && bytes_eq text (digest_text e))) [
  | inl is ↦
      let parts = and_parts (is_digest e) (bytes_eq text (digest_text e)) is in
      let some : Some e ≡ Some d = sym (cond-true (is_digest e && bytes_eq text (digest_text e)) (Some e) None is) ∙ found in
      let same : e ≡ d = cc in
      rw (← same) (digest_from_test e parts.0, (bytes_eq-Decides text (digest_text e)).0 parts.1)
  | inr not ↦
      let none : None ≡ Some d = sym (cond-false (is_digest e && bytes_eq text (digest_text e)) (Some e) None not) ∙ found in
      cc
]

digest_from : (text d : List ℕ) (r : Result (List ℕ) DecodeError) → option_and_then (digest_if text) (result_ok r) ≡ Some d → IsDigest d × (text ≡ digest_text d)
digest_from text d (Ok e) found = digest_if-some text e d found
digest_from text d (Err e) found = cc

digest_if-own : (text d : List ℕ) → IsDigest d → text ≡ digest_text d → digest_if text d ≡ Some d
digest_if-own text d is written =
    cond-true (is_digest d && bytes_eq text (digest_text d)) (Some d) None
    (and_from (is_digest d) (bytes_eq text (digest_text d)) (test_from_digest d is) ((bytes_eq-Decides text (digest_text d)).1 written))

pub digest_read-exact : (text d : List ℕ) → (digest_read text ≡ Some d) ↔ (IsDigest d × (text ≡ digest_text d))
digest_read-exact text d = (
  λ found. digest_from text d (decode_of standard text) found,
  λ of_d. ap (λ r. option_and_then (digest_if text) (result_ok r)) (decode_of-digest_text d text of_d.0 of_d.1) ∙ digest_if-own text d of_d.0 of_d.1,
)
