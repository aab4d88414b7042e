-- What a text is decoded to is the digest whose text it is.
use Rattle.std.proofs.Common.{◌≡◌, ◌↔◌, ℕ, zero, suc, Bool, true, false, cond, nat_lt, List, [], ◌∷◌, length, Option, Some, None, Result, Ok, Err, refl, sym, ap, ◌∙◌, arith}
use Rattle.std.specs.List.{list_all}
use Rattle.std.specs.Result.{result_ok}
use Rattle.std.proofs.lemmas.Bool.{and_from, and_parts, eq-eqb, eqb-true, lt-ltb, ltb-true}
use Rattle.base64.specs.Engines.{standard}
use Rattle.base64.specs.GeneralPurpose.{IsBytes, decode_of}
use Rattle.base64.specs.declared.decode.DecodeError.{DecodeError}
use Rattle.mt_ident.specs.Digests.{IsDigest, digest_text}
use Rattle.mt_ident.proofs.DigestTexts.{decode_of-digest_text, written_from_decoded}
use Rattle.mt_jobdoc.specs.Document.{passing}
use Rattle.mt_certline.specs.Read.{digest_of, is_digest, ◌>>=◌}

bytes_from : (d : List ℕ) → list_all (λ b. nat_lt b 256) d ≡ true → IsBytes d
bytes_from [] all i = omega arith
bytes_from (x ∷ xs) all zero = ltb-true x 256 (and_parts _ _ all).0
bytes_from (x ∷ xs) all (suc i) = bytes_from xs (and_parts _ _ all).1 i

all_bytes : (d : List ℕ) → IsBytes d → list_all (λ b. nat_lt b 256) d ≡ true
all_bytes [] bytes = refl
all_bytes (x ∷ xs) bytes = and_from _ _ (lt-ltb x 256 (bytes 0)) (all_bytes xs (λ i. bytes (suc i)))

pub is_digest-from : (d : List ℕ) → IsDigest d → is_digest d ≡ true
is_digest-from d is = and_from _ _ (eq-eqb (length d) 16 is.sixteen) (all_bytes d is.bytes)

digest-is : (d : List ℕ) → is_digest d ≡ true → IsDigest d
digest-is d is = let parts = and_parts _ _ is in record { sixteen = eqb-true (length d) 16 parts.0; bytes = bytes_from d parts.1 }

-- the digest that is read, if there is one, is the one whose text this is
pub digest_exact : (text : List ℕ) (r : Option (List ℕ)) → ((d : List ℕ) → (r ≡ Some d) ↔ (IsDigest d × (text ≡ digest_text d))) → IsBytes text → r ≡ digest_of text
unfolding digest_of
digest_exact text (Some d) exact bytes =
    let is = (exact d).0 refl in
    sym (ap (λ (o : Result (List ℕ) DecodeError). result_ok o >>= passing is_digest) (decode_of-digest_text d text is.0 is.1) ∙ ap (λ b. cond b (Some d) None) (is_digest-from d is.0))
digest_exact text None exact bytes = by (decode_of standard text) refl
  where
    whole : (d : List ℕ) (b : Bool) → decode_of standard text ≡ Ok d → is_digest d ≡ b → None ≡ cond b (Some d) None
    whole d true decoded is = let written : IsDigest d × (text ≡ digest_text d) = (digest-is d is, written_from_decoded d text bytes decoded) in let never : None ≡ Some d = (exact d).1 written in cc
    whole d false decoded is = refl

    by : (o : Result (List ℕ) DecodeError) → decode_of standard text ≡ o → None ≡ (result_ok o >>= passing is_digest)
    by (Err e) decoded = refl
    by (Ok d) decoded = whole d (is_digest d) decoded refl
