-- The text of a digest has 24 characters, and the decoder reads the digest and nothing else from it.
use Rattle.std.proofs.Common.{Ok, Some, None, ◌↔◌, ◌≡◌, ℕ, List, length, IsAscii, replicate, refl, arith}
use Rattle.std.proofs.lemmas.List.{length-append, length-replicate}
use Rattle.base64.specs.Engines.{standard}
use Rattle.base64.specs.GeneralPurpose.{decode_of, IsBytes}
use Rattle.base64.specs.Rfc4648.{encode_symbols, padding_len}
use Rattle.base64.proofs.EngineFacts.{IsAscii-encode_of, decode_of_strict, decode_of-encode_of}
use Rattle.base64.proofs.RoundTrip.{length-encode_symbols}
use Rattle.mt_ident.specs.Digests.{IsDigest, digest_text}

pub length-digest_text : (digest : List ℕ) → length digest ≡ 16 → length (digest_text digest) ≡ 24
unfolding digest_text
length-digest_text digest sixteen =
    let sign : ℕ = 61 in
    let tail = replicate (padding_len (length digest)) sign in
    omega (arith, length-append (encode_symbols standard.encode_table digest) tail, length-encode_symbols standard.encode_table digest, length-replicate (padding_len (length digest)) sign, sixteen)

pub IsAscii-digest_text : (digest : List ℕ) → IsAscii (digest_text digest)
unfolding digest_text
IsAscii-digest_text digest = IsAscii-encode_of standard digest

pub decode_of-digest_text : (digest text : List ℕ) → IsDigest digest → text ≡ digest_text digest → decode_of standard text ≡ Ok digest
unfolding digest_text
decode_of-digest_text digest text is written = rw written (decode_of-encode_of standard digest refl is.bytes)

pub written_from_decoded : (digest text : List ℕ) → IsBytes text → decode_of standard text ≡ Ok digest → text ≡ digest_text digest
unfolding digest_text
written_from_decoded digest text bytes decoded = decode_of_strict standard text digest (refl, refl) bytes decoded

-- none is the exact answer for a text of no digest
pub none_exact : (text : List ℕ) → ((d : List ℕ) → IsDigest d → text ≡ digest_text d → ⊥) → (d : List ℕ) → (None ≡ Some d) ↔ (IsDigest d × (text ≡ digest_text d))
none_exact text never d = (λ same. cc, λ is. absurd (never d is.0 is.1))

-- and what the text decodes to is the exact answer for the text of a digest
pub some_exact : (text found : List ℕ) → IsBytes text → IsDigest found → decode_of standard text ≡ Ok found → (d : List ℕ) → (Some found ≡ Some d) ↔ (IsDigest d × (text ≡ digest_text d))
some_exact text found bytes is decoded d = (
  λ same.
      let found_is : found ≡ d = cc in
      rw (← found_is) (is, written_from_decoded found text bytes decoded),
  λ of_d.
      let reads = decode_of-digest_text d text of_d.0 of_d.1 in
      cc,
)
