-- The digest that a request wants its body to have (RFC 1864), by its text in padded base64.
use Rattle.std.specs.Prelude.{ℕ, Bool, ◌&&◌, ◌==◌, nat_lt, List, length, codes, bytes_eq, Option, Some, None, option_and_then, if◌then◌else◌}
use Rattle.std.specs.List.{list_all}
use Rattle.std.specs.Result.{result_ok}
use Rattle.base64.specs.GeneralPurpose.{decode_of}
use Rattle.base64.specs.Engines.{standard}
use Rattle.mt_error.specs.declared.code.ErrorCode.{ErrorCode}
use Rattle.mt_error.specs.declared.code.ErrorCode.TheVariants as error
use Rattle.mt_ident.specs.Digests.{digest_text}
use Rattle.mt_types.specs.Fields.{first_value}
use Rattle.mt_types.specs.declared.object.Field.{Field}
use Rattle.mt_request.specs.declared.digest.Wish.{Wish}
use Rattle.mt_request.specs.declared.digest.Wish.TheVariants as wish

-- 16 bytes
abbrev pub is_digest : List ℕ → Bool
is_digest d = (length d == 16) && list_all (λ b. nat_lt b 256) d

-- a digest, where the text is its own
abbrev pub digest_if : List ℕ → List ℕ → Option (List ℕ)
digest_if text d = if is_digest d && bytes_eq text (digest_text d) then Some d else None

-- the digest whose text this is: what the text decodes to, where that is a digest which is written so
abbrev pub digest_read : List ℕ → Option (List ℕ)
digest_read text = option_and_then (digest_if text) (result_ok (decode_of standard text))

abbrev pub wish_for : Option (List ℕ) → Wish
wish_for (Some d) = wish.Wants d
wish_for None = wish.Unreadable

abbrev pub wish_by : Option (List ℕ) → Wish
wish_by None = wish.None
wish_by (Some text) = wish_for (digest_read text)

-- the digest that the first Content-MD5 asks for
abbrev pub wish_of : List Field → Wish
wish_of fields = wish_by (first_value (codes "content-md5") fields)

-- the refusal of a body with this digest; where it is not known yet, only a field that can't be read refuses
abbrev pub digest_refusal : Wish → Option (List ℕ) → Option ErrorCode
digest_refusal wish.None digest = None
digest_refusal wish.Unreadable digest = Some error.ContentMD5Mismatch
digest_refusal (wish.Wants wanted) None = None
digest_refusal (wish.Wants wanted) (Some digest) = if bytes_eq digest wanted then None else Some error.ContentMD5Mismatch
