-- The order of all refusals; what is asked is within the limits of values.
use Rattle.std.specs.Prelude.{◌≡◌, ◌↔◌, ◌≤◌, ℕ, ⊤, IsTrue, IfSome, List, length, Option, Some}
use Rattle.mt_http.specs.declared.message.Head.{Head}
use Rattle.mt_ident.specs.Digests.{IsDigest, digest_text}
use Rattle.mt_types.specs.Limits.{FitsMetadata, is_content_type, is_durability}
use Rattle.mt_request.specs.Digest.{digest_read}
use Rattle.mt_request.specs.Requests.{asked_of, asked_refusal, refusal_of_head}
use Rattle.mt_request.specs.declared.asked.Asked.{Asked}
use Rattle.mt_request.specs.declared.asked.Asked.TheVariants as asked
use Rattle.mt_request.specs.declared.request.Doing.{Doing}
use Rattle.mt_request.specs.declared.request.Doing.TheVariants as doing

-- the first refusal of what a head asks for is the first of the head
abbrev pub RefusesInOrder : Type 0
RefusesInOrder = (login : List ℕ) (head : Head) (digest : Option (List ℕ)) → asked_refusal (asked_of login head) digest ≡ refusal_of_head login head digest

-- a digest is read from its text and from no other
abbrev pub ReadsDigests : Type 0
ReadsDigests = (text digest : List ℕ) → (digest_read text ≡ Some digest) ↔ (IsDigest digest × (text ≡ digest_text digest))

-- an object's type, level and metadata are within their limits
abbrev pub FitsDoing : Doing → Type 0
FitsDoing doing.Nothing = ⊤
FitsDoing (doing.PutObject path content_type durability metadata) =
    IsTrue (is_content_type content_type) × IfSome durability (λ n. IsTrue (is_durability n)) × FitsMetadata metadata
FitsDoing (doing.PutDirectory path) = ⊤
FitsDoing (doing.PutLink path source) = ⊤
FitsDoing (doing.Remove path) = ⊤
FitsDoing (doing.Look path page range) = ⊤

abbrev pub FitsAsked : Asked → Type 0
FitsAsked (asked.Rows request) = FitsDoing request.doing
FitsAsked (asked.Jobs request) = ⊤

-- what a head with at most 100 fields asks for
abbrev pub AskedWithinLimits : Type 0
AskedWithinLimits = (login : List ℕ) (head : Head) → length head.fields ≤ 100 → FitsAsked (asked_of login head)
