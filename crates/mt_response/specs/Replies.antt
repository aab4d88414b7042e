-- What stands at the front of a list of bytes as a reply: a head, behind interim ones, and the body that it tells of (RFC 9112, sections 4 to 6).
use Rattle.std.specs.Prelude.{◌≡◌, ℕ, ◌≤◌, zero, suc, ◌==◌, ◌⊎◌, nat_le, nat_lt, Bool, true, false, ◌&&◌, ◌||◌, List, [], ◌∷◌, ◌++◌, length, map, codes, Option, Some, None, option_and_then, if◌then◌else◌}
use Rattle.httparse.specs.Grammar.{ReadsResponse, ResponseHead, status_code}
use Rattle.mt_bytes.specs.Decimals.{decimal_number}
use Rattle.mt_http.specs.Framing.{HeadAt, field_limit}
use Rattle.mt_http.specs.Message.{field_of}
use Rattle.mt_types.specs.Fields.{values_of}
use Rattle.mt_response.specs.declared.reply.ReplyHead.{ReplyHead}

-- ---- one head

-- what a head says
abbrev pub head_of : ResponseHead → ReplyHead
head_of h = record { status = status_code h; fields = map field_of h.fields }

-- the bytes are, as a whole, one reply head of the grammar
abbrev pub IsReplyHeadOf : List ℕ → ResponseHead → Type 0
IsReplyHeadOf text h = ReadsResponse text h [] × (length h.fields ≤ field_limit)

-- a head that is read, and then the rest
pub record StandsAt (bytes : List ℕ) (head : ReplyHead) (rest : List ℕ) : Type 0 where
  pub text : List ℕ
  pub h : ResponseHead
  pub stands : HeadAt bytes text rest
  pub reads : IsReplyHeadOf text h
  pub says : head_of h ≡ head

-- no head is read there
abbrev pub HasNone : List ℕ → Type 0
HasNone bytes = (head : ReplyHead) (rest : List ℕ) → ¬ (StandsAt bytes head rest)

-- ---- the head of a reply

-- another reply comes behind one of such a status (RFC 9110, section 15.2)
abbrev pub is_interim : ℕ → Bool
is_interim status = nat_le 100 status && nat_lt status 200

-- so many interim heads may stand before a reply
abbrev pub most_interim : ℕ
most_interim = 100

-- a head that is not interim
abbrev pub IsFinalAt : List ℕ → ReplyHead → List ℕ → Type 0
IsFinalAt bytes head rest = StandsAt bytes head rest × (is_interim head.status ≡ false)

-- an interim head, and then the rest
pub record IsInterimAt (bytes rest : List ℕ) : Type 0 where
  pub head : ReplyHead
  pub stands : StandsAt bytes head rest
  pub interim : is_interim head.status ≡ true

-- a head that is not interim, behind at most so many that are
abbrev pub LeadsTo : ℕ → List ℕ → ReplyHead → List ℕ → Type 0
LeadsTo zero bytes head rest = IsFinalAt bytes head rest
LeadsTo (suc n) bytes head rest = IsFinalAt bytes head rest ⊎ ((more : List ℕ) × IsInterimAt bytes more × LeadsTo n more head rest)

-- no head of a reply is there
abbrev pub HasNoReply : ℕ → List ℕ → Type 0
HasNoReply n bytes = (head : ReplyHead) (rest : List ℕ) → ¬ (LeadsTo n bytes head rest)

-- ---- its body

-- a status whose reply has no body (RFC 9112, section 6.3)
abbrev pub is_bodiless : ℕ → Bool
is_bodiless status = (status == 204) || (status == 304)

-- the one of a list that has no other
abbrev pub only : List (List ℕ) → Option (List ℕ)
only [] = None
only (x ∷ []) = Some x
only (x ∷ y ∷ more) = None

-- a number that is at most this
abbrev pub at_most : ℕ → ℕ → Option ℕ
at_most limit n = if nat_le n limit then Some n else None

-- how many bytes the body of a head has; a bare reply has none
abbrev pub length_in : ℕ → Bool → ReplyHead → Option ℕ
length_in limit bare head =
    if bare || is_bodiless head.status then Some 0
    else option_and_then (at_most limit) (option_and_then decimal_number (only (values_of (codes "content-length") head.fields)))

-- ---- a reply

-- a head and a body
pub record Answered : Type 0 where
  pub head : ReplyHead
  pub body : List ℕ

-- A REPLY, and then the rest
pub record ReplyAt (limit : ℕ) (bare : Bool) (bytes : List ℕ) (reply : Answered) (rest : List ℕ) : Type 0 where
  pub behind : List ℕ
  pub leads : LeadsTo most_interim bytes reply.head behind
  pub told : length_in limit bare reply.head ≡ Some (length reply.body)
  pub split : behind ≡ reply.body ++ rest

-- bytes begin with at most one head of a reply
abbrev pub HeadIsOne : Type 0
HeadIsOne = (n : ℕ) (bytes : List ℕ) (h k : ReplyHead) (r s : List ℕ) → LeadsTo n bytes h r → LeadsTo n bytes k s → (h ≡ k) × (r ≡ s)

-- and with at most one reply
abbrev pub ReplyIsOne : Type 0
ReplyIsOne = (limit : ℕ) (bare : Bool) (bytes : List ℕ) (a b : Answered) (r s : List ℕ) → ReplyAt limit bare bytes a r → ReplyAt limit bare bytes b s → (a ≡ b) × (r ≡ s)
