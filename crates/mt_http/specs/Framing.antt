-- What stands at the front of a list of bytes, however they come: the end, a whole message, or a fault.
use Rattle.std.specs.Prelude.{◌≡◌, ℕ, ◌<◌, ◌≤◌, ◌⊎◌, bytes_eq, codes, if◌then◌else◌, List, [], ◌∷◌, ◌++◌, length, All, Option, Some, None, Result, Ok, Err, IfSome}
use Rattle.httparse.specs.Ascii.{line_feed, carriage_return}
use Rattle.httparse.specs.Grammar.{LineEnd, print_end, print_blank, RequestHead, ReadsRequest}
use Rattle.mt_types.specs.declared.limits.TheConstants.{LARGEST_BODY}
use Rattle.mt_base.specs.Counts.{Rose, NeverFell}
use Rattle.mt_edge.specs.Stream.{LeftAfter}
use Rattle.mt_http.specs.Body.{Told, body_at}
use Rattle.mt_http.specs.Message.{IsClean, head_of, message_of}
use Rattle.mt_http.specs.declared.message.Ending.{Ending}
use Rattle.mt_http.specs.declared.message.Ending.TheVariants as ending
use Rattle.mt_http.specs.declared.message.Head.{Head}
use Rattle.mt_http.specs.declared.message.Message.{Message}
use Rattle.mt_http.specs.declared.message.MessageEnd.{MessageEnd}
use Rattle.mt_http.specs.declared.message.MessageEnd.TheVariants as message_end

-- the empty lines before a head and the head have no more bytes than this together
abbrev pub head_limit : ℕ
head_limit = 65536

-- a head has no more fields than this
abbrev pub field_limit : ℕ
field_limit = 100

-- a body has no more bytes than this, by the request's method
abbrev pub body_limit : List ℕ → ℕ
body_limit method = if bytes_eq method (codes "PUT") then LARGEST_BODY else 16777216

-- how many bytes the body of a head may have
abbrev pub limit_of : Head → ℕ
limit_of head = body_limit head.method

-- the first line is empty
abbrev pub BeginsWithEmptyLine : List ℕ → Type 0
BeginsWithEmptyLine bytes = (line : LineEnd) × (more : List ℕ) × (bytes ≡ print_end line ++ more)

-- the last bytes are an LF and an empty line
abbrev pub EndsWithEmptyLine : List ℕ → Type 0
EndsWithEmptyLine bytes = (front : List ℕ) × (line : LineEnd) × (bytes ≡ front ++ line_feed ∷ print_end line)

-- up to and with the first LF that an empty line follows, and that line; the first line is not empty
pub record IsHead (head : List ℕ) : Type 0 where
  pub begins : ¬ (BeginsWithEmptyLine head)
  pub ends : EndsWithEmptyLine head
  pub first : (front more : List ℕ) → head ≡ front ++ more → EndsWithEmptyLine front → more ≡ []

-- empty lines, a head and the rest; lines and head are within the limit
pub record HeadAt (bytes head rest : List ℕ) : Type 0 where
  pub lines : List LineEnd
  pub split : bytes ≡ (print_blank lines ++ head) ++ rest
  pub whole : IsHead head
  pub small : length (print_blank lines ++ head) ≤ head_limit

-- no head ends within the limit
abbrev pub HasNoHead : List ℕ → Type 0
HasNoHead bytes = (head rest : List ℕ) → ¬ (HeadAt bytes head rest)

-- empty lines, then at most one CR
abbrev pub IsEmptyLines : List ℕ → Type 0
IsEmptyLines bytes = (lines : List LineEnd) × ((bytes ≡ print_blank lines) ⊎ (bytes ≡ print_blank lines ++ carriage_return ∷ []))

-- the bytes are, as a whole, one request head of the grammar
abbrev pub IsRequestHeadOf : List ℕ → RequestHead → Type 0
IsRequestHeadOf head h = ReadsRequest head h [] × (length h.fields ≤ field_limit)

-- a head that is read, and then the rest
pub record RequestAt (bytes : List ℕ) (head : Head) (rest : List ℕ) : Type 0 where
  pub text : List ℕ
  pub h : RequestHead
  pub stands : HeadAt bytes text rest
  pub reads : IsRequestHeadOf text h
  pub says : head_of h ≡ Some head

-- a head that is read has few fields, and each is clean
abbrev pub HeadsAreClean : Type 0
HeadsAreClean = (bytes : List ℕ) (head : Head) (rest : List ℕ) → RequestAt bytes head rest → (length head.fields ≤ field_limit) × All IsClean head.fields

-- what these bytes are as the body of a head
abbrev pub body_of : Head → List ℕ → Told
body_of head bytes = body_at head.framing (limit_of head) bytes

-- what stands at the front
pub data Place : Type 0 where
  End Truncated Bad TooLarge : Place
  Whole : (message : Message) (rest : List ℕ) → Place

-- the bytes end within a head
pub record EndsInHead (bytes : List ℕ) : Type 0 where
  pub no_head : HasNoHead bytes
  pub few : length bytes ≤ head_limit
  pub begun : ¬ (IsEmptyLines bytes)

-- the head is longer than any that is read
pub record HasLongHead (bytes : List ℕ) : Type 0 where
  pub no_head : HasNoHead bytes
  pub many : head_limit < length bytes

-- the head is no request head, or its framing is refused
pub record HasBadHead (bytes : List ℕ) : Type 0 where
  pub text : List ℕ
  pub rest : List ℕ
  pub stands : HeadAt bytes text rest
  pub refused : (h : RequestHead) → IsRequestHeadOf text h → head_of h ≡ None

-- the head is read, and its body ends so
pub record HasBody (bytes : List ℕ) (ending : Ending) : Type 0 where
  pub head : Head
  pub rest : List ℕ
  pub request : RequestAt bytes head rest
  pub ends : (body_of head rest).ending ≡ ending

-- a head and the whole body that it tells of
pub record HasMessage (bytes : List ℕ) (message : Message) (rest : List ℕ) : Type 0 where
  pub head : Head
  pub behind : List ℕ
  pub request : RequestAt bytes head behind
  pub whole : body_of head behind ≡ record { body = message.body; ending = ending.Whole; rest = rest }
  pub is : message ≡ message_of head message.body

-- what stands at the front of these bytes
unfoldable pub PlaceAt : List ℕ → Place → Type 0
PlaceAt bytes End = (length bytes ≤ head_limit) × IsEmptyLines bytes
PlaceAt bytes Truncated = EndsInHead bytes ⊎ HasBody bytes ending.Truncated
PlaceAt bytes Bad = (HasLongHead bytes ⊎ HasBadHead bytes) ⊎ HasBody bytes ending.Bad
PlaceAt bytes TooLarge = HasBody bytes ending.TooLarge
PlaceAt bytes (Whole message rest) = HasMessage bytes message rest

-- no list of bytes has two places
abbrev pub PlaceIsOne : Type 0
PlaceIsOne = (bytes : List ℕ) (p q : Place) → PlaceAt bytes p → PlaceAt bytes q → p ≡ q

-- these bytes are this message, whatever follows them
abbrev pub Spells : List ℕ → Message → Type 0
Spells used message = (rest : List ℕ) → PlaceAt (used ++ rest) (Whole message rest)

-- these bytes are this head, whatever follows them
abbrev pub SpellsHead : List ℕ → Head → Type 0
SpellsHead used head = (rest : List ℕ) → RequestAt (used ++ rest) head rest

-- what was read of a source: what was left and is left, and its count of faults before and after
abbrev pub Receives : Option (List ℕ) → ℕ → Result Message MessageEnd → Option (List ℕ) → ℕ → Type 0
Receives left faults (Ok message) left' faults' = ((used : List ℕ) × LeftAfter left used left' × Spells used message) × NeverFell faults faults'
Receives left faults (Err message_end.End) left' faults' = IfSome left (λ bytes. PlaceAt bytes End) × NeverFell faults faults'
Receives left faults (Err message_end.Truncated) left' faults' = IfSome left (λ bytes. PlaceAt bytes Truncated) × NeverFell faults faults'
Receives left faults (Err message_end.Bad) left' faults' = IfSome left (λ bytes. PlaceAt bytes Bad) × NeverFell faults faults'
Receives left faults (Err message_end.TooLarge) left' faults' = IfSome left (λ bytes. PlaceAt bytes TooLarge) × NeverFell faults faults'
Receives left faults (Err message_end.SourceFault) left' faults' = Rose faults faults'
Receives left faults (Err message_end.Memory) left' faults' = NeverFell faults faults'

-- what was read of a head
abbrev pub ReceivesHead : Option (List ℕ) → ℕ → Result Head MessageEnd → Option (List ℕ) → ℕ → Type 0
ReceivesHead left faults (Ok head) left' faults' = ((used : List ℕ) × LeftAfter left used left' × SpellsHead used head) × NeverFell faults faults'
ReceivesHead left faults (Err message_end.End) left' faults' = IfSome left (λ bytes. PlaceAt bytes End) × NeverFell faults faults'
ReceivesHead left faults (Err message_end.Truncated) left' faults' = IfSome left EndsInHead × NeverFell faults faults'
ReceivesHead left faults (Err message_end.Bad) left' faults' = IfSome left (λ bytes. HasLongHead bytes ⊎ HasBadHead bytes) × NeverFell faults faults'
ReceivesHead left faults (Err message_end.TooLarge) left' faults' = ⊥
ReceivesHead left faults (Err message_end.SourceFault) left' faults' = Rose faults faults'
ReceivesHead left faults (Err message_end.Memory) left' faults' = NeverFell faults faults'

-- what was read of a body: what each list of bytes is as one
abbrev pub ReceivesBody : (List ℕ → Told) → Option (List ℕ) → ℕ → Result (List ℕ) MessageEnd → Option (List ℕ) → ℕ → Type 0
ReceivesBody told left faults (Ok body) left' faults' = ((used : List ℕ) × LeftAfter left used left' × ((rest : List ℕ) → told (used ++ rest) ≡ record { body = body; ending = ending.Whole; rest = rest })) × NeverFell faults faults'
ReceivesBody told left faults (Err message_end.End) left' faults' = ⊥
ReceivesBody told left faults (Err message_end.Truncated) left' faults' = IfSome left (λ bytes. (told bytes).ending ≡ ending.Truncated) × NeverFell faults faults'
ReceivesBody told left faults (Err message_end.Bad) left' faults' = IfSome left (λ bytes. (told bytes).ending ≡ ending.Bad) × NeverFell faults faults'
ReceivesBody told left faults (Err message_end.TooLarge) left' faults' = IfSome left (λ bytes. (told bytes).ending ≡ ending.TooLarge) × NeverFell faults faults'
ReceivesBody told left faults (Err message_end.SourceFault) left' faults' = Rose faults faults'
ReceivesBody told left faults (Err message_end.Memory) left' faults' = NeverFell faults faults'
