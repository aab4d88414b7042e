-- The messages of a connection, and the interim replies between them.
use Rattle.std.specs.Prelude.{◌≡◌, ℕ, ◌⊎◌, Bool, true, false, List, [], ◌∷◌, Option, Some, None}
use Rattle.mt_http.specs.Framing.{Place, Whole, PlaceAt, RequestAt}
use Rattle.mt_http.specs.Options.{closes, interim}
use Rattle.mt_http.specs.declared.message.Head.{Head}
use Rattle.mt_http.specs.declared.message.Message.{Message}

-- no message stands there
abbrev pub IsNoMessage : Place → Type 0
IsNoMessage (Whole message rest) = ⊥
IsNoMessage place = Unit {0}

-- nothing behind a message that closes; else this
abbrev pub GoesOn : Bool → (messages : List Message) (last : Option Place) → Type 0 → Type 0
GoesOn true messages last more = (messages ≡ []) × (last ≡ None)
GoesOn false messages last more = more

-- The messages that stand one behind another, up to one that closes or to the place where none stands: that place is
-- the last, if there is one.
abbrev pub MessagesAt : List ℕ → List Message → Option Place → Type 0
MessagesAt bytes [] last = (place : Place) × PlaceAt bytes place × IsNoMessage place × (last ≡ Some place)
MessagesAt bytes (message ∷ messages) last = (rest : List ℕ) × PlaceAt bytes (Whole message rest) × GoesOn (closes message.minor message.fields) messages last (MessagesAt rest messages last)

-- no list of bytes has two such lists
abbrev pub MessagesAreOne : Type 0
MessagesAreOne = (bytes : List ℕ) (ms ns : List Message) (p q : Option Place) → MessagesAt bytes ms p → MessagesAt bytes ns q → (ms ≡ ns) × (p ≡ q)

-- no head is read there
abbrev pub HasNoRequest : List ℕ → Type 0
HasNoRequest bytes = (head : Head) (rest : List ℕ) → ¬ (RequestAt bytes head rest)

-- what is written before the body of the message at the front is read: it depends on the head alone
abbrev pub InterimAt : List ℕ → List ℕ → Type 0
InterimAt bytes text = ((head : Head) × (rest : List ℕ) × RequestAt bytes head rest × (text ≡ interim head)) ⊎ (HasNoRequest bytes × (text ≡ []))

-- no list of bytes has two such texts
abbrev pub InterimIsOne : Type 0
InterimIsOne = (bytes text other : List ℕ) → InterimAt bytes text → InterimAt bytes other → text ≡ other
