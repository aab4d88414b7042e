-- What the bytes of a source alone say of how a connection ends, where nothing fails.
use Rattle.std.specs.Prelude.{◌≡◌, ℕ, zero, suc, List}
use Rattle.std.specs.Bool.{MatchBool}
use Rattle.mt_http.specs.Framing.{Place, PlaceAt}
use Rattle.mt_http.specs.Options.{closes}
use Rattle.mt_connection.specs.declared.end.ConnectionEnd.{ConnectionEnd}
use Rattle.mt_connection.specs.declared.end.ConnectionEnd.TheVariants as ended

-- what stands behind the messages
pub data Outcome : Type 0 where
  -- the end, or a message that closes
  Closed : Outcome
  -- a message that is cut short
  CutShort : Outcome
  -- no message, or one that is too large
  Malformed : Outcome
  -- as many messages as one connection has, and none closes
  TooMany : Outcome

-- what a place leads to, where this follows a message that does not close
abbrev pub LeadsTo : Place → (List ℕ → Outcome → Type 0) → Outcome → Type 0
LeadsTo (Place.Whole m rest) more o = MatchBool (closes m.minor m.fields) (o ≡ Closed) (more rest o)
LeadsTo Place.End more o = o ≡ Closed
LeadsTo Place.Truncated more o = o ≡ CutShort
LeadsTo Place.Bad more o = o ≡ Malformed
LeadsTo Place.TooLarge more o = o ≡ Malformed

-- behind the messages at the front of these bytes, of which there are no more than so many, stands this
abbrev pub OutcomeAt : ℕ → List ℕ → Outcome → Type 0
OutcomeAt zero bytes o = o ≡ TooMany
OutcomeAt (suc most) bytes o = (p : Place) × PlaceAt bytes p × LeadsTo p (OutcomeAt most) o

-- no bytes have two outcomes
abbrev pub OutcomeIsOne : Type 0
OutcomeIsOne = (most : ℕ) (bytes : List ℕ) (o o' : Outcome) → OutcomeAt most bytes o → OutcomeAt most bytes o' → o ≡ o'

-- the end of a connection says what its bytes lead to
abbrev pub ByEnd : ℕ → List ℕ → ConnectionEnd → Type 0
ByEnd most bytes ended.Ended = OutcomeAt most bytes Closed
ByEnd most bytes ended.Truncated = OutcomeAt most bytes CutShort
ByEnd most bytes ended.Refused = OutcomeAt most bytes Malformed
ByEnd most bytes ended.Many = OutcomeAt most bytes TooMany
ByEnd most bytes ended.SourceFault = Unit {0}
ByEnd most bytes ended.SinkFault = Unit {0}
ByEnd most bytes ended.Full = Unit {0}
ByEnd most bytes ended.Disk = Unit {0}
ByEnd most bytes ended.Memory = Unit {0}
