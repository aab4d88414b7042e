-- What the messages at the front of a list of bytes come to.
use Rattle.std.specs.Prelude.{◌≡◌, ℕ, List, [], ◌∷◌, length, Option, Some}
use Rattle.std.specs.List.{sum_by}
use Rattle.mt_edge.specs.Stream.{LeftAfter}
use Rattle.mt_http.specs.Body.{Told}
use Rattle.mt_http.specs.Framing.{End, Whole, PlaceAt}
use Rattle.mt_http.specs.declared.message.Ending.TheVariants as ending
use Rattle.mt_http.specs.declared.message.Message.{Message}
use Rattle.http_bench.specs.declared.count.Counts.{Counts}

-- these messages stand one behind another, and then comes the rest
abbrev pub AreMessages : (bytes : List ℕ) → List Message → (rest : List ℕ) → Type 0
AreMessages bytes [] rest = bytes ≡ rest
AreMessages bytes (message ∷ messages) rest = (behind : List ℕ) × PlaceAt bytes (Whole message behind) × AreMessages behind messages rest

-- how many messages, fields and bytes of bodies these are
abbrev pub counts_of : List Message → Counts
counts_of messages = record {
  messages = length messages;
  fields = sum_by (λ (m : Message). length m.fields) messages;
  bytes = sum_by (λ (m : Message). length m.body) messages;
}

-- messages up to the end of the bytes, which come to this
pub record ComeTo (bytes : List ℕ) (counts : Counts) : Type 0 where
  pub messages : List Message
  pub rest : List ℕ
  pub stand : AreMessages bytes messages rest
  pub ends : PlaceAt rest End
  pub counted : counts ≡ counts_of messages

-- messages so far, which come to this; the rest is left
pub record SoFar (bytes : List ℕ) (counts : Counts) (left : Option (List ℕ)) : Type 0 where
  pub messages : List Message
  pub rest : List ℕ
  pub stand : AreMessages bytes messages rest
  pub behind : left ≡ Some rest
  pub counted : counts ≡ counts_of messages

-- so many bytes are gone from the front of what was left
pub record Drained (left : Option (List ℕ)) (count : ℕ) (left' : Option (List ℕ)) : Type 0 where
  pub bytes : List ℕ
  pub gone : LeftAfter left bytes left'
  pub size : length bytes ≡ count

-- a whole body of so many bytes, and then this
pub record IsWholeBody (told : Told) (size : ℕ) (left' : Option (List ℕ)) : Type 0 where
  pub whole : told.ending ≡ ending.Whole
  pub counted : length told.body ≡ size
  pub behind : left' ≡ Some told.rest
