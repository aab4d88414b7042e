-- Messages one behind another, and one more behind them.
use Rattle.std.proofs.Common.{◌≡◌, ℕ, ◌+◌, List, [], ◌∷◌, ◌++◌, length, Option, Some, None, refl, ap, sym, subst, ◌∙◌, arith, length-append}
use Rattle.std.specs.Prelude.{IfSome}
use Rattle.std.proofs.lemmas.List.Sums.{sum_by-append}
use Rattle.mt_edge.specs.Stream.{LeftAfter}
use Rattle.mt_http.specs.Body.{Told}
use Rattle.mt_http.specs.Framing.{Whole, PlaceAt, SpellsHead, body_of}
use Rattle.mt_http.specs.Message.{message_of}
use Rattle.mt_http.specs.declared.message.Ending.TheVariants as ending
use Rattle.mt_http.specs.declared.message.Head.{Head}
use Rattle.mt_http.specs.declared.message.Message.{Message}
use Rattle.http_bench.specs.Counting.{AreMessages, SoFar, IsWholeBody, counts_of}
use Rattle.http_bench.specs.declared.count.Counts.{Counts}

-- one more message behind those that stand
pub one_more : (bytes : List ℕ) (messages : List Message) (rest : List ℕ) (message : Message) (rest' : List ℕ)
    → AreMessages bytes messages rest → PlaceAt rest (Whole message rest') → AreMessages bytes (messages ++ message ∷ []) rest'
one_more bytes [] rest message rest' stand place = (rest', subst (λ r. PlaceAt r (Whole message rest')) (sym stand) place, refl)
one_more bytes (m ∷ messages) rest message rest' stand place = (stand.0, stand.1, one_more stand.0 messages rest message rest' stand.2 place)

-- what one more message comes to
pub counts_more : (messages : List Message) (message : Message) (c : Counts) → c ≡ counts_of messages
    → record { messages = c.messages + 1; fields = c.fields + length message.fields; bytes = c.bytes + length message.body } ≡ counts_of (messages ++ message ∷ [])
counts_more messages message c is =
    let fields = sum_by-append (λ (m : Message). length m.fields) messages (message ∷ []) in
    let bytes = sum_by-append (λ (m : Message). length m.body) messages (message ∷ []) in
    grind (arith, is, fields, bytes, length-append)

-- ---- by what is left of a source

abbrev bytes_of : Option (List ℕ) → List ℕ
bytes_of None = []
bytes_of (Some bytes) = bytes

-- a head and a whole body at the front are a message
place_of : (used behind : List ℕ) (head : Head) (told : Told) → SpellsHead used head → body_of head behind ≡ told → told.ending ≡ ending.Whole
    → PlaceAt (used ++ behind) (Whole (message_of head told.body) told.rest)
unfolding PlaceAt
place_of used behind head told spells is whole = record {
  head = head;
  behind = behind;
  request = spells behind;
  whole = is ∙ ap (λ e. record { body = told.body; ending = e; rest = told.rest }) whole;
  is = refl;
}

-- one more head and body of a source
pub goes_on : (a mid mid' left' : Option (List ℕ)) (used : List ℕ) (head : Head) (size : ℕ) (counts counts' : Counts)
    → IfSome a (λ bytes. SoFar bytes counts mid) → LeftAfter mid used mid' → SpellsHead used head → IfSome mid' (λ bytes. IsWholeBody (body_of head bytes) size left')
    → counts' ≡ record { messages = counts.messages + 1; fields = counts.fields + length head.fields; bytes = counts.bytes + size }
    → IfSome a (λ bytes. SoFar bytes counts' left')
goes_on None mid mid' left' used head size counts counts' so gone spells whole is = tt
goes_on (Some bytes) mid None left' used head size counts counts' so gone spells whole is = cc (so.behind, gone)
goes_on (Some bytes) mid (Some behind) left' used head size counts counts' so gone spells whole is =
    let told = body_of head behind in
    let message = message_of head told.body in
    let rest : so.rest ≡ used ++ behind = ap bytes_of (sym so.behind ∙ gone) in
    let place = subst (λ r. PlaceAt r (Whole message told.rest)) (sym rest) (place_of used behind head told spells refl whole.whole) in
    record {
      messages = so.messages ++ message ∷ [];
      rest = told.rest;
      stand = one_more bytes so.messages so.rest message told.rest so.stand place;
      behind = whole.behind;
      counted = is ∙ ap (λ n. record { messages = counts.messages + 1; fields = counts.fields + length head.fields; bytes = counts.bytes + n }) (sym whole.counted)
          ∙ counts_more so.messages message counts so.counted;
    }
