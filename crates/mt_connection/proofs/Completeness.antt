-- What the bytes of a source say of how its connection ends.
use Rattle.std.proofs.Common.{◌≡◌, ℕ, zero, suc, ◌+◌, ◌-◌, List, [], ◌∷◌, ◌++◌, length, Option, Some, None, Bool, true, false, inl, inr, refl, ap, sym, subst, ◌∙◌, arith, append_assoc, ◌||◌}
use Rattle.std.specs.Prelude.{IfSome, is_some}
use Rattle.std.specs.Bool.{MatchBool}
use Rattle.std.specs.List.{flat_map, list_any}
use Rattle.std.proofs.lemmas.Option.{IfSome_then}
use Rattle.mt_disk.specs.Files.{Files}
use Rattle.mt_edge.proofs.Streams.{if_some_before}
use Rattle.mt_opening.specs.Current.{EngineState, Over, Serves}
use Rattle.mt_opening.specs.History.{Bytes, History}
use Rattle.mt_http.specs.Framing.{Place, PlaceAt, Spells}
use Rattle.mt_http.specs.Message.{message_of}
use Rattle.mt_http.specs.Options.{closes}
use Rattle.mt_http.specs.declared.message.Head.{Head}
use Rattle.mt_http.specs.declared.message.Message.{Message}
use Rattle.mt_http.proofs.Places.{place_one}
use Rattle.mt_model.specs.State.{State, first_state}
use Rattle.mt_connection.specs.Endings.{Ends, IsOpen, refusal_at}
use Rattle.mt_connection.specs.Outcomes.{ByEnd, LeadsTo, Outcome, OutcomeAt, OutcomeIsOne}
use Rattle.mt_connection.specs.Sides.{Sides}
use Rattle.mt_connection.specs.Transcript.{Exchange, Ran, Run, Setting, SpellsBoth, closing, commands_of, growth_of, read_of}
use Rattle.mt_connection.specs.declared.end.ConnectionEnd.{ConnectionEnd}
use Rattle.mt_connection.specs.declared.end.ConnectionEnd.TheVariants as ended
use Rattle.mt_error.specs.declared.code.ErrorCode.{ErrorCode}
use Rattle.mt_connection.proofs.Runs.{any_none}

all_some : {A : Type 0} (o : Option A) {P : A → Type 0} → ((a : A) → P a) → IfSome o P
all_some None f = tt
all_some (Some a) f = f a

-- a head and a body that bytes spell are a message that they spell
pub spells : (read : Bytes) (head : Head) (body : Bytes) → SpellsBoth read head body → Spells read (message_of head body)
unfolding PlaceAt
spells read head body h rest = let s = h rest in record { head = head; behind = s.0; request = s.1; whole = s.2; is = refl }

-- one message more in front
whole_then : (most : ℕ) (bytes : Bytes) (m : Message) (rest : Bytes) (o : Outcome) → PlaceAt bytes (Place.Whole m rest) → MatchBool (closes m.minor m.fields) (o ≡ Outcome.Closed) (OutcomeAt most rest o) → OutcomeAt (suc most) bytes o
whole_then most bytes m rest o place later = (Place.Whole m rest, place, later)

closed_first : (a b : Bool) (P : Type 0) → (a || b) ≡ true → (b ≡ true → P) → MatchBool a (Outcome.Closed ≡ Outcome.Closed) P
closed_first true b P any later = refl
closed_first false b P any later = later any

refused_leads : (code : ErrorCode) (p : Place) → refusal_at p ≡ Some code → (more : List ℕ → Outcome → Type 0) → LeadsTo p more Outcome.Malformed
refused_leads code Place.Bad why more = refl
refused_leads code Place.TooLarge why more = refl
refused_leads code Place.End why more = absurd (cc)
refused_leads code Place.Truncated why more = absurd (cc)
refused_leads code (Place.Whole message rest) why more = absurd (cc)

module _ (s : Setting) (since : ℕ → Files → Type 0) (heard : s.hears ≡ true) where
  -- the message of an exchange stands in front of what follows it
  here : (h : History) (used asked : ℕ) (x : Exchange) (xs : List Exchange) (rest : Bytes) → Run s h used asked (x ∷ xs)
      → PlaceAt ((x.read ++ flat_map read_of xs) ++ rest) (Place.Whole (message_of x.head x.body) (flat_map read_of xs ++ rest))
  here h used asked x xs rest r =
      subst (λ (bytes : Bytes). PlaceAt bytes (Place.Whole (message_of x.head x.body) (flat_map read_of xs ++ rest))) (sym (append_assoc x.read (flat_map read_of xs) rest))
      (spells x.read x.head x.body (r.0.is_read heard) (flat_map read_of xs ++ rest))

  -- past exchanges that do not close
  outcome_after : (h : History) (used asked : ℕ) (xs : List Exchange) (n : ℕ) (rest : Bytes) (o : Outcome) → Run s h used asked xs → list_any closing xs ≡ false → OutcomeAt n rest o → OutcomeAt (length xs + n) (flat_map read_of xs ++ rest) o
  outcome_after h used asked [] n rest o r none at = let same : n ≡ 0 + n = omega arith in subst (λ (k : ℕ). OutcomeAt k rest o) same at
  outcome_after h used asked (x ∷ xs) n rest o r none at =
      let parts = any_none (closing x) (list_any closing xs) none in
      let count : suc (length xs + n) ≡ suc (length xs) + n = omega arith in
      subst (λ (k : ℕ). OutcomeAt k ((x.read ++ flat_map read_of xs) ++ rest) o) count
      (whole_then (length xs + n) ((x.read ++ flat_map read_of xs) ++ rest) (message_of x.head x.body) (flat_map read_of xs ++ rest) o (here h used asked x xs rest r)
      (subst (λ (b : Bool). MatchBool b (o ≡ Outcome.Closed) (OutcomeAt (length xs + n) (flat_map read_of xs ++ rest) o)) (sym parts.0)
      (outcome_after (h ++ commands_of x) (used + growth_of x) x.turn.asked xs n rest o r.2 parts.1 at)))

  -- past exchanges of which one closes
  outcome_closed : (h : History) (used asked : ℕ) (xs : List Exchange) (n : ℕ) (rest : Bytes) → Run s h used asked xs → list_any closing xs ≡ true → OutcomeAt (length xs + n) (flat_map read_of xs ++ rest) Outcome.Closed
  outcome_closed h used asked [] n rest r any = absurd (cc)
  outcome_closed h used asked (x ∷ xs) n rest r any =
      let count : suc (length xs + n) ≡ suc (length xs) + n = omega arith in
      subst (λ (k : ℕ). OutcomeAt k ((x.read ++ flat_map read_of xs) ++ rest) Outcome.Closed) count
      (whole_then (length xs + n) ((x.read ++ flat_map read_of xs) ++ rest) (message_of x.head x.body) (flat_map read_of xs ++ rest) Outcome.Closed (here h used asked x xs rest r)
      (closed_first (closing x) (list_any closing xs) (OutcomeAt (length xs + n) (flat_map read_of xs ++ rest) Outcome.Closed) any
      (λ later. outcome_closed (h ++ commands_of x) (used + growth_of x) x.turn.asked xs n rest r.2 later)))

  -- behind exchanges after which one more may be read
  outcome_here : (most : ℕ) (h : History) (used asked : ℕ) (xs : List Exchange) (rest : Bytes) (p : Place) (o : Outcome) → Run s h used asked xs → IsOpen most xs → PlaceAt rest p → ((more : List ℕ → Outcome → Type 0) → LeadsTo p more o) → OutcomeAt most (flat_map read_of xs ++ rest) o
  outcome_here most h used asked xs rest p o run free here leads =
      let k : ℕ = most - suc (length xs) in
      let count : length xs + suc k ≡ most = omega (arith, free.few) in
      subst (λ (n : ℕ). OutcomeAt n (flat_map read_of xs ++ rest) o) count (outcome_after h used asked xs (suc k) rest o run free.none (p, here, leads (OutcomeAt k)))

  end_outcome : (most : ℕ) (old : Sides) (xs : List Exchange) (mid : Sides) (end : ConnectionEnd) (new : Sides) → Ran s old xs mid → Ends s since most xs mid end new → IfSome old.left (λ bytes. ByEnd most bytes end)
  end_outcome most old xs mid ended.Ended new r e = if_some_before (λ bytes. OutcomeAt most bytes Outcome.Closed) old.left (flat_map read_of xs) mid.left r.source
      (elim e.0 [
        | inl closed ↦ all_some mid.left (λ rest. let k : ℕ = most - length xs in let count : length xs + k ≡ most = omega (arith, closed.1) in subst (λ (n : ℕ). OutcomeAt n (flat_map read_of xs ++ rest) Outcome.Closed) count (outcome_closed old.history old.used old.asked xs k rest r.run closed.0))
        | inr end ↦ IfSome_then mid.left end.1 (λ rest at. outcome_here most old.history old.used old.asked xs rest Place.End Outcome.Closed r.run end.0 at (λ more. refl))
      ])
  end_outcome most old xs mid ended.Many new r e = if_some_before (λ bytes. OutcomeAt most bytes Outcome.TooMany) old.left (flat_map read_of xs) mid.left r.source
      (all_some mid.left (λ rest. let count : length xs + 0 ≡ most = omega (arith, e.1) in subst (λ (n : ℕ). OutcomeAt n (flat_map read_of xs ++ rest) Outcome.TooMany) count (outcome_after old.history old.used old.asked xs 0 rest Outcome.TooMany r.run e.0 refl)))
  end_outcome most old xs mid ended.Truncated new r e = if_some_before (λ bytes. OutcomeAt most bytes Outcome.CutShort) old.left (flat_map read_of xs) mid.left r.source
      (IfSome_then mid.left e.1.3 (λ rest at. outcome_here most old.history old.used old.asked xs rest Place.Truncated Outcome.CutShort r.run e.0 at (λ more. refl)))
  end_outcome most old xs mid ended.Refused new r e = if_some_before (λ bytes. OutcomeAt most bytes Outcome.Malformed) old.left (flat_map read_of xs) mid.left r.source
      (IfSome_then mid.left e.1.0.here (λ rest at. outcome_here most old.history old.used old.asked xs rest e.1.0.place Outcome.Malformed r.run e.0 at (refused_leads e.1.0.code e.1.0.place e.1.0.why)))
  end_outcome most old xs mid ended.SourceFault new r e = all_some old.left (λ bytes. tt)
  end_outcome most old xs mid ended.SinkFault new r e = all_some old.left (λ bytes. tt)
  end_outcome most old xs mid ended.Full new r e = all_some old.left (λ bytes. tt)
  end_outcome most old xs mid ended.Disk new r e = all_some old.left (λ bytes. tt)
  end_outcome most old xs mid ended.Memory new r e = all_some old.left (λ bytes. tt)

-- exchanges over a source that tells what is left, and their end, lead to what its bytes lead to
pub ends_by_bytes : (s : Setting) (since : ℕ → Files → Type 0) (most : ℕ) (old : Sides) (xs : List Exchange) (mid : Sides) (end : ConnectionEnd) (new : Sides) → s.hears ≡ is_some old.left → Ran s old xs mid → Ends s since most xs mid end new
    → IfSome old.left (λ bytes. ByEnd most bytes end)
ends_by_bytes s since most old xs mid end new hears ran ends = by_left old.left refl
  where
    by_left : (left : Option Bytes) → old.left ≡ left → IfSome left (λ bytes. ByEnd most bytes end)
    by_left None is = tt
    by_left (Some bytes) is = subst (λ (left : Option Bytes). IfSome left (λ bytes. ByEnd most bytes end)) is (end_outcome s since (hears ∙ ap is_some is) most old xs mid end new ran ends)

-- an engine that is open stands for some base and history
pub some_over : (seen : Option Files) (engine : EngineState) → engine.log.closed ≡ false → Serves seen engine → (base : State Bytes) × (h : History) × Over seen engine base h
some_over None engine is_open serves = (first_state, [], λ files is. absurd (cc))
some_over (Some files) engine is_open serves = let s = serves is_open files refl in (s.0, s.1, λ other is. s.2)

either_one : (o o' : Outcome) (more : List ℕ → Outcome → Type 0) → ((rest : List ℕ) → more rest o → more rest o' → o ≡ o') → (c : Bool) (rest : List ℕ) → MatchBool c (o ≡ Outcome.Closed) (more rest o) → MatchBool c (o' ≡ Outcome.Closed) (more rest o') → o ≡ o'
either_one o o' more one true rest a b = a ∙ sym b
either_one o o' more one false rest a b = one rest a b

leads_same : (o o' : Outcome) (more : List ℕ → Outcome → Type 0) → ((rest : List ℕ) → more rest o → more rest o' → o ≡ o') → (p : Place) → LeadsTo p more o → LeadsTo p more o' → o ≡ o'
leads_same o o' more one (Place.Whole m rest) a b = either_one o o' more one (closes m.minor m.fields) rest a b
leads_same o o' more one Place.End a b = a ∙ sym b
leads_same o o' more one Place.Truncated a b = a ∙ sym b
leads_same o o' more one Place.Bad a b = a ∙ sym b
leads_same o o' more one Place.TooLarge a b = a ∙ sym b

-- no bytes have two outcomes
pub one_outcome : OutcomeIsOne
one_outcome zero bytes o o' a b = a ∙ sym b
one_outcome (suc most) bytes o o' a b =
    leads_same o o' (OutcomeAt most) (λ rest a b. one_outcome most rest o o' a b) b.0 (subst (λ (p : Place). LeadsTo p (OutcomeAt most) o) (place_one bytes a.0 b.0 a.1 b.1) a.2) b.2
