-- What stands behind a head that was read, and what a read of a message gives
use Rattle.std.proofs.Common.{◌≡◌, ℕ, ◌⊎◌, inl, inr, List, ◌++◌, Option, Some, None, Ok, Err, refl, sym, subst, append_assoc, arith}
use Rattle.std.specs.Prelude.{IfSome}
use Rattle.httparse.specs.Grammar.{LineEnd, print_blank, RequestHead}
use Rattle.mt_base.specs.Counts.{NeverFell}
use Rattle.mt_edge.specs.Stream.{LeftAfter}
use Rattle.mt_edge.proofs.Streams.{left_after, if_some_before}
use Rattle.mt_http.specs.declared.message.Ending.{Ending}
use Rattle.mt_http.specs.declared.message.Ending.TheVariants as ending
use Rattle.mt_http.specs.declared.message.Head.{Head}
use Rattle.mt_http.specs.declared.message.MessageEnd.{MessageEnd}
use Rattle.mt_http.specs.declared.message.MessageEnd.TheVariants as message_end
use Rattle.mt_http.specs.Framing.{HeadAt, IsRequestHeadOf, RequestAt, EndsInHead, HasLongHead, HasBadHead, HasBody, body_of, Place, Truncated, Bad, TooLarge, PlaceAt, SpellsHead, Receives, ReceivesHead, ReceivesBody}
use Rattle.mt_http.specs.Message.{head_of, message_of}
use Rattle.mt_http.specs.Reading.{IsRead}

any_some : {A : Type 0} (o : Option A) {P : A → Type 0} → ((a : A) → P a) → IfSome o P
any_some None each = tt
any_some (Some a) each = each a

some_then : (o : Option (List ℕ)) (P Q : List ℕ → Type 0) → ((bytes : List ℕ) → P bytes → Q bytes) → IfSome o P → IfSome o Q
some_then None P Q each holds = tt
some_then (Some bytes) P Q each holds = each bytes holds

-- ---- behind the bytes of a head

head_at : (lines : List LineEnd) (text rest : List ℕ) → IsRead lines text → HeadAt ((print_blank lines ++ text) ++ rest) text rest
head_at lines text rest read = record { lines = lines; split = refl; whole = read.whole; small = read.small }

-- it is read
pub head_spelled : (lines : List LineEnd) (text : List ℕ) (h : RequestHead) (head : Head) → IsRead lines text → IsRequestHeadOf text h → head_of h ≡ Some head → SpellsHead (print_blank lines ++ text) head
head_spelled lines text h head read reads says rest = record { text = text; h = h; stands = head_at lines text rest read; reads = reads; says = says }

-- it is no request's, or its framing is refused
pub bad_behind : (left : Option (List ℕ)) (lines : List LineEnd) (text : List ℕ) (left' : Option (List ℕ)) → LeftAfter left (print_blank lines ++ text) left' → IsRead lines text → ((h : RequestHead) → IsRequestHeadOf text h → head_of h ≡ None)
    → IfSome left (λ bytes. HasLongHead bytes ⊎ HasBadHead bytes)
bad_behind left lines text left' gone read refused = if_some_before (λ bytes. HasLongHead bytes ⊎ HasBadHead bytes) left (print_blank lines ++ text) left' gone (any_some left' (λ rest. bad rest))
  where
    bad : (rest : List ℕ) → HasLongHead ((print_blank lines ++ text) ++ rest) ⊎ HasBadHead ((print_blank lines ++ text) ++ rest)
    bad rest = inr (record { text = text; rest = rest; stands = head_at lines text rest read; refused = refused })

-- ---- behind a head

module _ (left : Option (List ℕ)) (faults : ℕ) (used : List ℕ) (head : Head) (mid : Option (List ℕ)) (between : ℕ) (gone : LeftAfter left used mid) (never : NeverFell faults between) (spelled : SpellsHead used head) where
  ends_behind : (e : Ending) (rest : List ℕ) → (body_of head rest).ending ≡ e → HasBody (used ++ rest) e
  ends_behind e rest ends = record { head = head; rest = rest; request = spelled rest; ends = ends }

  place_behind : (e : Ending) (p : Place) → ((bytes : List ℕ) → HasBody bytes e → PlaceAt bytes p) → IfSome mid (λ bytes. (body_of head bytes).ending ≡ e) → IfSome left (λ bytes. PlaceAt bytes p)
  place_behind e p by ends = if_some_before (λ bytes. PlaceAt bytes p) left used mid gone (some_then mid (λ bytes. (body_of head bytes).ending ≡ e) (λ bytes. PlaceAt (used ++ bytes) p) (λ bytes is. by (used ++ bytes) (ends_behind e bytes is)) ends)

  cut_place : (bytes : List ℕ) → HasBody bytes ending.Truncated → PlaceAt bytes Truncated
  unfolding PlaceAt
  cut_place bytes body = inr body

  bad_place : (bytes : List ℕ) → HasBody bytes ending.Bad → PlaceAt bytes Bad
  unfolding PlaceAt
  bad_place bytes body = inr body

  large_place : (bytes : List ℕ) → HasBody bytes ending.TooLarge → PlaceAt bytes TooLarge
  unfolding PlaceAt
  large_place bytes body = body

  whole_place : (used' body rest : List ℕ) → body_of head (used' ++ rest) ≡ record { body = body; ending = ending.Whole; rest = rest } → PlaceAt ((used ++ used') ++ rest) (Place.Whole (message_of head body) rest)
  unfolding PlaceAt
  whole_place used' body rest told = record {
    head = head;
    behind = used' ++ rest;
    request = subst (λ (bytes : List ℕ). RequestAt bytes head (used' ++ rest)) (sym (append_assoc used used' rest)) (spelled (used' ++ rest));
    whole = told;
    is = refl;
  }

  -- the whole message was read
  pub received_whole : (body : List ℕ) (left' : Option (List ℕ)) (faults' : ℕ) → ReceivesBody (body_of head) mid between (Ok body) left' faults' → Receives left faults (Ok (message_of head body)) left' faults'
  received_whole body left' faults' read = (
    (used ++ read.0.0, left_after left used mid read.0.0 left' gone read.0.1, λ rest. whole_place read.0.0 body rest (read.0.2 rest)),
    omega (arith, never, read.1),
  )

  -- its body was not read
  pub received_end : (end : MessageEnd) (left' : Option (List ℕ)) (faults' : ℕ) → ReceivesBody (body_of head) mid between (Err end) left' faults' → Receives left faults (Err end) left' faults'
  received_end message_end.End left' faults' read = absurd read
  received_end message_end.Truncated left' faults' read = (place_behind ending.Truncated Truncated cut_place read.0, omega (arith, never, read.1))
  received_end message_end.Bad left' faults' read = (place_behind ending.Bad Bad bad_place read.0, omega (arith, never, read.1))
  received_end message_end.TooLarge left' faults' read = (place_behind ending.TooLarge TooLarge large_place read.0, omega (arith, never, read.1))
  received_end message_end.SourceFault left' faults' read = omega (arith, never, read)
  received_end message_end.Memory left' faults' read = omega (arith, never, read)

-- ---- no head

-- no head was read
pub no_head_received : (left : Option (List ℕ)) (faults : ℕ) (end : MessageEnd) (left' : Option (List ℕ)) (faults' : ℕ) → ReceivesHead left faults (Err end) left' faults' → Receives left faults (Err end) left' faults'
unfolding PlaceAt
no_head_received left faults message_end.End left' faults' read = read
no_head_received left faults message_end.Truncated left' faults' read = (some_then left EndsInHead (λ bytes. PlaceAt bytes Truncated) (λ bytes cut. cut_there bytes cut) read.0, read.1)
  where
    cut_there : (bytes : List ℕ) → EndsInHead bytes → PlaceAt bytes Truncated
    cut_there bytes cut = inl cut
no_head_received left faults message_end.Bad left' faults' read = (some_then left (λ bytes. HasLongHead bytes ⊎ HasBadHead bytes) (λ bytes. PlaceAt bytes Bad) (λ bytes bad. bad_there bytes bad) read.0, read.1)
  where
    bad_there : (bytes : List ℕ) → HasLongHead bytes ⊎ HasBadHead bytes → PlaceAt bytes Bad
    bad_there bytes bad = inl bad
no_head_received left faults message_end.TooLarge left' faults' read = absurd read
no_head_received left faults message_end.SourceFault left' faults' read = read
no_head_received left faults message_end.Memory left' faults' read = read
