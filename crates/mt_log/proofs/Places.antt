-- Places of payloads in a log that grows.
use Rattle.std.proofs.Common.{◌≡◌, ◌⊎◌, inl, inr, ℕ, ◌+◌, ◌-◌, ◌<◌, ◌≤◌, ◌^◌, ◌==◌, Bool, true, false, if◌then◌else◌, List, [], ◌∷◌, ◌++◌, length, take, drop, refl, sym, ◌∙◌, ap, subst, arith, append_assoc, length-append, length-drop}
use Rattle.std.specs.Int.{w32, to_be_bytes, from_be_bytes}
use Rattle.std.specs.List.{flat_map}
use Rattle.std.proofs.lemmas.Bool.{cases_eq}
use Rattle.std.proofs.lemmas.Bool.Decides.{nat_tests}
use Rattle.std.proofs.lemmas.List.{drop-append-le, drop-drop, drop_at, take-append-le}
use Rattle.std.proofs.lemmas.List.Concat.{flat_map-append}
use Rattle.std.proofs.lemmas.Nat.{from_be_bytes-to_be_bytes_4}
use Rattle.mt_log.specs.LogImage.{AllFit, Holds, head_of, log_size, magic_of, record_of}
use Rattle.mt_log.specs.LogState.{next_place}
use Rattle.mt_log.specs.Places.{IsPlace, end_from, end_of, first_payload, from_at, from_place, payload_at}
use Rattle.mt_log.proofs.Records.{length-head_of}
use Rattle.mt_log.proofs.Sizes.{log_size-cons, log_size-holds}
use Rattle.mt_log.proofs.Walks.{length-magic}

pub end_from-append : (at : ℕ) (ps qs : List (List ℕ)) → end_from at (ps ++ qs) ≡ end_from (end_from at ps) qs
end_from-append at [] qs = refl
end_from-append at (p ∷ ps) qs = end_from-append (next_place at (length p)) ps qs

pub end_from-rises : (at : ℕ) (ps : List (List ℕ)) → at ≤ end_from at ps
end_from-rises at [] = omega arith
end_from-rises at (p ∷ ps) = omega (arith, end_from-rises (next_place at (length p)) ps)

-- what is added stands at the old end
pub from_at-end : (at : ℕ) (ps qs : List (List ℕ)) → from_at (end_from at ps) at (ps ++ qs) ≡ from_at (end_from at ps) (end_from at ps) qs
from_at-end at [] qs = refl
from_at-end at (p ∷ ps) qs =
    let next = next_place at (length p) in
    let other : (at == end_from next ps) ≡ false = grind (arith, nat_tests, end_from-rises next ps) in
    ap (λ b. if b then p ∷ (ps ++ qs) else from_at (end_from next ps) next (ps ++ qs)) other ∙ from_at-end next ps qs

from_here : (at : ℕ) (qs : List (List ℕ)) → from_at at at qs ≡ qs
from_here at [] = refl
from_here at (q ∷ qs) = let same : (at == at) ≡ true = grind (arith, nat_tests) in ap (λ b. if b then q ∷ qs else from_at at (next_place at (length q)) qs) same

pub from_place-end : (ps qs : List (List ℕ)) → from_place (end_of ps) (ps ++ qs) ≡ qs
unfolding from_place end_of
from_place-end ps qs = from_at-end 8 ps qs ∙ from_here (end_from 8 ps) qs

pub from_place-first : (ps : List (List ℕ)) → from_place 8 ps ≡ ps
unfolding from_place
from_place-first ps = from_here 8 ps

-- what stands from a place on is the end of the payloads
pub record Behind (place at : ℕ) (ps : List (List ℕ)) (rest : List (List ℕ)) : Type 0 where
  pub earlier : List (List ℕ)
  pub whole : ps ≡ earlier ++ rest
  pub place_is : place ≡ end_from at earlier

behind_at : (place at : ℕ) (ps : List (List ℕ)) (q : List ℕ) (rest : List (List ℕ)) → from_at place at ps ≡ q ∷ rest → Behind place at ps (q ∷ rest)
behind_at place at [] q rest is = absurd (cc is)
behind_at place at (p ∷ ps) q rest is = by (cases_eq at place) (λ further. behind_at place (next_place at (length p)) ps q rest further)
  where
    by : (at ≡ place) ⊎ (at ≡ place → ⊥) → (from_at place (next_place at (length p)) ps ≡ q ∷ rest → Behind place (next_place at (length p)) ps (q ∷ rest)) → Behind place at (p ∷ ps) (q ∷ rest)
    by (inl here) earlier =
        let test : (at == place) ≡ true = grind (arith, nat_tests) in
        record { earlier = []; whole = sym (ap (λ b. if b then p ∷ ps else from_at place (next_place at (length p)) ps) test) ∙ is; place_is = sym here }
    by (inr other) earlier =
        let test : (at == place) ≡ false = grind (arith, nat_tests) in
        let further = earlier (sym (ap (λ b. if b then p ∷ ps else from_at place (next_place at (length p)) ps) test) ∙ is) in
        record { earlier = p ∷ further.earlier; whole = ap (λ l. p ∷ l) further.whole; place_is = further.place_is }

pub behind : (place : ℕ) (ps : List (List ℕ)) (q : List ℕ) (rest : List (List ℕ)) → from_place place ps ≡ q ∷ rest → Behind place 8 ps (q ∷ rest)
unfolding from_place
behind place ps q rest is = behind_at place 8 ps q rest is

-- places stay while a log grows
pub from_place-append : (place : ℕ) (ps qs : List (List ℕ)) (q : List ℕ) (rest : List (List ℕ)) → from_place place ps ≡ q ∷ rest → from_place place (ps ++ qs) ≡ (q ∷ rest) ++ qs
unfolding from_place
from_place-append place ps qs q rest is =
    let at = behind_at place 8 ps q rest is in
    ap (λ n. from_at n 8 (ps ++ qs)) at.place_is ∙ ap (λ l. from_at (end_from 8 at.earlier) 8 l) (ap (λ l. l ++ qs) at.whole ∙ append_assoc at.earlier (q ∷ rest) qs)
    ∙ from_at-end 8 at.earlier ((q ∷ rest) ++ qs) ∙ from_here (end_from 8 at.earlier) ((q ∷ rest) ++ qs)

pub payload_at-append : (place : ℕ) (ps qs : List (List ℕ)) → IsPlace place ps → payload_at place (ps ++ qs) ≡ payload_at place ps
payload_at-append place ps qs at = ap first_payload (from_place-append place ps qs at.payload at.more at.is ∙ sym (ap (λ l. l ++ qs) at.is)) ∙ ap first_payload (ap (λ l. l ++ qs) at.is) ∙ sym (ap first_payload at.is)

-- the record behind one
pub from_place-next : (place : ℕ) (ps : List (List ℕ)) (q : List ℕ) (rest : List (List ℕ)) → from_place place ps ≡ q ∷ rest → from_place (next_place place (length q)) ps ≡ rest
unfolding from_place
from_place-next place ps q rest is =
    let at = behind_at place 8 ps q rest is in
    let before = at.earlier ++ q ∷ [] in
    let next : next_place place (length q) ≡ end_from 8 before = sym (end_from-append 8 at.earlier (q ∷ []) ∙ ap (λ n. next_place n (length q)) (sym at.place_is)) in
    let whole : ps ≡ before ++ rest = at.whole ∙ sym (append_assoc at.earlier (q ∷ []) rest) in
    (λ i. from_at (next i) 8 (whole i)) ∙ from_at-end 8 before rest ∙ from_here (end_from 8 before) rest

end_from-size : (at : ℕ) (ps : List (List ℕ)) → end_from at ps + 9 ≡ at + log_size ps
end_from-size at [] = refl
end_from-size at (p ∷ ps) = omega (arith, end_from-size (next_place at (length p)) ps, log_size-cons p ps)

-- the closed gate stands behind the payloads
pub end_of-size : (ps : List (List ℕ)) → end_of ps + 1 ≡ log_size ps
unfolding end_of
end_of-size ps = omega (arith, end_from-size 8 ps)

pub end_of-holds : (old : Bool) (bytes : List ℕ) (gate : ℕ) (ps : List (List ℕ)) → Holds old bytes gate ps → gate ≡ end_of ps
end_of-holds old bytes gate ps holds = omega (arith, end_of-size ps, log_size-holds old bytes gate ps holds)

records_end : (at : ℕ) (ps : List (List ℕ)) → at + length (flat_map record_of ps) ≡ end_from at ps
records_end at [] = omega arith
records_end at (p ∷ ps) = omega (arith, records_end (next_place at (length p)) ps, length-append (record_of p) (flat_map record_of ps), length-append (head_of p) p, length-head_of p)

fit_last : (ps : List (List ℕ)) (p : List ℕ) (qs : List (List ℕ)) → AllFit (ps ++ p ∷ qs) → length p < 2 ^ 32
fit_last [] p qs fit = fit.0
fit_last (q ∷ ps) p qs fit = fit_last ps p qs fit.1

-- a payload that isn't empty has a record
pub some_place : (place : ℕ) (ps : List (List ℕ)) → 0 < length (payload_at place ps) → IsPlace place ps
some_place place ps some = by (from_place place ps) refl some
  where
    by : (l : List (List ℕ)) → from_place place ps ≡ l → 0 < length (first_payload l) → IsPlace place ps
    by [] is some = absurd (omega arith)
    by (p ∷ more) is some = record { payload = p; more = more; is = is }

-- the bytes of the record at a place
module _ (old : Bool) (bytes : List ℕ) (gate : ℕ) (ps : List (List ℕ)) (holds : Holds old bytes gate ps) (place : ℕ) (at : IsPlace place ps) where
  stands : Behind place 8 ps (at.payload ∷ at.more)
  stands = behind place ps at.payload at.more at.is

  -- what stands behind the record's gate
  rest_of_record : List ℕ
  rest_of_record = head_of at.payload ++ (at.payload ++ (flat_map record_of at.more ++ holds.byte ∷ holds.tail))

  behind_gate_of : drop (place + 1) bytes ≡ rest_of_record
  unfolding stands rest_of_record
  behind_gate_of =
      let p = at.payload in
      let earlier = flat_map record_of stands.earlier in
      let front = magic_of old ++ earlier in
      let more = flat_map record_of at.more in
      let rest = holds.byte ∷ holds.tail in
      let size : length (front ++ 1 ∷ []) ≡ place + 1 = omega (arith, length-append front (1 ∷ []), length-append (magic_of old) earlier, length-magic old, records_end 8 stands.earlier, stands.place_is) in
      let split : flat_map record_of ps ≡ earlier ++ (record_of p ++ more) = ap (λ l. flat_map record_of l) stands.whole ∙ flat_map-append record_of stands.earlier (p ∷ at.more) in
      let whole : bytes ≡ (front ++ 1 ∷ []) ++ (head_of p ++ (p ++ (more ++ rest))) =
      holds.whole ∙ ap (λ (l : List ℕ). (magic_of old ++ l) ++ rest) split ∙ simp append_assoc in
      ap (λ (l : List ℕ). drop (place + 1) l) whole ∙ drop_at (front ++ 1 ∷ []) _ (place + 1) size

  -- its payload
  pub payload_behind : drop (place + 21) bytes ≡ at.payload ++ (flat_map record_of at.more ++ holds.byte ∷ holds.tail)
  unfolding rest_of_record
  payload_behind =
      sym (drop-drop 20 (place + 1) bytes ∙ ap (λ (n : ℕ). drop n bytes) (sum place)) ∙ ap (λ (l : List ℕ). drop 20 l) behind_gate_of ∙ drop_at (head_of at.payload) _ 20 (length-head_of at.payload)
    where
      sum : (n : ℕ) → n + 1 + 20 ≡ n + 21
      sum n = omega arith

  -- the length that its head keeps
  pub length_behind : take 4 (drop (place + 1) bytes) ≡ to_be_bytes w32 (length at.payload)
  unfolding rest_of_record head_of
  length_behind = ap (λ (l : List ℕ). take 4 l) behind_gate_of

  -- a number that four bytes there stand for
  pub length_read : (n : ℕ) (four : List ℕ) → four ≡ take 4 (drop (place + 1) bytes) → to_be_bytes w32 n ≡ four → n < 2 ^ 32 → n ≡ length at.payload
  unfolding stands
  length_read n four is kept small =
      let fits = fit_last stands.earlier at.payload at.more (subst (λ l. AllFit l) stands.whole holds.each) in
      sym (from_be_bytes-to_be_bytes_4 n small) ∙ ap (λ (l : List ℕ). from_be_bytes w32 l) (kept ∙ is ∙ length_behind) ∙ from_be_bytes-to_be_bytes_4 (length at.payload) fits

  -- it lies before the closed gate
  pub record_within : place + 21 + length at.payload ≤ gate
  unfolding stands
  record_within =
      omega (arith, stands.place_is, end_from-append 8 stands.earlier (at.payload ∷ at.more), ap (λ l. end_from 8 l) stands.whole, end_from-rises (next_place (end_from 8 stands.earlier) (length at.payload)) at.more, ends)
    where
      ends : gate ≡ end_from 8 ps
      ends = omega (arith, log_size-holds old bytes gate ps holds, end_from-size 8 ps)

-- a part of the payload
pub part_behind : (bytes p rest : List ℕ) (place from n : ℕ) → drop (place + 21) bytes ≡ p ++ rest → from + n ≤ length p
    → take (place + 21 + from + n - (place + 21 + from)) (drop (place + 21 + from) bytes) ≡ take (from + n - from) (drop from p)
part_behind bytes p rest place from n is within =
    let count : place + 21 + from + n - (place + 21 + from) ≡ n = omega arith in
    let same : from + n - from ≡ n = omega arith in
    ap (λ (k : ℕ). take k (drop (place + 21 + from) bytes)) count
    ∙ ap (λ (l : List ℕ). take n l) (sym (drop-drop from (place + 21) bytes) ∙ ap (λ (l : List ℕ). drop from l) is ∙ drop-append-le from p rest (omega (arith, within)))
    ∙ take-append-le n (drop from p) rest (omega (arith, within, length-drop from p))
    ∙ ap (λ (k : ℕ). take k (drop from p)) (sym same)

-- so many bytes from a place on
pub part_at : (at n : ℕ) (bytes : List ℕ) → take (at + n - at) (drop at bytes) ≡ take n (drop at bytes)
part_at at n bytes = let count : at + n - at ≡ n = omega arith in ap (λ (k : ℕ). take k (drop at bytes)) count

pub not_empty : (n : ℕ) → false ≡ (n == 0) → 0 < n
not_empty n is = grind (arith, nat_tests)

-- behind the records of a run
pub end_of-run : (gate next : ℕ) (ps records : List (List ℕ)) → gate ≡ end_of ps → next ≡ gate + length (flat_map record_of records) → next ≡ end_of (ps ++ records)
unfolding end_of
end_of-run gate next ps records at next_is = omega (arith, at, next_is, records_end gate records, end_from-append 8 ps records, ap (λ n. end_from n records) at)
