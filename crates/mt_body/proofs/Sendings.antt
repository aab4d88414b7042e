-- What was sent of a body when a call failed.
use Rattle.std.proofs.Common.{◌≡◌, ◌<◌, ◌≤◌, ℕ, ◌+◌, ◌-◌, List, ◌++◌, length, take, drop, replicate, Option, Some, None, refl, sym, ◌∙◌, ap, arith, length-append}
use Rattle.std.specs.Option.{ForSome}
use Rattle.std.proofs.lemmas.List.{length-drop, length-replicate, length-take-le, take-append-drop, take-take, take_at}
use Rattle.std.proofs.lemmas.Option.{none-some, same_Some}
use Rattle.mt_base.specs.Lists.{IsPrefixOf}
use Rattle.mt_edge.specs.Stream.{GotMore, WritesFront}
use Rattle.mt_types.specs.declared.body.Body.{Body}
use Rattle.mt_body.specs.Stored.{bytes_of}
use Rattle.mt_body.proofs.Keeping.{length-bytes_of}
use Rattle.mt_body.proofs.Readings.{list_more}

-- all bytes of a part of which a front was sent
pub record Rest (sent : List ℕ) (n : ℕ) (o : Option (List (List ℕ))) (part : List (List ℕ) → List ℕ) : Type 0 where
  pub bytes : List ℕ
  pub size : length bytes ≡ n
  pub front : IsPrefixOf sent bytes
  pub told_is : ForSome o (λ ps. bytes ≡ part ps)

rest_of : (sent : List ℕ) (n : ℕ) (o : Option (List (List ℕ))) (part : List (List ℕ) → List ℕ) → length sent ≤ n → ((ps : List (List ℕ)) → o ≡ Some ps → length (part ps) ≡ n) → ForSome o (λ ps. sent ≡ take (length sent) (part ps)) → Rest sent n o part
rest_of sent n None part few size is =
    let zeros : length {A = ℕ} (replicate (n - length sent) 0) ≡ n - length sent = length-replicate (n - length sent) 0 in
    record { bytes = sent ++ replicate (n - length sent) 0; size = omega (arith, length-append sent (replicate (n - length sent) 0), zeros, few); front = (replicate (n - length sent) 0, refl); told_is = λ ps e. absurd (none-some ps e) }
rest_of sent n (Some ps) part few size is = record {
  bytes = part ps;
  size = size ps refl;
  front = (drop (length sent) (part ps), ap (λ l. l ++ drop (length sent) (part ps)) (is ps refl) ∙ take-append-drop (length sent) (part ps));
  told_is = λ qs e. ap part (same_Some _ _ e);
}

-- a front that is shorter
pub wrote_front : (got got' : Option (List ℕ)) (sent bytes : List ℕ) → IsPrefixOf sent bytes → length sent < length bytes → GotMore got sent got' → WritesFront got bytes got'
wrote_front got got' sent bytes front short grew = record { written = sent; front = front; short = short; grew = grew }

pub all_sent : (o : Option (List (List ℕ))) (sent : List ℕ) (from at to : ℕ) (b : Body) → from ≤ at → at ≤ to → to ≤ b.len → length sent ≡ at - from → ForSome o (λ ps. sent ≡ take (at - from) (drop from (bytes_of ps b)))
    → Rest sent (to - from) o (λ ps. take (to - from) (drop from (bytes_of ps b)))
all_sent o sent from at to b order within most count are =
    rest_of sent (to - from) o (λ ps. take (to - from) (drop from (bytes_of ps b))) (omega (arith, count, within))
    (λ ps is. length-take-le (to - from) (drop from (bytes_of ps b)) (omega (arith, length-drop from (bytes_of ps b), length-bytes_of ps b, most)))
    (λ ps is.
    are ps is ∙ ap (λ n. take n (drop from (bytes_of ps b))) (sym count) ∙ sym (take-take (length sent) (to - from) (drop from (bytes_of ps b)) (omega (arith, count, within))))

-- a part more
pub sent_more : (bytes piece more : List ℕ) (from at count : ℕ) → from ≤ at → piece ≡ take (at - from) (drop from bytes) → more ≡ take count (drop at bytes) → piece ++ more ≡ take (at + count - from) (drop from bytes)
sent_more bytes piece more from at count order first next =
    let place : at ≡ from + (at - from) = omega (arith, order) in
    let sum : (at - from) + count ≡ at + count - from = omega (arith, order) in
    list_more bytes piece more from (at - from) count first (next ∙ ap (λ n. take count (drop n bytes)) place) ∙ ap (λ n. take n (drop from bytes)) sum

-- a front of a part
pub front_is : (written piece bytes : List ℕ) (n : ℕ) → IsPrefixOf written piece → piece ≡ take n bytes → length written ≤ n → written ≡ take (length written) bytes
front_is written piece bytes n front is few =
    sym (take_at written front.0 (length written) refl) ∙ ap (take (length written)) (front.1 ∙ is) ∙ take-take (length written) n bytes few
