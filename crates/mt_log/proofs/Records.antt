-- What stands behind an open gate.
use Rattle.std.proofs.Common.{◌≡◌, ℕ, ◌+◌, ◌<◌, ◌^◌, true, nat_eq, List, [], ◌∷◌, ◌++◌, length, take, drop, None, refl, ◌∙◌, ap, arith, append_assoc, length-append}
use Rattle.std.proofs.lemmas.List.{take_at, drop_at}
use Rattle.std.proofs.lemmas.Bool.Decides.{nat_tests}
use Rattle.std.proofs.lemmas.Nat.{from_be_bytes-to_be_bytes_4}
use Rattle.std.specs.Int.{w32, to_be_bytes}
use Rattle.std.specs.Cmp.Lexicographic.{pointwise}
use Rattle.md5.specs.Md5.{md5}
use Rattle.md5.proofs.StandardFacts.{length-md5}
use Rattle.mt_log.specs.LogImage.{head_of, length_in, payload_in, fault_in}

pub same_list : (xs : List ℕ) → pointwise nat_eq xs xs ≡ true
same_list [] = refl
same_list (x ∷ xs) = grind (arith, nat_tests, same_list xs)

pub length-head_of : (p : List ℕ) → length (head_of p) ≡ 20
unfolding head_of
length-head_of p = omega (arith, length-append (to_be_bytes w32 (length p)) (md5 p), length-md5 p)

module _ (p : List ℕ) (fits : length p < 2 ^ 32) (rest : List ℕ) where
  pub length_in-record : length_in ((head_of p ++ p) ++ rest) ≡ length p
  unfolding length_in head_of
  length_in-record = from_be_bytes-to_be_bytes_4 (length p) fits

  drop_head : drop 20 ((head_of p ++ p) ++ rest) ≡ p ++ rest
  drop_head = ap (λ (l : List ℕ). drop 20 l) (append_assoc (head_of p) p rest) ∙ drop_at (head_of p) (p ++ rest) 20 (length-head_of p)

  pub payload_in-record : payload_in ((head_of p ++ p) ++ rest) ≡ p
  unfolding payload_in
  payload_in-record =
      ap (λ n. take n (drop 20 ((head_of p ++ p) ++ rest))) length_in-record
      ∙ ap (λ (l : List ℕ). take (length p) l) drop_head ∙ take_at p rest (length p) refl

  kept : take 16 (drop 4 ((head_of p ++ p) ++ rest)) ≡ md5 p
  unfolding head_of
  kept = ap (λ (l : List ℕ). take 16 l) (append_assoc (md5 p) p rest) ∙ take_at (md5 p) (p ++ rest) 16 (length-md5 p)

  length_all : length ((head_of p ++ p) ++ rest) ≡ 20 + length p + length rest
  length_all = omega (arith, length-append (head_of p ++ p) rest, length-append (head_of p) p, length-head_of p)

  sum_is : pointwise nat_eq (take 16 (drop 4 ((head_of p ++ p) ++ rest))) (md5 (payload_in ((head_of p ++ p) ++ rest))) ≡ true
  sum_is = ap (λ (l : List ℕ). pointwise nat_eq l (md5 (payload_in ((head_of p ++ p) ++ rest)))) kept
      ∙ ap (λ (l : List ℕ). pointwise nat_eq (md5 p) (md5 l)) payload_in-record ∙ same_list (md5 p)

  pub fault_in-record : (at : ℕ) → fault_in at ((head_of p ++ p) ++ rest) ≡ None
  unfolding fault_in
  fault_in-record at = grind (arith, nat_tests, length_all, length_in-record, sum_is)

  pub drop_record : drop (20 + length_in ((head_of p ++ p) ++ rest)) ((head_of p ++ p) ++ rest) ≡ rest
  drop_record = ap (λ n. drop (20 + n) ((head_of p ++ p) ++ rest)) length_in-record
      ∙ drop_at (head_of p ++ p) rest (20 + length p) (omega (arith, length-append (head_of p) p, length-head_of p))
