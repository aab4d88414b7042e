-- Ways to leave a part of a write.
use Rattle.std.proofs.Common.{◌≡◌, ◌≤◌, ◌+◌, ◌-◌, ◌++◌, ℕ, List, length, min, take, drop, replicate, inl, inr, sym, ap, ◌∙◌, arith, append_assoc, length-append, length-drop}
use Rattle.std.proofs.lemmas.List.{take_min, take-append-le, drop-drop, drop_at, drop_all, take-take, append-nil, length-take-le, length-replicate}
use Rattle.std.proofs.lemmas.Bool.{cases_lt}
use Rattle.mt_disk.specs.Files.{overwritten}
use Rattle.mt_disk.specs.CrashModel.{Torn}
use Rattle.mt_disk.specs.MemState.{padded}

-- a write within the range of a torn one
pub torn_within : (at n k : ℕ) (old x bytes : List ℕ) → Torn at n old x → at ≤ k → k + length bytes ≤ at + n → k ≤ length x → Torn at n old (overwritten x k bytes)
torn_within at n k old x bytes torn behind within fits =
    let m = length bytes in
    let front = take k x in
    let rest = drop (k + m) x in
    let i = min at (length old) in
    let j = at + n - (k + m) in
    let size : length front ≡ k = length-take-le k x fits in
    let both : length (front ++ bytes) ≡ k + m = omega (arith, size, length-append front bytes) in
    let all : length (front ++ bytes ++ rest) ≡ k + m + (length x - (k + m)) = omega (arith, both, length-append (front ++ bytes) rest, length-drop (k + m) x) in
    let end : at + n ≡ k + m + j = omega (arith, within) in
    record {
      before =
          ap (λ (l : List ℕ). take i l) (append_assoc front bytes rest)
          ∙ take-append-le i front (bytes ++ rest) (omega (arith, behind, size))
          ∙ take-take i k x (omega (arith, behind)) ∙ torn.before;
      after =
          ap (λ e. drop e (front ++ bytes ++ rest)) end ∙ sym (drop-drop j (k + m) (front ++ bytes ++ rest))
          ∙ ap (λ (l : List ℕ). drop j l) (drop_at (front ++ bytes) rest (k + m) both)
          ∙ drop-drop j (k + m) x ∙ ap (λ e. drop e x) (sym end) ∙ torn.after;
      no_shorter = omega (arith, all, fits, torn.no_shorter);
      no_longer = omega (arith, all, fits, torn.no_longer, within);
    }

padded_after : (at n : ℕ) (old : List ℕ) → drop (at + n) (padded old at) ≡ drop (at + n) old
padded_after at n old =
    let zeros : List ℕ = replicate (at - length old) 0 in
    let size : length (old ++ zeros) ≡ length old + (at - length old) = omega (arith, length-append old zeros, length-replicate {A = ℕ} (at - length old) 0) in
    elim (cases_lt (length old) at) [
      | inl short ↦ drop_all (at + n) (old ++ zeros) (omega (arith, short, size)) ∙ sym (drop_all (at + n) old (omega (arith, short)))
      | inr long ↦ let none : at - length old ≡ 0 = omega (arith, long) in
          ap (λ k. drop (at + n) (old ++ replicate k 0)) none ∙ ap (λ (l : List ℕ). drop (at + n) l) (append-nil old)
    ]

-- zeros between the old end and the write
pub torn_padded : (at n : ℕ) (old : List ℕ) → Torn at n old (padded old at)
torn_padded at n old =
    let zeros : List ℕ = replicate (at - length old) 0 in
    let size : length (old ++ zeros) ≡ length old + (at - length old) = omega (arith, length-append old zeros, length-replicate {A = ℕ} (at - length old) 0) in
    record {
      before = take-append-le (min at (length old)) old zeros (omega arith) ∙ take_min at old;
      after = padded_after at n old;
      no_shorter = omega (arith, size);
      no_longer = omega (arith, size);
    }
