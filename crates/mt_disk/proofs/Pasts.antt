-- What a write leaves of a disk in memory.
use Rattle.std.proofs.Common.{◌≡◌, inl, inr, ◌≤◌, ◌+◌, ◌-◌, ◌++◌, ℕ, List, ◌∷◌, length, take, drop, sym, subst, ap, ◌∙◌, arith, length-append, length-drop}
use Rattle.std.proofs.lemmas.List.{take_at, drop_at, length-take-le, append_assoc}
use Rattle.mt_disk.specs.declared.disk.FileNo.{FileNo}
use Rattle.mt_disk.specs.Files.{Files, contents, with_contents, overwritten}
use Rattle.mt_disk.specs.CrashModel.{Torn, OnFile, Follows}
use Rattle.mt_disk.specs.Calls.{DiskCall, Wrote, seen_after, Left}
use Rattle.mt_disk.proofs.FileLemmas.{contents-with}

-- a write that is done is one of its outcomes
pub torn_done : (at : ℕ) (bytes old : List ℕ) → at ≤ length old → Torn at (length bytes) old (overwritten old at bytes)
torn_done at bytes old fits =
    let front = take at old in
    let rest = drop (at + length bytes) old in
    let size : length front ≡ at = length-take-le at old fits in
    let both : length (front ++ bytes) ≡ at + length bytes = omega (arith, size, length-append front bytes) in
    let all : length (front ++ bytes ++ rest) ≡ at + length bytes + (length old - (at + length bytes)) = omega (arith, both, length-append (front ++ bytes) rest, length-drop (at + length bytes) old) in
    record {
      before = ap (λ n. take n (front ++ bytes ++ rest)) (omega (arith, fits)) ∙ ap (λ (l : List ℕ). take at l) (append_assoc front bytes rest) ∙ take_at front (bytes ++ rest) at size;
      after = drop_at (front ++ bytes) rest (at + length bytes) both;
      no_shorter = omega (arith, all);
      no_longer = omega (arith, all);
    }

-- the images after a write that is done
pub wrote_follows : (base : Files) (past : List DiskCall) (file : FileNo) (at : ℕ) (bytes : List ℕ) → at ≤ length (contents (seen_after base past) file)
    → Follows (OnFile file (Torn at (length bytes))) (Left base past) (Left base (Wrote file at bytes ∷ past))
wrote_follows base past file at bytes fits c left =
    elim left.2 as (λ _. (d : Files) × Left base past d × OnFile file (Torn at (length bytes)) d c) [
      | inl torn ↦ (left.0, left.1, torn)
      | inr whole ↦ (left.0, left.1, subst (λ x. OnFile file (Torn at (length bytes)) x c) (sym whole.0) (subst (λ x. OnFile file (Torn at (length bytes)) (seen_after base past) x) (sym whole.1) step))
    ]
  where
    step : OnFile file (Torn at (length bytes)) (seen_after base past) (with_contents (seen_after base past) file (overwritten (contents (seen_after base past) file) at bytes))
    step = record {
      stepped = subst (λ (l : List ℕ). Torn at (length bytes) (contents (seen_after base past) file) l) (sym (contents-with (seen_after base past) file _)) (torn_done at bytes (contents (seen_after base past) file) fits);
      others = ap (λ b. with_contents (seen_after base past) file b) (sym (contents-with (seen_after base past) file _));
    }
