-- One more entry stands for one more call.
use Rattle.std.proofs.Common.{◌≡◌, ℕ, ◌+◌, ◌<◌, ◌≤◌, List, [], ◌∷◌, ◌++◌, length, take, drop, get_or, sum_by, sym, ◌∙◌, ap, subst, arith, length-drop}
use Rattle.std.proofs.lemmas.List.{take_all, take_more, take-append-le, drop-append-le, length-take-le, nil_from_length}
use Rattle.std.proofs.lemmas.List.Sums.{sum_by-cons, sum_by_more_le}
use Rattle.std.proofs.Math.Seq.{take-add}
use Rattle.mt_disk.specs.Files.{Files}
use Rattle.mt_disk.specs.Calls.{DiskCall, Leaves, Left, seen_after}
use Rattle.mt_disk.specs.Entries.{size_of_entry, call_of, calls_onto}
use Rattle.mt_disk.specs.declared.record.Entry.{Entry}

pub calls_onto-push : (past : List DiskCall) (entries : List Entry) (entry : Entry) (bytes piece : List ℕ) → length bytes ≡ sum_by size_of_entry entries → size_of_entry entry ≡ length piece
    → calls_onto past (entries ++ entry ∷ []) (bytes ++ piece) ≡ call_of entry piece ∷ calls_onto past entries bytes
calls_onto-push past [] entry bytes piece total size =
    ap (λ (l : List ℕ). call_of entry (take (size_of_entry entry) (l ++ piece)) ∷ past) (nil_from_length bytes total)
    ∙ ap (λ (l : List ℕ). call_of entry l ∷ past) (take_all (size_of_entry entry) piece (omega (arith, size)))
calls_onto-push past (e ∷ entries) entry bytes piece total size =
    let n = size_of_entry e in
    let all : length bytes ≡ n + sum_by size_of_entry entries = total ∙ sum_by-cons size_of_entry e entries in
    let fits : n ≤ length bytes = omega (arith, all) in
    let rest : length (drop n bytes) ≡ sum_by size_of_entry entries = omega (arith, all, length-drop n bytes) in
    ap (λ (l : List ℕ). calls_onto (call_of e l ∷ past) (entries ++ entry ∷ []) (drop n (bytes ++ piece))) (take-append-le n bytes piece fits)
    ∙ ap (λ (l : List ℕ). calls_onto (call_of e (take n bytes) ∷ past) (entries ++ entry ∷ []) l) (drop-append-le n bytes piece fits)
    ∙ calls_onto-push (call_of e (take n bytes) ∷ past) entries entry (drop n bytes) piece rest size

-- the entry at a place stands for the next call
module _ (entries : List Entry) (written : List ℕ) (i from : ℕ) (d : Entry) (here : i < length entries) (from_is : from ≡ sum_by size_of_entry (take i entries)) (total : length written ≡ sum_by size_of_entry entries) where
  pub entry_within : from + size_of_entry (get_or entries i d) ≤ length written
  entry_within = omega (arith, sum_by_more_le size_of_entry entries i d here, total, from_is)

  pub calls_onto-more : calls_onto [] (take (i + 1) entries) (take (from + size_of_entry (get_or entries i d)) written)
      ≡ call_of (get_or entries i d) (take (size_of_entry (get_or entries i d)) (drop from written)) ∷ calls_onto [] (take i entries) (take from written)
  calls_onto-more =
      let e = get_or entries i d in
      let n = size_of_entry e in
      let piece = take n (drop from written) in
      let front = take from written in
      let first : length front ≡ from = length-take-le from written (omega (arith, entry_within)) in
      let next : length piece ≡ n = length-take-le n (drop from written) (omega (arith, entry_within, length-drop from written)) in
      ap (λ es. calls_onto [] es (take (from + n) written)) (take_more entries i d here)
      ∙ ap (λ (l : List ℕ). calls_onto [] (take i entries ++ e ∷ []) l) (take-add from n written)
      ∙ calls_onto-push [] (take i entries) e front piece (first ∙ from_is) (sym next)

-- what the next call leaves of an image that the earlier ones may leave
pub left_more : (base image seen new : Files) (past : List DiskCall) (call : DiskCall) → Left base past image → seen ≡ seen_after base past → Leaves call seen image new → Left base (call ∷ past) new
left_more base image seen new past call left same leaves = (image, left, subst (λ s. Leaves call s image new) same leaves)
