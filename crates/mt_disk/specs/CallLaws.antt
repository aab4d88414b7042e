-- The laws of a disk in memory, which stand here since its `impl` cites them.
use Rattle.std.specs.Prelude.{◌≡◌, ◌+◌, ℕ, List, [], ◌∷◌, length, take, Some}
use Rattle.std.proofs.Common.{inl, inr, refl, sym, subst, ap}
use Rattle.std.proofs.Math.Nat.{le_refl, le-max_left, not-suc-le_self}
use Rattle.std.proofs.lemmas.List.{take_min}
use Rattle.std.proofs.lemmas.Option.{same_Some}
use Rattle.mt_disk.specs.declared.disk.FileNo.{FileNo}
use Rattle.mt_disk.specs.declared.disk.FileNo.TheVariants.{Head, One, Two}
use Rattle.mt_disk.specs.Files.{Files, contents, with_contents}
use Rattle.mt_disk.specs.CrashModel.{Torn, MaybeCut, OnFile}
use Rattle.mt_disk.specs.Calls.{DiskCall, Wrote, TriedWrite, WasCut, TriedCut, Synced, after_call, seen_after, Leaves, Left, LeftSince}

-- what a crash now may leave counts among what one since an earlier moment might have left
pub left_now : (base : Files) (past : List DiskCall) (t : ℕ) (c : Files) → Left base past c → LeftSince base past t c
left_now base [] t c left = left
left_now base (call ∷ past) t c left = inl left

-- since this moment there is no other
pub left_only : (base : Files) (past : List DiskCall) (c : Files) → LeftSince base past (length past) c → Left base past c
left_only base [] c left = left
left_only base (call ∷ past) c (inl left) = left
left_only base (call ∷ past) c (inr earlier) = absurd (not-suc-le_self (length past) earlier.0)

stays : (files : Files) (file : FileNo) → files ≡ with_contents files file (contents files file)
stays files Head = refl
stays files One = refl
stays files Two = refl

changes : (files : Files) (file : FileNo) (b : List ℕ) → contents (with_contents files file b) file ≡ b
changes files Head b = refl
changes files One b = refl
changes files Two b = refl

-- a write may have done nothing
torn_none : (at n : ℕ) (files : Files) (file : FileNo) → OnFile file (Torn at n) files files
torn_none at n files file = record {
  stepped = record { before = take_min at (contents files file); after = refl; no_shorter = le_refl (length (contents files file)); no_longer = le-max_left (length (contents files file)) (at + n) };
  others = stays files file;
}

cut_done : (files : Files) (file : FileNo) (to : ℕ) → OnFile file (MaybeCut to) files (with_contents files file (take to (contents files file)))
cut_done files file to = record {
  stepped = inr (changes files file _);
  others = ap (λ b. with_contents files file b) (sym (changes files file _));
}

-- a call that is done, over an image that is what a read gives
pub done_leaves : (call : DiskCall) (files : Files) → Leaves call files files (after_call call files)
done_leaves (Wrote file at bytes) files = inr (refl, refl)
done_leaves (TriedWrite file at bytes) files = torn_none at (length bytes) files file
done_leaves (WasCut file to) files = cut_done files file to
done_leaves (TriedCut file to) files = record { stepped = inl refl; others = stays files file }
done_leaves (Synced file) files = (refl, refl)

seen_left_at : (base : Files) (past : List DiskCall) → Left base past (seen_after base past)
seen_left_at base [] = refl
seen_left_at base (call ∷ past) = (seen_after base past, seen_left_at base past, done_leaves call (seen_after base past))

-- what a read gives is one of the images
pub seen_left : (base : Files) (past : List DiskCall) (files : Files) → Some (seen_after base past) ≡ Some files → Left base past files
seen_left base past files is = subst (λ f. Left base past f) (same_Some _ _ is) (seen_left_at base past)
