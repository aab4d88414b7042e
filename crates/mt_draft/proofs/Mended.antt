-- Head is made to name the file of the log.
use Rattle.std.proofs.Common.{◌≡◌, ℕ, Option, Some, refl, sym, ap, subst, ◌∙◌, option_map}
use Rattle.mt_disk.specs.declared.disk.FileNo.{FileNo}
use Rattle.mt_disk.specs.declared.disk.FileNo.TheVariants.{One}
use Rattle.mt_disk.specs.Files.{Files}
use Rattle.mt_disk.specs.declared.disk.FileNo.TheVariants.{Head}
use Rattle.mt_disk.specs.CrashModel.{IsAtRest, LeavesOnly, Only, OnlyRead}
use Rattle.mt_disk.proofs.Moments.{joins, started}
use Rattle.mt_disk.proofs.Readings.{reads_leave}
use Rattle.mt_log.specs.LogImage.{SameLog, chosen_file}
use Rattle.mt_log.specs.Stage.{IsMissing, IsNaming}
use Rattle.mt_log.proofs.Appended.{chosen_fit}
use Rattle.mt_draft.specs.Drafts.{IsFirm}
use Rattle.mt_draft.specs.Steps.{IsMended, with_named}
use Rattle.mt_draft.proofs.Buts.{but_self}
use Rattle.mt_draft.proofs.Named.{missing_log}

pub same_self : (files : Files) (file : FileNo) → chosen_file files ≡ Some file → SameLog files files
same_self files file chosen = record { same = λ any. refl; fit = chosen_fit files file chosen }

pub rest_same : (files : Files) (file : FileNo) (may_leave : Files → Type 0) → chosen_file files ≡ Some file → Only files may_leave → (c : Files) → may_leave c → SameLog files c
rest_same files file may_leave chosen rest c left = subst (λ f. SameLog files f) (sym (rest c left)) (same_self files file chosen)

module _ {D : Type 0} (seen : D → Option Files) (may_leave : D → Files → Type 0) (moment : D → ℕ) (left_since : D → ℕ → Files → Type 0) where
  -- nothing was to be mended
  pub mended_none : (disk : D) (files : Files) (file : FileNo) → seen disk ≡ Some files → Only files (may_leave disk) → chosen_file files ≡ Some file → IsFirm files file → IsMended seen may_leave disk files file
  mended_none disk files file is rest chosen firm = record { now = files; seen_is = is; durable = rest; others = but_self Head files; is_chosen = chosen; firm = firm }

  pub rest_read : (old new : D) (files : Files) → OnlyRead seen may_leave moment left_since old new → Only files (may_leave old) → Only files (may_leave new)
  rest_read old new files read rest c left = rest c (read.images.none_more c left)

  -- One is named
  pub mended_one : (mid new : D) (files : Files) → seen mid ≡ Some files → seen new ≡ option_map (with_named 1) (seen mid) → IsAtRest seen may_leave new → IsMended seen may_leave new files One
  mended_one mid new files is named rest =
      let now = with_named 1 files in
      let now_is : seen new ≡ Some now = named ∙ ap (option_map (with_named 1)) is in
      record { now = now; seen_is = now_is; durable = rest now now_is; others = refl; is_chosen = refl; firm = λ one two. refl }

  -- a disk at rest, of which nothing was asked, and one that was only read
  pub rest_started : (disk : D) (files : Files) (file : FileNo) → ((c : Files) → left_since disk (moment disk) c → may_leave disk c) → Only files (may_leave disk) → chosen_file files ≡ Some file
      → LeavesOnly moment left_since disk disk (SameLog files)
  rest_started disk files file only_now rest chosen = started moment left_since disk (SameLog files) (λ c left. rest_same files file (may_leave disk) chosen rest c (only_now c left))

  pub rest_leaves : (old new : D) (files : Files) (file : FileNo) → OnlyRead seen may_leave moment left_since old new → ((c : Files) → left_since old (moment old) c → may_leave old c) → Only files (may_leave old) → chosen_file files ≡ Some file
      → LeavesOnly moment left_since old new (SameLog files)
  rest_leaves old new files file read only_now rest chosen = reads_leave seen may_leave moment left_since old new (SameLog files) read only_now (rest_same files file (may_leave old) chosen rest)

  -- and then Head was written
  pub naming_leaves : (old mid new : D) (files : Files) (file : FileNo) → OnlyRead seen may_leave moment left_since old mid → ((c : Files) → left_since old (moment old) c → may_leave old c) → Only files (may_leave old) → chosen_file files ≡ Some file
      → IsMissing files → LeavesOnly moment left_since mid new (IsNaming files) → LeavesOnly moment left_since old new (SameLog files)
  naming_leaves old mid new files file read only_now rest chosen missing naming =
      joins moment left_since old mid new (SameLog files) (IsNaming files) (SameLog files) (rest_leaves old mid files file read only_now rest chosen) naming (λ c same. same) (missing_log files missing)
