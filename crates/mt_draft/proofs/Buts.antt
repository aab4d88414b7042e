-- All but one file stays.
use Rattle.std.proofs.Common.{◌≡◌, ℕ, List, sym, ap, ◌∙◌}
use Rattle.mt_disk.specs.declared.disk.FileNo.{FileNo}
use Rattle.mt_disk.specs.Files.{Files, contents, with_contents}
use Rattle.mt_disk.specs.CrashModel.{Elapses, Follows, LeavesOnly, OnFile}
use Rattle.mt_disk.proofs.FileLemmas.{contents-with, with-contents, with-with}
use Rattle.mt_disk.proofs.Moments.{begun, keeps}
use Rattle.mt_draft.specs.Drafts.{KeepsBut}

pub but_self : (file : FileNo) (files : Files) → KeepsBut file files files
but_self file files = sym (with-contents files file)

pub but_changed : (file : FileNo) (files : Files) (bytes : List ℕ) → KeepsBut file files (with_contents files file bytes)
but_changed file files bytes = ap (with_contents files file) (sym (contents-with files file bytes))

-- a step of the file keeps the others
pub but_step : (file : FileNo) (step : List ℕ → List ℕ → Type 0) (files d c : Files) → KeepsBut file files d → OnFile file step d c → KeepsBut file files c
but_step file step files d c kept on = on.others ∙ ap (λ x. with_contents x file (contents c file)) kept ∙ with-with files file (contents d file) (contents c file)

-- files of which each keeps the others
pub but_swap : (file : FileNo) (files now c : Files) → KeepsBut file files now → KeepsBut file files c → KeepsBut file now c
but_swap file files now c kept same =
    same ∙ (sym (with-with files file (contents now file) (contents c file)) ∙ ap (λ x. with_contents x file (contents c file)) (sym kept))

pub but_on : (file : FileNo) (files now c : Files) → KeepsBut file files now → KeepsBut file now c → KeepsBut file files c
but_on file files now c kept same = same ∙ ap (λ x. with_contents x file (contents c file)) kept ∙ with-with files file (contents now file) (contents c file)

-- and the file has the same bytes too
pub but_same : (file : FileNo) (files now c : Files) → KeepsBut file files now → KeepsBut file files c → contents c file ≡ contents now file → c ≡ now
but_same file files now c kept same is = same ∙ ap (with_contents files file) is ∙ sym kept

module _ {D : Type 0} (moment : D → ℕ) (left_since : D → ℕ → Files → Type 0) (may_leave : D → Files → Type 0) where
  -- one call that changes the file
  pub but_called : (old new : D) (file : FileNo) (step : List ℕ → List ℕ → Type 0) (files : Files) → ((c : Files) → left_since old (moment old) c → may_leave old c) → ((c : Files) → may_leave old c → KeepsBut file files c)
      → Follows (OnFile file step) (may_leave old) (may_leave new) → Elapses (moment old) (moment new) (left_since old) (left_since new) (may_leave new)
      → LeavesOnly moment left_since old new (KeepsBut file files)
  but_called old new file step files only_now here follows time =
      (keeps moment left_since may_leave old old new (KeepsBut file files) (OnFile file step)
      (begun moment left_since may_leave old (KeepsBut file files) (KeepsBut file files) only_now here (λ c p. p)) follows time (λ d c p s. but_step file step files d c p s)).run

  -- no call
  pub but_idle : (old : D) (file : FileNo) (files : Files) → ((c : Files) → left_since old (moment old) c → may_leave old c) → ((c : Files) → may_leave old c → KeepsBut file files c)
      → LeavesOnly moment left_since old old (KeepsBut file files)
  but_idle old file files only_now here = (begun moment left_since may_leave old (KeepsBut file files) (KeepsBut file files) only_now here (λ c p. p)).run
