-- A disk at rest to which nothing is done.
use Rattle.std.proofs.Common.{ℕ, Option, refl, sym, subst}
use Rattle.std.specs.Option.{ForSome}
use Rattle.mt_disk.specs.CrashModel.{IsAtRest, LeavesOnly}
use Rattle.mt_disk.specs.Files.{Files}
use Rattle.mt_disk.proofs.Moments.{started}
use Rattle.mt_log.specs.LogImage.{Fit, SameLog}

module _ {D : Type 0} (seen : D → Option Files) (may_leave : D → Files → Type 0) (moment : D → ℕ) (left_since : D → ℕ → Files → Type 0) (disk : D) (rest : IsAtRest seen may_leave disk)
    (only_now : (c : Files) → left_since disk (moment disk) c → may_leave disk c) where
  -- each image has the same log
  pub rest_same : ForSome (seen disk) Fit → ForSome (seen disk) (λ files. LeavesOnly moment left_since disk disk (SameLog files))
  rest_same fit files is = started moment left_since disk (SameLog files) (λ c left. subst (λ (x : Files). SameLog files x) (sym (rest files is c (only_now c left))) (record { same = λ any. refl; fit = fit files is }))
