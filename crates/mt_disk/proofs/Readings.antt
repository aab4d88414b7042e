-- How a run of calls goes on that only read.
use Rattle.std.proofs.Common.{inl, inr, ⊎_elim, ℕ, refl, ◌∙◌, arith, Option}
use Rattle.mt_disk.specs.Files.{Files}
use Rattle.mt_disk.specs.CrashModel.{LeavesOnly, OnlyRead}

module _ {D : Type 0} (seen : D → Option Files) (may_leave : D → Files → Type 0) (moment : D → ℕ) (left_since : D → ℕ → Files → Type 0) where
  -- before the first call
  pub reads_none : (disk : D) → OnlyRead seen may_leave moment left_since disk disk
  reads_none disk = record {
    seen_same = refl;
    images = record { none_more = λ c left. left; none_less = λ c left. left };
    time = record { later = omega arith; nothing_else = λ t c le left. inl left; keeps = λ t c le left. left };
  }

  -- one run after another
  pub reads_on : (old mid new : D) → OnlyRead seen may_leave moment left_since old mid → OnlyRead seen may_leave moment left_since mid new → OnlyRead seen may_leave moment left_since old new
  reads_on old mid new first second = record {
    seen_same = second.seen_same ∙ first.seen_same;
    images = record {
      none_more = λ c left. first.images.none_more c (second.images.none_more c left);
      none_less = λ c left. second.images.none_less c (first.images.none_less c left);
    };
    time = record {
      later = omega (arith, first.time.later, second.time.later);
      nothing_else = λ t c le left. ⊎_elim
          (λ past. ⊎_elim (λ was. inl was) (λ now. inr (second.images.none_less c now)) (first.time.nothing_else t c le past))
          (λ now. inr now) (second.time.nothing_else t c (omega (arith, le, first.time.later)) left);
      keeps = λ t c le left. second.time.keeps t c (omega (arith, le, first.time.later)) (first.time.keeps t c le left);
    };
  }

  -- a crash at any moment of it leaves what one before might have left
  pub reads_leave : (old new : D) (P : Files → Type 0) → OnlyRead seen may_leave moment left_since old new → ((c : Files) → left_since old (moment old) c → may_leave old c) → ((c : Files) → may_leave old c → P c)
      → LeavesOnly moment left_since old new P
  reads_leave old new P run only_now here = record {
    later = run.time.later;
    each = λ c left. here c (⊎_elim (λ past. only_now c past) (λ now. run.images.none_more c now) (run.time.nothing_else (moment old) c (omega arith) left));
    before = λ t c le left. ⊎_elim (λ past. inl past) (λ now. inr (here c (run.images.none_more c now))) (run.time.nothing_else t c le left);
  }
