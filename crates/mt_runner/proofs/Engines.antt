-- An engine over a disk that was only read.
use Rattle.std.proofs.Common.{◌≡◌, ◌∙◌, ℕ, List, Option, Some, None, refl, sym, ap, subst}
use Rattle.std.specs.Option.{ForSome}
use Rattle.mt_disk.specs.CrashModel.{OnlyRead}
use Rattle.mt_disk.specs.Files.{Files}
use Rattle.mt_log.specs.LogState.{Stands}
use Rattle.mt_opening.specs.Current.{EngineIsReady, EngineState, Serves}

module _ {D : Type 0} (seen : D → Option Files) (may_leave : D → Files → Type 0) (moment : D → ℕ) (left_since : D → ℕ → Files → Type 0) where
  pub stands_on : (old new : D) (engine : EngineState) → OnlyRead seen may_leave moment left_since old new → Stands seen may_leave old engine.log → Stands seen may_leave new engine.log
  stands_on old new engine read stands is_open files is =
      let was = stands is_open files (sym read.seen_same ∙ is) in
      ((λ c left. was.0 c (read.images.none_more c left)), was.1)

  pub ready_on : (old new : D) (engine : EngineState) → OnlyRead seen may_leave moment left_since old new → EngineIsReady seen may_leave old engine → EngineIsReady seen may_leave new engine
  ready_on old new engine read r = record {
    stands = stands_on old new engine read r.stands;
    is_open = r.is_open;
    version = r.version;
    serves = subst (λ (o : Option Files). Serves o engine) (sym read.seen_same) r.serves;
  }
