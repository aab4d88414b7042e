-- Over a disk that tells nothing, a runner whose children are those that live is at work.
use Rattle.std.proofs.Common.{◌≡◌, ℕ, List, Option, None}
use Rattle.std.proofs.lemmas.Option.{none-some}
use Rattle.mt_types.specs.declared.task.Raw.{Raw}
use Rattle.mt_types.specs.declared.task.Run.{Run}
use Rattle.mt_spawn.specs.Children.{Seen}
use Rattle.mt_spawn.specs.declared.task.Left.{Left}
use Rattle.mt_opening.specs.Current.{EngineState}
use Rattle.mt_runner.specs.Attempts.{ArePaired, RunnerState}
use Rattle.mt_runner.specs.AtWork.{AtWork}

pub untold_work : {F : Type 0} (may : F → Raw → Type 0) (runs : Run → List ℕ → Raw → Type 0) (seen : Seen F) (held : Option Left) (runner : RunnerState) (engine : EngineState)
    → ArePaired runner.kept seen.live → held ≡ None → AtWork may runs seen held runner None engine
untold_work may runs seen held runner engine paired free = record { paired = paired; free = free; right = λ base h is. absurd (none-some _ is.is_read.seen_is) }
