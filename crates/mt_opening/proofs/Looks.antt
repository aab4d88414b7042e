-- Reading leaves a log where it is, and what comes only with an error.
use Rattle.std.proofs.Common.{◌≡◌, false, true≢false, Option, Result, Ok, Err, sym, subst}
use Rattle.std.specs.Prelude.{IsErr, OnErr}
use Rattle.std.specs.Option.{ForSome}
use Rattle.mt_disk.specs.Files.{Files}
use Rattle.mt_log.specs.LogImage.{IsLogOf}
use Rattle.mt_log.specs.LogState.{IsThere, LogState}

pub there_on : {D : Type 0} (seen : D → Option Files) (old new : D) (log : LogState) → seen new ≡ seen old → IsThere seen old log → IsThere seen new log
there_on seen old new log same there = subst (λ (f : Option Files). log.closed ≡ false → ForSome f (λ files. IsLogOf files log.file log.gate log.is_old)) (sym same) there

-- what holds on an error holds where there is one
pub where_failed : {T E P : Type 0} (r : Result T E) → OnErr r P → IsErr r → P
where_failed (Ok x) holds failed = absurd (true≢false (sym failed))
where_failed (Err e) holds failed = holds
