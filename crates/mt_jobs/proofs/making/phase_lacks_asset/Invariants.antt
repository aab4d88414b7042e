use Rattle.std.proofs.Common.{◌≡◌, drop, not}
use Rattle.std.specs.List.{list_any}
use Rattle.mt_model.specs.JobSteps.{lacks_asset}
use Rattle.mt_model.specs.Resolve.{is_object_at}
use Rattle.mt_jobs.proofs.making.phase_lacks_asset.Given as goal

abbrev pub invariant-loop-name : goal.invariant-loop-name
invariant-loop-name g l = list_any (λ name. not (is_object_at l.tree name)) (drop l.name-index l.phase.assets) ≡ lacks_asset l.tree l.phase
