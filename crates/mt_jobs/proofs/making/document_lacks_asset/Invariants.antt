use Rattle.std.proofs.Common.{◌≡◌, drop}
use Rattle.std.specs.List.{list_any}
use Rattle.mt_model.specs.JobSteps.{lacks_asset}
use Rattle.mt_jobs.proofs.making.document_lacks_asset.Given as goal

abbrev pub invariant-loop-phase : goal.invariant-loop-phase
invariant-loop-phase g l = list_any (lacks_asset l.tree) (drop l.phase-index l.phases) ≡ list_any (lacks_asset l.tree) l.phases
