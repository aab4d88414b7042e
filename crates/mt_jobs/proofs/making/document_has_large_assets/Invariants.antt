use Rattle.std.proofs.Common.{◌≡◌, drop}
use Rattle.std.specs.List.{list_any}
use Rattle.mt_model.specs.JobSteps.{has_large_assets}
use Rattle.mt_jobs.proofs.making.document_has_large_assets.Given as goal

abbrev pub invariant-loop-phase : goal.invariant-loop-phase
invariant-loop-phase l = list_any (has_large_assets (λ b. b.len) l.tree) (drop l.phase-index l.phases) ≡ list_any (has_large_assets (λ b. b.len) l.tree) l.phases
