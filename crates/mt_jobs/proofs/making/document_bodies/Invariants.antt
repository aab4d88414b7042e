use Rattle.std.proofs.Common.{◌≡◌, map, take}
use Rattle.mt_model.specs.JobSteps.{bodies_of}
use Rattle.mt_jobs.proofs.making.document_bodies.Given as goal

abbrev pub invariant-loop-phase : goal.invariant-loop-phase
invariant-loop-phase g l = l.all.items ≡ map (bodies_of l.tree) (take l.phase-index l.phases)
