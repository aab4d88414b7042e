use Rattle.std.proofs.Common.{◌≡◌, ◌++◌, drop}
use Rattle.std.specs.List.{filter_map}
use Rattle.std.specs.Option.{option_map}
use Rattle.mt_model.specs.JobSteps.{bodies_of}
use Rattle.mt_model.specs.Rows.{object_at}
use Rattle.mt_jobs.proofs.making.phase_bodies.Given as goal

abbrev pub invariant-loop-name : goal.invariant-loop-name
invariant-loop-name g l = l.bodies.items ++ filter_map (λ name. option_map (λ o. o.body) (object_at l.tree name)) (drop l.name-index l.phase.assets) ≡ bodies_of l.tree l.phase
