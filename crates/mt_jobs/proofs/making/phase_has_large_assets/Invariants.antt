use Rattle.std.proofs.Common.{◌≡◌, ◌+◌, ◌≤◌, drop}
use Rattle.std.specs.List.{filter_map, sum_by}
use Rattle.std.specs.Option.{option_map}
use Rattle.mt_model.specs.JobSteps.{bodies_of}
use Rattle.mt_model.specs.Rows.{object_at}
use Rattle.mt_jobs.proofs.making.phase_has_large_assets.Given as goal

abbrev pub invariant-loop-name : goal.invariant-loop-name
invariant-loop-name l = record {
  most : l.total ≤ 16777216;
  sum : l.total + sum_by (λ b. b.len) (filter_map (λ name. option_map (λ o. o.body) (object_at l.tree name)) (drop l.name-index l.phase.assets)) ≡ sum_by (λ b. b.len) (bodies_of l.tree l.phase);
}
