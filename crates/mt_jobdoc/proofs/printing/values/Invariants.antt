use Rattle.std.proofs.Common.{◌≡◌, map, take}
use Rattle.serde_json.specs.View.{view}
use Rattle.mt_jobdoc.specs.Printed.{phase_data}
use Rattle.mt_jobdoc.proofs.printing.values.Given as goal

abbrev pub invariant-loop-phase : goal.invariant-loop-phase
invariant-loop-phase l = map view l.out.items ≡ map (phase_data l.login) (take l.phase-index l.phases)
