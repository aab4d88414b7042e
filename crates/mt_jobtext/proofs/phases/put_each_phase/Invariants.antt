use Rattle.std.proofs.Common.{false, map, take}
use Rattle.serde_json.specs.Written.{compact_text}
use Rattle.mt_jobdoc.specs.Printed.{phase_data}
use Rattle.mt_jobtext.specs.Members.{listed}
use Rattle.mt_jobtext.specs.Windows.{Puts}
use Rattle.mt_jobtext.proofs.phases.put_each_phase.Given as goal

abbrev pub invariant-loop-k : goal.invariant-loop-k
invariant-loop-k l = Puts (listed false (map (λ p. compact_text (phase_data l.login p)) (take l.k l.phases))) l.initial.window l.window
