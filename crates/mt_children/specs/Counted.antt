-- The count of faults after a call: one more exactly where the call fails.
use Rattle.std.specs.Prelude.{ℕ}
use Rattle.mt_adapters.specs.Device.{one_more}
use Rattle.mt_spawn.specs.declared.spool.SpoolStep.{SpoolStep}
use Rattle.mt_spawn.specs.declared.spool.SpoolStep.TheVariants as step

abbrev pub faults_after_making : ℕ → SpoolStep → ℕ
faults_after_making faults step.Done = faults
faults_after_making faults step.Taken = faults
faults_after_making faults step.Failed = one_more faults
