-- The number of each end of a drill.
use Rattle.std.specs.Prelude.{ℕ}
use Rattle.mt_drill.specs.declared.end.DrillEnd.{DrillEnd}
use Rattle.mt_drill.specs.declared.end.DrillEnd.TheVariants as ended

abbrev pub code_of_drill : DrillEnd → ℕ
code_of_drill ended.Done = 0
code_of_drill ended.Unreadable = 2
code_of_drill ended.SinkFault = 4
code_of_drill ended.DiskFault = 5
code_of_drill ended.NotEmpty = 14
code_of_drill ended.Memory = 8
