-- The lines so far are well made.
use Rattle.std.specs.List.{AllByRecursion}
use Rattle.mt_types.specs.WellMade.{IsWellMadeLine}
use Rattle.jobs_rows.proofs.words.many_lines.Given as goal

abbrev pub invariant-loop : goal.invariant-loop
invariant-loop l = AllByRecursion IsWellMadeLine l.lines.items
