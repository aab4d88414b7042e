-- Those so far fit.
use Rattle.std.proofs.Common.{true, take}
use Rattle.std.specs.List.{AllByRecursion}
use Rattle.mt_codec.specs.Spelling.{FitsLine}
use Rattle.mt_account.proofs.spelled.lines_fit.Given as goal

abbrev pub invariant-loop-line : goal.invariant-loop-line
invariant-loop-line l = AllByRecursion (FitsLine true) (take l.line-index l.lines)
