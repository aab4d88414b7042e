-- Those so far fit.
use Rattle.std.proofs.Common.{true, take}
use Rattle.std.specs.List.{AllByRecursion}
use Rattle.mt_codec.specs.Spelling.{FitsPath}
use Rattle.mt_account.proofs.spelled.paths_fit.Given as goal

abbrev pub invariant-loop-path : goal.invariant-loop-path
invariant-loop-path l = AllByRecursion (FitsPath true) (take l.path-index l.paths)
