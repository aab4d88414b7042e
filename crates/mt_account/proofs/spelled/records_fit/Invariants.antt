-- Those so far fit.
use Rattle.std.proofs.Common.{true, take}
use Rattle.std.specs.List.{AllByRecursion}
use Rattle.mt_codec.specs.Spelling.{FitsRecord}
use Rattle.mt_account.proofs.spelled.records_fit.Given as goal

abbrev pub invariant-loop-record : goal.invariant-loop-record
invariant-loop-record l = AllByRecursion (FitsRecord true) (take l.record-index l.records)
