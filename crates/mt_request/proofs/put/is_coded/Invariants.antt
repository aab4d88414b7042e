use Rattle.std.proofs.Common.{◌≡◌, drop}
use Rattle.std.specs.List.{list_any}
use Rattle.mt_request.specs.Puts.{is_coding}
use Rattle.mt_request.proofs.put.is_coded.Given as goal

abbrev pub invariant-loop-field : goal.invariant-loop-field
invariant-loop-field l = list_any is_coding (drop l.field-index l.fields) ≡ list_any is_coding l.fields
