use Rattle.std.proofs.Common.{◌≡◌, min, take}
use Rattle.std.specs.List.{sum_by}
use Rattle.mt_upload.proofs.parts.front_len.Given as goal

abbrev pub invariant-loop-part : goal.invariant-loop-part
invariant-loop-part l = l.total ≡ min 18446744073709551615 (sum_by (λ p. p.body.len) (take l.part-index l.front))
