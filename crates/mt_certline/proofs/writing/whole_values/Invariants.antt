use Rattle.std.proofs.Common.{◌≡◌, map, take}
use Rattle.serde_json.specs.View.{view}
use Rattle.mt_certline.specs.Written.{whole}
use Rattle.mt_certline.proofs.writing.whole_values.Given as goal

abbrev pub invariant-loop-number : goal.invariant-loop-number
invariant-loop-number l = map view l.out.items ≡ map whole (take l.number-index l.numbers)
