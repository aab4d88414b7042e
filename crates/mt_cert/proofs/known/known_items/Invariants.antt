use Rattle.std.proofs.Common.{◌≡◌, map, take}
use Rattle.mt_types.specs.Values.{item_with}
use Rattle.mt_cert.specs.Certifying.{sum_of_body}
use Rattle.mt_cert.proofs.known.known_items.Given as goal

abbrev pub invariant-loop-item : goal.invariant-loop-item
invariant-loop-item l = l.known.items ≡ map (item_with sum_of_body) (take l.item-index l.items)
