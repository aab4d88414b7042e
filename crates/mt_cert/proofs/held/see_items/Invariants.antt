use Rattle.std.proofs.Common.{take}
use Rattle.mt_cert.specs.Seen.{AreSums}
use Rattle.mt_cert.proofs.held.see_items.Given as goal

abbrev pub invariant-loop-item : goal.invariant-loop-item
invariant-loop-item l = AreSums (take l.item-index l.items)
