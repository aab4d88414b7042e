use Rattle.std.proofs.Common.{◌≡◌, map, take}
use Rattle.serde_json.specs.View.{view}
use Rattle.mt_certline.specs.Written.{item_data}
use Rattle.mt_certline.proofs.writing.item_values.Given as goal

abbrev pub invariant-loop-item : goal.invariant-loop-item
invariant-loop-item l = map view l.out.items ≡ map (item_data l.login) (take l.item-index l.items)
