use Rattle.std.proofs.Common.{◌≡◌, ◌++◌, map, drop, option_map}
use Rattle.serde_json.specs.View.{view}
use Rattle.mt_certline.specs.Read.{each, item_in}
use Rattle.mt_certline.proofs.tasks.items.Given as goal

-- the items so far, and those of the rest
abbrev pub invariant-loop-value : goal.invariant-loop-value
invariant-loop-value l = option_map (λ is. l.items.items ++ is) (each (item_in l.login) (map view (drop l.value-index l.values))) ≡ each (item_in l.login) (map view l.values)
