use Rattle.std.proofs.Common.{◌≡◌, map, take}
use Rattle.std.specs.List.{zip}
use Rattle.mt_phase.specs.Orders.{asset_size}
use Rattle.mt_phase.proofs.orders.sizes.Given as goal

abbrev pub invariant-loop-k : goal.invariant-loop-k
invariant-loop-k l = l.sizes.items ≡ map (asset_size (λ b. b.len) l.login) (take l.k (zip l.names l.bodies))
