use Rattle.mt_path.specs.PathOrder.{path_cmp_total}
use Rattle.mt_path.proofs.Orders.{eq-exact, path_cmp-exact, path_cmp-under}
use Rattle.mt_path.proofs.laws.order_is_exact.Goals as goal

pub returns : goal.returns
returns c = record { total = path_cmp_total; equal = path_cmp-exact; same = eq-exact; above = path_cmp-under }
