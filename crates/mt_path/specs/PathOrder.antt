-- The order of paths, and the law that an order has to keep.
use Rattle.std.specs.Cmp.{IsTotalOrder, nat_cmp_total, on_total, then_total}
use Rattle.std.specs.Cmp.Lexicographic.{lists_total, nat_list_cmp_total, slice_cmp}
use Rattle.std.specs.Ordering.{nat_cmp, on, then_cmp}
use Rattle.std.specs.declared.cmp.Ordering.{Ordering}
use Rattle.mt_path.specs.AccountPath.{AccountPath, area_number}

-- by area, and then component by component, each by its bytes; a path stands before those below it
abbrev pub path_cmp : AccountPath → AccountPath → Ordering
path_cmp = then_cmp (on (λ p. area_number p.area) nat_cmp) (on (λ p. p.parts) (slice_cmp (slice_cmp nat_cmp)))

-- each two paths compare, and comparing is transitive
pub path_cmp_total : IsTotalOrder path_cmp
path_cmp_total = then_total (on_total (λ p. area_number p.area) nat_cmp_total) (on_total (λ p. p.parts) (lists_total nat_list_cmp_total))
