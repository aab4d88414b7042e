use Rattle.std.proofs.Common.{◌≡◌, rules, ap, sym, ◌∙◌}
use Rattle.std.specs.Ordering.{nat_cmp, ordering_then}
use Rattle.std.specs.declared.cmp.Ordering.TheVariants.{Equal}
use Rattle.mt_path.specs.AccountPath.{area_number}
use Rattle.mt_path.proofs.Keys.{keys_order, parts_cmp}
use Rattle.mt_path.proofs.order.PathOrd.cmp.Goals as goal

pub returns-in-Equal : goal.returns-in-Equal
returns-in-Equal c =
    let rest : c.cmp-in-Equal.result ≡ parts_cmp c.args.self.now.parts c.args.other.now.parts =
    c.cmp-in-Equal.ensures ∙ keys_order c.key.result.now c.key-in-Equal.result.now c.key.ensures.key c.key-in-Equal.ensures.key ∙ (λ i. parts_cmp (c.key.ensures.parts i) (c.key-in-Equal.ensures.parts i)) in
    let tied : nat_cmp (area_number c.args.self.now.area) (area_number c.args.other.now.area) ≡ Equal = search rules in
    rest ∙ sym (ap (λ r. ordering_then r (parts_cmp c.args.self.now.parts c.args.other.now.parts)) tied)
