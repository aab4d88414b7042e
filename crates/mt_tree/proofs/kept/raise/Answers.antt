use Rattle.std.proofs.Common.{◌<◌, ◌^◌, sym, ap, subst, arith}
use Rattle.std.specs.Prelude.{IfSome}
use Rattle.mt_tree.specs.AreaRows.{raised}
use Rattle.mt_tree.proofs.Boxed.{opened-row, untouched-opened, written-opened}
use Rattle.mt_tree.proofs.kept.raise.Goals as goal

pub overflow_add-rows : goal.overflow_add-rows
overflow_add-rows g c =
    let few : c.in-Some.row.now.value.children < 2 ^ 63 = subst (λ o. IfSome o (λ row. row.children < 2 ^ 63)) (sym (opened-row c.args.key.now c.requires.key c.args.rows.now.entries c.requires.keys c.in-Some.row.now c.in-Some.ensures.value)) c.requires.few in
    omega (arith, few, ap (λ row. row.children) c.deref_mut.ensures.value)

pub returns-in-Some-clause-raised : goal.returns-in-Some-clause-raised
returns-in-Some-clause-raised g c = (written-opened c.args.key.now c.requires.key c.args.rows.now.entries c.requires.keys raised c.in-Some.row.now c.deref_mut.result.now c.in-Some.ensures.value c.deref_mut.ensures.value _ (c.get_mut.follows.holds _).0).0

pub returns-in_default-clause-raised : goal.returns-in_default-clause-raised
returns-in_default-clause-raised g c = untouched-opened c.args.key.now c.requires.key c.args.rows.now.entries c.requires.keys raised c.in_default.ensures.value _ (ap (λ m. m.entries) c.get_mut.follows.holds-at-none)
