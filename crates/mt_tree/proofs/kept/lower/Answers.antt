use Rattle.std.proofs.Common.{◌<◌, sym, ap, subst, arith}
use Rattle.std.specs.Prelude.{IfSome}
use Rattle.mt_tree.specs.AreaRows.{lowered}
use Rattle.mt_tree.proofs.Boxed.{opened-row, untouched-opened, written-opened}
use Rattle.mt_tree.proofs.kept.lower.Goals as goal

pub overflow_sub-rows : goal.overflow_sub-rows
overflow_sub-rows g c =
    let some : 0 < c.in-Some.row.now.value.children = subst (λ o. IfSome o (λ row. 0 < row.children)) (sym (opened-row c.args.key.now c.requires.key c.args.rows.now.entries c.requires.keys c.in-Some.row.now c.in-Some.ensures.value)) c.requires.counted in
    omega (arith, some, ap (λ row. row.children) c.deref_mut.ensures.value)

pub returns-in-Some-clause-lowered : goal.returns-in-Some-clause-lowered
returns-in-Some-clause-lowered g c = (written-opened c.args.key.now c.requires.key c.args.rows.now.entries c.requires.keys lowered c.in-Some.row.now c.deref_mut.result.now c.in-Some.ensures.value c.deref_mut.ensures.value _ (c.get_mut.follows.holds _).0).0

pub returns-in_default-clause-lowered : goal.returns-in_default-clause-lowered
returns-in_default-clause-lowered g c = untouched-opened c.args.key.now c.requires.key c.args.rows.now.entries c.requires.keys lowered c.in_default.ensures.value _ (ap (λ m. m.entries) c.get_mut.follows.holds-at-none)
