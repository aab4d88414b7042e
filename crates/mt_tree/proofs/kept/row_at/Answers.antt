use Rattle.std.proofs.Common.{Some, ap, ◌∙◌}
use Rattle.mt_tree.proofs.Boxed.{opened-none, opened-row}
use Rattle.mt_tree.proofs.kept.row_at.Goals as goal

pub returns-in-Some : goal.returns-in-Some
returns-in-Some g c = ap Some c.deref.ensures ∙ opened-row c.args.key.now c.requires.key c.args.rows.now.entries c.requires.keys c.in-Some.row.now c.in-Some.ensures.value

pub returns-in-None : goal.returns-in-None
returns-in-None g c = opened-none c.args.key.now c.requires.key c.args.rows.now.entries c.requires.keys c.in-None.ensures.value
