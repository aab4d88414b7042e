use Rattle.mt_tree.proofs.Boxed.{removed-opened}
use Rattle.mt_tree.proofs.kept.remove_row.Goals as goal

pub returns-clause-rows : goal.returns-clause-rows
returns-clause-rows g c = (removed-opened c.args.key.now c.requires.key c.args.rows.now.entries c.requires.keys _ c.remove.ensures.entries).0

pub returns-clause-keys : goal.returns-clause-keys
returns-clause-keys g c = (removed-opened c.args.key.now c.requires.key c.args.rows.now.entries c.requires.keys _ c.remove.ensures.entries).1
