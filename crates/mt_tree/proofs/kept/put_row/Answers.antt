use Rattle.std.proofs.Common.{sym, ap, subst, ◌∙◌}
use Rattle.mt_tree.specs.Keys.{AreKeys, opened}
use Rattle.mt_tree.proofs.Boxed.{opened-old}
use Rattle.mt_tree.proofs.Keys.{insert-opened, keys-insert, opened-keys}
use Rattle.mt_tree.proofs.kept.put_row.Goals as goal

pub returns-in-Ok-clause-ok : goal.returns-in-Ok-clause-ok
returns-in-Ok-clause-ok g c = ap opened c.in-Ok.ensures.entries ∙ insert-opened c.args.key c.requires.key c.args.row c.args.rows.now.entries c.requires.keys

pub returns-in-Ok-clause-old : goal.returns-in-Ok-clause-old
returns-in-Ok-clause-old g c = opened-old c.args.key.items c.requires.key c.args.rows.now.entries c.requires.keys c.in-Ok.old c.in-Ok.ensures.old

pub returns-in-Ok-clause-same_keys : goal.returns-in-Ok-clause-same_keys
returns-in-Ok-clause-same_keys g c = λ some. opened-keys _ _ (c.in-Ok.ensures.keys_stay some)

pub returns-in-Ok-clause-keys : goal.returns-in-Ok-clause-keys
returns-in-Ok-clause-keys g c = subst AreKeys (sym c.in-Ok.ensures.entries) (keys-insert c.args.key c.requires.key c.args.row c.args.rows.now.entries c.requires.keys)
