use Rattle.std.proofs.Common.{refl}
use Rattle.mt_spawn.proofs.Seen.{added_as}
use Rattle.mt_spawn.proofs.children.Children.add.Goals as goal

pub returns-clause-ok : goal.returns-clause-ok
returns-clause-ok c = added_as _ _ record { ticket = c.args.self.now.next; order = c.args.order; bytes = c.args.bytes; due = c.args.due; otherwise = c.args.otherwise; waits = 0 } c.args.self.now.below c.in-Ok.ensures.items refl
