use Rattle.mt_children.proofs.Live.{is_fresh}
use Rattle.mt_children.proofs.running.Children.pass.Goals as goal

pub returns-clause-fresh : goal.returns-clause-fresh
returns-clause-fresh c = is_fresh c.args.ticket c.args.self.now.next c.args.self.now.items.items c.requires.next c.args.self.now.below
