use Rattle.mt_children.proofs.Live.{still_below}
use Rattle.mt_children.proofs.running.Children.wait_all.Goals as goal

pub invariant_of-self : goal.invariant_of-self
invariant_of-self c = record { below = still_below _ _ _ c.wait_in.ensures c.args.self.now.below }
