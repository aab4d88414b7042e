use Rattle.std.proofs.Common.{◌≤◌, ◌+◌, arith}
use Rattle.mt_children.proofs.Live.{is_below}
use Rattle.mt_children.proofs.running.Children.reach.Goals as goal

pub invariant_of-self : goal.invariant_of-self
invariant_of-self c =
    let more : c.args.self.now.next ≤ c.args.ticket + 1 = omega (arith, c.if-self-ticket.true) in
    record { below = is_below c.args.self.now.next (c.args.ticket + 1) c.args.self.now.items.items more c.args.self.now.below }
