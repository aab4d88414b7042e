use Rattle.std.proofs.Common.{◌≤◌, length, arith}
use Rattle.mt_children.proofs.Live.{waited_all}
use Rattle.mt_children.proofs.running.wait_in.Goals as goal

pub returns : goal.returns
returns c =
    let i = c.waits.invariant in
    let past : length c.args.children.now.items ≤ c.waits.index = omega arith in
    waited_all _ _ i.long (λ k d l. i.done k d (omega (arith, l, past)))
