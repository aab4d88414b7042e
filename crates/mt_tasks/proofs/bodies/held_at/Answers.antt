use Rattle.std.proofs.Common.{◌≡◌, sym, ◌∙◌}
use Rattle.mt_tasks.proofs.Passing.{second_in, second_past}
use Rattle.mt_tasks.proofs.bodies.held_at.Goals as goal

pub returns-then-k-names : goal.returns-then-k-names
returns-then-k-names c = c.one_of.ensures ∙ sym (second_in c.args.names.now c.args.bodies.now c.args.k c.if-k-names.true)

pub returns-else-k-names : goal.returns-else-k-names
returns-else-k-names c = sym (second_past c.args.names.now c.args.bodies.now c.args.k c.if-k-names.false)
