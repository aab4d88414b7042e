use Rattle.mt_codec.proofs.WellMade.{well_made}
use Rattle.mt_account.proofs.Commands.{keeps_lost, keeps_step, steps}
use Rattle.mt_account.proofs.account.take_on_jobs.Goals as goal

pub change-requires-clause-made : goal.change-requires-clause-made
change-requires-clause-made c = well_made c.args.command c.requires.spelled

pub returns-in-Ok-clause-ok : goal.returns-in-Ok-clause-ok
returns-in-Ok-clause-ok c = steps c.args.count.now c.args.tree.now c.change.new.tree c.args.jobs.now c.change.new.jobs c.args.command c.in-Ok.ensures

pub returns-in-Ok-clause-kept : goal.returns-in-Ok-clause-kept
returns-in-Ok-clause-kept c =
    keeps_step c.args.count.now c.args.tree.now c.change.new.tree c.args.jobs.now c.change.new.jobs c.args.spare.now c.args.command c.requires.spelled c.requires.few c.requires.allowed c.requires.kept
    (steps c.args.count.now c.args.tree.now c.change.new.tree c.args.jobs.now c.change.new.jobs c.args.command c.in-Ok.ensures)

pub lose-requires : goal.lose-requires
lose-requires c = c.requires.kept.in_reserve c.requires.few

pub returns-in-Err-clause-kept : goal.returns-in-Err-clause-kept
returns-in-Err-clause-kept c = keeps_lost c.lose.new.count c.lose.new.tree c.lose.new.jobs c.lose.new.spare c.lose.ensures.count c.lose.ensures.rows c.lose.ensures.jobs
