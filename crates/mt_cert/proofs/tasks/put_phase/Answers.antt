-- The tasks of the phase, by the shares that were laid out.
use Rattle.mt_cert.proofs.Parts.{tasks_listed}
use Rattle.mt_cert.proofs.tasks.put_phase.Goals as goal

pub returns-in-Ok-clause-puts : goal.returns-in-Ok-clause-puts
returns-in-Ok-clause-puts g c =
    let same = tasks_listed c.args.job.now c.args.number c.args.phase.now c.in-Ok.opened c.in-Ok.ensures in
    rw (← same) (rw c.as_slice.ensures at c.put_tasks.ensures.puts)
