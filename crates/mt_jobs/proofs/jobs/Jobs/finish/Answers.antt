use Rattle.std.proofs.lemmas.Result.{on_ok_weaker}
use Rattle.mt_jobs.proofs.States.{finish_is}
use Rattle.mt_jobs.proofs.jobs.Jobs.finish.Goals as goal

pub returns-clause-ok : goal.returns-clause-ok
returns-clause-ok g c =
    on_ok_weaker c.end_as.result (λ later position rows. finish_is position rows c.args.self.now c.end_as.new.self c.args.job c.args.moment later) c.end_as.ensures.ok
