use Rattle.std.proofs.Common.{List, Option, sym, subst, ap, ◌∙◌, arith}
use Rattle.mt_jobtext.specs.Pieces.{IsShowable}
use Rattle.mt_model.specs.Honest.{OfFound}
use Rattle.mt_model.specs.State.{job_at}
use Rattle.mt_types.specs.declared.body.Body.{Body}
use Rattle.mt_types.specs.declared.job.Job.{Job}
use Rattle.mt_engine.proofs.engine.Engine.archive_len.Goals as goal

pub archive_pieces-requires-clause-showable : goal.archive_pieces-requires-clause-showable
archive_pieces-requires-clause-showable c =
    let found = c.in-Some.ensures.job ∙ ap (λ (js : List (Job Body)). job_at js c.args.job) c.jobs-jobs.ensures.jobs in
    subst (λ (o : Option (Job Body)). OfFound IsShowable o) (sym found)
    (c.lawful_is_showable.ensures c.args.self.now.state c.args.job c.jobs-jobs.ensures.lawful c.jobs-jobs.ensures.limits (omega (arith, c.position.ensures.most, c.position.ensures.count)))
