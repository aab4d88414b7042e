use Rattle.std.proofs.Common.{ℕ, List, Option, Some, None, sym, ap, ◌∙◌}
use Rattle.mt_api.specs.Jobs.{job_refusal}
use Rattle.mt_api.proofs.Jobs.{refusal_told}
use Rattle.mt_api.proofs.job.refusal_by.Goals as goal

pub returns-in-Some : goal.returns-in-Some
returns-in-Some c =
    let s = c.args.engine.now.state in
    c.job_refusal_of.ensures s.count ∙ refusal_told s c.tree.result.now c.jobs.result.now c.args.request.now c.args.posted.now (Some c.in-Some.digest) c.tree.ensures.rows c.jobs.ensures.jobs
    ∙ ap (λ (d : Option (List ℕ)). job_refusal c.args.engine.now c.args.request.now c.args.posted.now d) (sym c.in-Some.is)

pub returns-in-None : goal.returns-in-None
returns-in-None c =
    let s = c.args.engine.now.state in
    c.job_refusal_of-in-None.ensures s.count ∙ refusal_told s c.tree-in-None.result.now c.jobs-in-None.result.now c.args.request.now c.args.posted.now None c.tree-in-None.ensures.rows c.jobs-in-None.ensures.jobs
    ∙ ap (λ (d : Option (List ℕ)). job_refusal c.args.engine.now c.args.request.now c.args.posted.now d) (sym c.in-None.is)
