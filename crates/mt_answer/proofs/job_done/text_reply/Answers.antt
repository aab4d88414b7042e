use Rattle.mt_answer.proofs.JobLists.{found_showable}
use Rattle.mt_answer.proofs.job_done.text_reply.Goals as goal

pub live_text-requires-clause-showable : goal.live_text-requires-clause-showable
live_text-requires-clause-showable c =
    found_showable c.args.jobs.now c.in-Some.job c.in-Some-kept.kept.now.job c.requires.jobs c.in-Some-kept.ensures.job
