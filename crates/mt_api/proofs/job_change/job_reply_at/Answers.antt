use Rattle.mt_api.proofs.Jobs.{reply_ok}
use Rattle.mt_api.proofs.job_change.job_reply_at.Goals as goal

pub returns : goal.returns
returns c =
    reply_ok c.job_reply_to.result c.args.login.now (record { position = c.args.position; moment = c.args.call.now.stamp.moment; closes = c.args.call.now.stamp.closes }) c.position.result c.jobs.result.now c.args.engine.now.state
    c.args.call.now.request.doing c.position.ensures.count c.jobs.ensures.jobs c.job_reply_to.ensures
