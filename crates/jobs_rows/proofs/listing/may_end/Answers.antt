use Rattle.std.proofs.Common.{not, ap, ◌∙◌}
use Rattle.jobs_rows.proofs.Listed.{none_open}
use Rattle.jobs_rows.proofs.listing.may_end.Goals as goal

pub returns : goal.returns
returns c = λ is. none_open c.args.job.now.ended c.args.job.now.done c.if-job.false (c.is_none.ensures ∙ ap not is)
