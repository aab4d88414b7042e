use Rattle.jobs_rows.proofs.Listed.{no_jobs}
use Rattle.jobs_rows.proofs.listing.Listing.new.Goals as goal

pub invariant_of-listing : goal.invariant_of-listing
invariant_of-listing c = (c.if-count-gt-MOST_COMMANDS.false, no_jobs c.args.count c.new-jobs.result c.new-jobs.ensures)
