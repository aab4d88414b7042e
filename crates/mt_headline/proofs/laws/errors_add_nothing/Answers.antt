use Rattle.mt_headline.proofs.Refusals.{errors_add_nothing, refused_jobs_are_errors}
use Rattle.mt_headline.proofs.laws.errors_add_nothing.Goals as goal

pub returns-clause-all : goal.returns-clause-all
returns-clause-all c = errors_add_nothing

pub returns-clause-jobs : goal.returns-clause-jobs
returns-clause-jobs c = refused_jobs_are_errors
