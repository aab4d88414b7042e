use Rattle.mt_answer.proofs.NoCommits.{no_commits}
use Rattle.mt_answer.proofs.laws.answers_are_no_commits.Goals as goal

pub returns : goal.returns
returns c = no_commits
