use Rattle.mt_server.proofs.Chains.{lives_keep_archives, runs_have_archives}
use Rattle.mt_server.proofs.laws.lives_keep_archives.Goals as goal

pub returns-clause-run : goal.returns-clause-run
returns-clause-run c = runs_have_archives

pub returns-clause-lives : goal.returns-clause-lives
returns-clause-lives c = lives_keep_archives
