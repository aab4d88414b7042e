use Rattle.mt_store.proofs.DecisionsRead.{delete-with, link-with, put-with, read-with}
use Rattle.mt_store.proofs.laws.decisions_are_read.Goals as goal

pub returns : goal.returns
returns c = record { put = put-with; link = link-with; delete = delete-with; read = read-with }
