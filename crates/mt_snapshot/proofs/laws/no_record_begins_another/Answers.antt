use Rattle.mt_snapshot.proofs.Whole.{begins_alike}
use Rattle.mt_snapshot.proofs.laws.no_record_begins_another.Goals as goal

pub returns : goal.returns
returns c = begins_alike
