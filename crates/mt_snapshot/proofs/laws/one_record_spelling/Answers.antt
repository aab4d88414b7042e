use Rattle.mt_snapshot.proofs.Sizes.{digests_apart}
use Rattle.mt_snapshot.proofs.Whole.{spelled_alike}
use Rattle.mt_snapshot.proofs.laws.one_record_spelling.Goals as goal

pub returns-clause-alike : goal.returns-clause-alike
returns-clause-alike c = spelled_alike

pub returns-clause-digests : goal.returns-clause-digests
returns-clause-digests c = digests_apart
