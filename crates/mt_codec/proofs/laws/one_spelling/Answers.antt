use Rattle.mt_codec.proofs.Whole.{spelled_alike}
use Rattle.mt_codec.proofs.Weaker.{digests_apart}
use Rattle.mt_codec.proofs.laws.one_spelling.Goals as goal

pub returns-clause-alike : goal.returns-clause-alike
returns-clause-alike c = spelled_alike

pub returns-clause-digests : goal.returns-clause-digests
returns-clause-digests c = digests_apart
