use Rattle.mt_body.proofs.Keeping.{length-bytes_of}
use Rattle.mt_body.proofs.laws.as_many_bytes.Goals as goal

pub returns : goal.returns
returns c = length-bytes_of
