use Rattle.mt_certify.proofs.Read.{certificates_read}
use Rattle.mt_certify.proofs.laws.certificates_are_read.Goals as goal

pub returns : goal.returns
returns c = certificates_read
