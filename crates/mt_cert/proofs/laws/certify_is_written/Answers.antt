use Rattle.mt_cert.specs.Certifying.{sum_of_body, sum_of_bytes}
use Rattle.mt_cert.proofs.JobLines.{lines_are}
use Rattle.mt_cert.proofs.laws.certify_is_written.Goals as goal

pub returns-clause-references : goal.returns-clause-references
returns-clause-references c = lines_are sum_of_body

pub returns-clause-bytes : goal.returns-clause-bytes
returns-clause-bytes c = lines_are sum_of_bytes
