use Rattle.std.proofs.Common.{List, ℕ}
use Rattle.mt_model.specs.Types.{Body}
use Rattle.mt_cert.specs.Certifying.{sum_of_body, sum_of_bytes}
use Rattle.mt_cert.proofs.Accepted.{accepted_with}
use Rattle.mt_cert.proofs.laws.certify_is_accepted.Goals as goal

pub returns-clause-references : goal.returns-clause-references
returns-clause-references c = accepted_with Body sum_of_body

pub returns-clause-bytes : goal.returns-clause-bytes
returns-clause-bytes c = accepted_with (List ℕ) sum_of_bytes
