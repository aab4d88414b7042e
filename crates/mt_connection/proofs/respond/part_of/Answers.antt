-- The disk failed, where the part could not be read.
use Rattle.std.proofs.Common.{inr, refl}
use Rattle.mt_connection.proofs.respond.part_of.Goals as goal

pub returns-in-Err-read_body-clause-ends : goal.returns-in-Err-read_body-clause-ends
returns-in-Err-read_body-clause-ends g c = inr (refl, c.in-Err-read_body.ensures.looks.disk refl)

pub returns-in-Err-read_body-clause-reads : goal.returns-in-Err-read_body-clause-reads
returns-in-Err-read_body-clause-reads g c =
    let looks = c.in-Err-read_body.ensures.looks in
    record { read = looks.read; disk = λ is. looks.disk refl; faults = looks.faults }
