-- Where the reading of a body fails, so does its digest.
use Rattle.std.proofs.Common.{refl}
use Rattle.mt_opening.proofs.digest.digest_body.Goals as goal

pub returns-in_err-sum-clause-looks : goal.returns-in_err-sum-clause-looks
returns-in_err-sum-clause-looks g c =
    let looks = c.in_err-sum.ensures.looks in
    record { read = looks.read; stays = looks.stays; disk = λ is. looks.disk refl; faults = looks.faults }
