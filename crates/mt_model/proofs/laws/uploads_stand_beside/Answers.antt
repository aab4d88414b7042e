use Rattle.mt_model.proofs.Beside.{beside_uploads}
use Rattle.mt_model.proofs.laws.uploads_stand_beside.Goals as goal

pub returns : goal.returns
returns c = beside_uploads
