use Rattle.mt_upload.proofs.States.{abort_is}
use Rattle.mt_upload.proofs.uploads.Uploads.abort.Goals as goal

pub returns : goal.returns
returns g c = λ position moment rows. abort_is position rows c.args.self.now c.end_as.new.self c.args.upload moment c.end_as.ensures
