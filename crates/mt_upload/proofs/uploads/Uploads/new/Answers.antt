use Rattle.std.proofs.Common.{sym, subst}
use Rattle.mt_upload.specs.UploadList.{IsUploads}
use Rattle.mt_upload.proofs.Whole.{whole_none}
use Rattle.mt_upload.proofs.uploads.Uploads.new.Goals as goal

pub invariant_of-result : goal.invariant_of-result
invariant_of-result g c = subst (λ l. IsUploads {B = g.row.B.Denot} l) (sym c.new.ensures.items) whole_none
