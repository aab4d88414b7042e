use Rattle.mt_http.proofs.ChunkedBodies.{chunks_read}
use Rattle.mt_http.proofs.laws.chunks_are_read.Goals as goal

pub returns : goal.returns
returns c = chunks_read
