use Rattle.mt_http.proofs.ReadChunks.{read_chunks}
use Rattle.mt_http.proofs.laws.whole_is_chunks.Goals as goal

pub returns : goal.returns
returns c = read_chunks
