use Rattle.std.proofs.Common.{ap}
use Rattle.mt_adapters.proofs.Front.{takes_first}
use Rattle.mt_adapters.proofs.counted.CountedBufReaderSource.read.Goals as goal

pub returns-in-len1-up-clause-bytes : goal.returns-in-len1-up-clause-bytes
returns-in-len1-up-clause-bytes g c =
    rw (← c.self.view_is) (takes_first _ _ _ _ _ _ _ _ c.buffer.ensures c.in-len1-up.len_at_least c.consume.ensures.capacity (ap g.R.Read.remaining c.consume.ensures.inner) c.consume.ensures.buffer c.if-into-eq1.true)
