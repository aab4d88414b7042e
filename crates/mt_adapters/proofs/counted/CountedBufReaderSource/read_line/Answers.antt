use Rattle.std.proofs.Common.{ap}
use Rattle.mt_adapters.proofs.Front.{takes_front}
use Rattle.mt_adapters.proofs.counted.CountedBufReaderSource.read_line.Goals as goal

pub returns-clause-bytes : goal.returns-clause-bytes
returns-clause-bytes g c =
    rw (← c.self.view_is) (takes_front _ _ _ _ _ _ _ _ _ c.buffer.ensures c.copy_line-count.ensures.copied c.consume.ensures.capacity (ap g.R.Read.remaining c.consume.ensures.inner) c.consume.ensures.buffer)
