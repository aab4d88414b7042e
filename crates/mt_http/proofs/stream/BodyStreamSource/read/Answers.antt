use Rattle.std.proofs.Common.{refl}
use Rattle.mt_http.proofs.BodyReadings.{streams_reads, streams_keep}
use Rattle.mt_http.proofs.stream.BodyStreamSource.read.Goals as goal

pub returns-clause-reads : goal.returns-clause-reads
returns-clause-reads g c = streams_reads _ _ _ c.read_framed.new.into c.read_framed.result _ _ _ c.read_framed.ensures.streams

pub returns-clause-stays : goal.returns-clause-stays
returns-clause-stays g c = (refl, c.read_framed.ensures.goes_on.stays, streams_keep _ _ _ c.read_framed.new.into c.read_framed.result _ _ _ c.read_framed.ensures.streams)
