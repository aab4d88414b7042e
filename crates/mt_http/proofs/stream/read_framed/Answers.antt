use Rattle.mt_http.proofs.BodyReadings.{streams_on}
use Rattle.mt_http.proofs.stream.read_framed.Goals as goal

pub returns-in-Data-clause-streams : goal.returns-in-Data-clause-streams
returns-in-Data-clause-streams g c =
    let reached = c.in-Data.ensures.reached in
    streams_on _ _ _ _ _ _ c.read_data.new.into c.read_data.result _ _ _ reached.0 reached.3 c.read_data.ensures.streams
