use Rattle.mt_ask.proofs.Markers.{marker_read}
use Rattle.mt_ask.proofs.laws.markers_are_read.Goals as goal

pub returns : goal.returns
returns c = marker_read
