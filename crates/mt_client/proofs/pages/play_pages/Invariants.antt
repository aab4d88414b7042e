-- so many replies led to these directories
use Rattle.std.proofs.Common.{◌≤◌, ◌-◌}
use Rattle.mt_client.specs.Requests.{sides_of}
use Rattle.mt_client.proofs.Listing.{HasReached}
use Rattle.mt_client.proofs.pages.play_pages.Given as goal

abbrev pub invariant-pages : goal.invariant-pages
invariant-pages g l = record {
  few : l.requests ≤ 1000000;
  reached : HasReached l.words (sides_of g.L.Source.left g.L.Source.read_faults g.L.Sink.got g.L.Sink.write_faults g.K.Sink.got g.K.Sink.write_faults l.fn.link l.fn.sink) l.levels.items l.requests (sides_of g.L.Source.left g.L.Source.read_faults g.L.Sink.got g.L.Sink.write_faults g.K.Sink.got g.K.Sink.write_faults l.link l.sink);
  stays : g.L.Both.stays l.fn.link l.link;
  sink_stays : g.K.Sink.sink_stays l.fn.sink l.sink;
}

abbrev pub decreases-pages : goal.decreases-pages
decreases-pages g l = 1000000 - l.requests
