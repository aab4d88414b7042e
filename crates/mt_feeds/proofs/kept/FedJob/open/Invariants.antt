use Rattle.std.proofs.Common.{◌≡◌, map}
use Rattle.mt_feeds.specs.FedJob.{lists_of}
use Rattle.mt_feeds.proofs.Opened.{OpenTo}
use Rattle.mt_feeds.proofs.kept.FedJob.open.Given as goal

abbrev pub invariant-loop-phase : goal.invariant-loop-phase
invariant-loop-phase g l = record {
  job : l.self.job ≡ l.fn.self.job;
  feeds : l.self.feeds ≡ l.fn.self.feeds;
  so_far : OpenTo l.fn.self.job l.phase (map lists_of l.self.shares.items);
}
