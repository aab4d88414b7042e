use Rattle.std.proofs.Common.{take}
use Rattle.mt_feeds.specs.FedJob.{AreFeeds}
use Rattle.mt_feeds.proofs.noting.feeds_of.Given as goal

-- so far they are those of a front of the trace
abbrev pub invariant-loop-place : goal.invariant-loop-place
invariant-loop-place g l = AreFeeds (record l.job { trace = take l.place l.job.trace }) l.feeds.items
