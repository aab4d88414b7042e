use Rattle.std.proofs.Common.{◌≡◌, [], replicate}
use Rattle.mt_feeds.specs.FedJob.{lists_of}
use Rattle.mt_checker.proofs.feed.empty_lists.Given as goal

abbrev pub invariant-loop-list : goal.invariant-loop-list
invariant-loop-list l = lists_of l.lists ≡ replicate l._list []
