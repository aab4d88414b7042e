use Rattle.std.proofs.Common.{◌≡◌, take}
use Rattle.mt_model.specs.Feed.{feed}
use Rattle.mt_feeds.specs.FedJob.{all_shares, lists_of}
use Rattle.mt_feeds.proofs.shares.lay.Given as goal

abbrev pub invariant-loop-place : goal.invariant-loop-place
invariant-loop-place g l = lists_of l.shares ≡ all_shares (take l.place (feed l.kept.job l.phase)) l.count
