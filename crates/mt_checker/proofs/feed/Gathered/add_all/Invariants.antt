use Rattle.std.proofs.Common.{◌≡◌}
use Rattle.mt_checker.specs.Feeds.{with_all}
use Rattle.mt_checker.proofs.feed.Gathered.add_all.Given as goal

-- what is left is still to be added
abbrev pub invariant-loop-item : goal.invariant-loop-item
invariant-loop-item l = with_all l.initial.self l.yielded ≡ l.self
