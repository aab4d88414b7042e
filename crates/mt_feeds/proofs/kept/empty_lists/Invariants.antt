use Rattle.std.proofs.Common.{◌≡◌, [], map, replicate}
use Rattle.mt_feeds.proofs.kept.empty_lists.Given as goal

abbrev pub invariant-loop-list : goal.invariant-loop-list
invariant-loop-list g l = map (λ w. w.items) l.lists.items ≡ replicate l._list []
