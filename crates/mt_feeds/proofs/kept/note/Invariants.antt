use Rattle.std.proofs.Common.{◌≡◌, ◌++◌}
use Rattle.mt_feeds.specs.FedJob.{places_at}
use Rattle.mt_feeds.proofs.kept.note.Given as goal

abbrev pub invariant-loop-item : goal.invariant-loop-item
invariant-loop-item l = l.feed.items ≡ l.fn.feed.items ++ places_at l.entry l.item
