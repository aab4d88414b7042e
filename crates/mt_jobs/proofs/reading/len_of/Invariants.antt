-- The bytes of the items so far.
use Rattle.std.proofs.Common.{◌≡◌, take}
use Rattle.std.specs.List.{sum_by}
use Rattle.mt_feeds.specs.Reading.{task_items}
use Rattle.mt_jobs.proofs.Sums.{bytes_of}
use Rattle.mt_jobs.proofs.reading.len_of.Given as goal

abbrev pub invariant-loop-k : goal.invariant-loop-k
invariant-loop-k l = l.len ≡ sum_by bytes_of (take l.k (task_items l.phase l.place l.kept.job))
