use Rattle.std.proofs.Common.{◌≡◌, ◌-◌}
use Rattle.mt_codec.specs.Reading.{times}
use Rattle.mt_codec.proofs.Loops.{with_front}
use Rattle.mt_snapshot.specs.Readers.{item_at}
use Rattle.mt_snapshot.proofs.values.items.Given as goal

-- what was read, and what is still read, is all that is read
abbrev pub invariant-loop : goal.invariant-loop
invariant-loop l = with_front l.items (times item_at (l.n - l.counter) l.cursor) ≡ times item_at l.fn.n l.fn.cursor
