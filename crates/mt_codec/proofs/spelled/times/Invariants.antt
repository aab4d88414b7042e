use Rattle.std.proofs.Common.{◌≡◌, ◌-◌}
use Rattle.mt_codec.specs.Reading.{times}
use Rattle.mt_codec.proofs.Loops.{with_front}
use Rattle.mt_codec.proofs.spelled.times.Given as goal

-- what was read, and what is still read, is all that is read
abbrev pub invariant-loop : goal.invariant-loop
invariant-loop g l = with_front l.items (times g.T.Spelled.read_at (l.n - l.counter) l.cursor) ≡ times g.T.Spelled.read_at l.fn.n l.fn.cursor
