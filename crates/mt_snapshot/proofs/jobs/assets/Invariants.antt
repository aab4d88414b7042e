use Rattle.std.proofs.Common.{◌≡◌, drop}
use Rattle.mt_codec.proofs.Loops.{with_front}
use Rattle.mt_snapshot.specs.Readers.{assets_at}
use Rattle.mt_snapshot.proofs.jobs.assets.Given as goal

-- what was read, and what is still read, is all that is read
abbrev pub invariant-loop-phase : goal.invariant-loop-phase
invariant-loop-phase l = with_front l.assets (assets_at (drop l.phase-index l.phases) l.cursor) ≡ assets_at l.fn.phases l.fn.cursor
