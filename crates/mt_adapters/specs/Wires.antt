-- What one call of a socket did.
use Rattle.std.specs.Prelude.{ℕ, ◌≤◌, List, ⊤}
use Rattle.mt_edge.specs.Stream.{IsWithinLine}
use Rattle.mt_edge.specs.declared.source.ReadStep.TheVariants as read
use Rattle.mt_adapters.specs.declared.wire.Asked.{Asked}
use Rattle.mt_adapters.specs.declared.wire.Asked.TheVariants as asked
use Rattle.mt_adapters.specs.declared.wire.Moved.{Moved}
use Rattle.mt_adapters.specs.declared.wire.Moved.TheVariants as moved

-- so many bytes came or went, at most
abbrev pub MovedAtMost : Moved → ℕ → Type 0
MovedAtMost (moved.Bytes n) most = n ≤ most
MovedAtMost moved.Waits most = ⊤
MovedAtMost moved.Ended most = ⊤
MovedAtMost moved.Failed most = ⊤

-- where a line was asked for, nothing behind it came into the piece
abbrev pub MovedWithin : Asked → Moved → List ℕ → Type 0
MovedWithin asked.Line (moved.Bytes n) into = IsWithinLine (read.Took n) into
MovedWithin asked.Line moved.Waits into = ⊤
MovedWithin asked.Line moved.Ended into = ⊤
MovedWithin asked.Line moved.Failed into = ⊤
MovedWithin asked.Piece moved into = ⊤
