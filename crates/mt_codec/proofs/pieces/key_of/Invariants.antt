use Rattle.std.proofs.Common.{◌≡◌, ◌-◌}
use Rattle.mt_path.specs.Keys.{IsKey, parts_of}
use Rattle.mt_codec.specs.Reading.{times}
use Rattle.mt_codec.specs.Readers.{component_at}
use Rattle.mt_codec.proofs.Loops.{with_front}
use Rattle.mt_codec.proofs.pieces.key_of.Given as goal

-- the components that were read, and those still read, are all that are read
abbrev pub invariant-loop : goal.invariant-loop
invariant-loop l = record {
  read : with_front (parts_of l.key.items) (times component_at (l.n - l.counter) l.cursor) ≡ times component_at l.fn.n l.fn.cursor;
  key : IsKey l.key.items;
}
