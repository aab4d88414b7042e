use Rattle.std.proofs.Common.{◌≡◌, ◌+◌, ◌-◌, ◌<◌, ◌≤◌, ℕ, [], ◌++◌, length, drop, get_or, vec_len}
use Rattle.std.specs.List.{All}
use Rattle.mt_split.specs.Partition.{part_of}
use Rattle.mt_split.specs.Spans.{bytes_in, IsWithin}
use Rattle.mt_split.proofs.parts.split.Given as goal

-- the lines so far are laid out, and the rest will be
abbrev pub invariant-loop-from : goal.invariant-loop-from
invariant-loop-from l = record {
  bound : l.from ≤ length l.text;
  count : length l.parts.items ≡ l.n;
  within : (r : ℕ) → All (IsWithin l.text) (get_or l.parts.items r []);
  part : (r : ℕ) → r < l.n → bytes_in l.text (get_or l.parts.items r []) ++ part_of (drop l.from l.text) l.n l.rule r ≡ part_of l.text l.n l.rule r;
}

abbrev pub decreases-loop-from : goal.decreases-loop-from
decreases-loop-from l = length l.text - l.from
