-- Those so far were waited for, and the others are as they were.
use Rattle.std.proofs.Common.{◌≡◌, ℕ, ◌<◌, ◌≤◌, length, get_or}
use Rattle.mt_spawn.specs.declared.children.MemChild.{MemChild}
use Rattle.mt_spawn.proofs.Seen.{Waited}
use Rattle.mt_spawn.proofs.children.wait_in.Given as goal

abbrev pub invariant-loop-index : goal.invariant-loop-index
invariant-loop-index l = record {
  long : length l.children.items ≡ length l.fn.children.items;
  done : (k : ℕ) (d : MemChild) → k < l.index → Waited (get_or l.fn.children.items k d) (get_or l.children.items k d);
  left : (k : ℕ) (d : MemChild) → l.index ≤ k → get_or l.children.items k d ≡ get_or l.fn.children.items k d;
}
