-- Those so far were waited for, and the others are as they were.
use Rattle.std.proofs.Common.{◌≡◌, ℕ, ◌<◌, ◌≤◌, length, get_or}
use Rattle.mt_spawn.specs.Children.{HasWaited}
use Rattle.mt_children.proofs.Live.{Live}
use Rattle.mt_children.proofs.running.wait_in.Given as goal

abbrev pub invariant-waits : goal.invariant-waits
invariant-waits l = record {
  long : length l.children.items ≡ length l.fn.children.items;
  done : (k : ℕ) (d : Live) → k < l.index → HasWaited (get_or l.fn.children.items k d) (get_or l.children.items k d);
  left : (k : ℕ) (d : Live) → l.index ≤ k → get_or l.children.items k d ≡ get_or l.fn.children.items k d;
}
