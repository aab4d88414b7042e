use Rattle.std.proofs.Common.{◌≡◌, ℕ, ◌<◌, [], length, Some}
use Rattle.std.specs.List.{slice_get}
use Rattle.std.specs.declared.alloc.Global.{Global}
use Rattle.std.specs.declared.vec.Vec.{Vec}
use Rattle.mt_feeds.specs.FedJob.{lists_of}
use Rattle.mt_feeds.proofs.kept.clear_shares.Given as goal

abbrev pub invariant-loop-phase : goal.invariant-loop-phase
invariant-loop-phase l = record {
  long : length l.shares.items ≡ length l.fn.shares.items;
  clear : (k : ℕ) (w : Vec (Vec ℕ Global) Global) → k < l.phase → slice_get l.shares.items k ≡ Some w → lists_of w ≡ [];
}
