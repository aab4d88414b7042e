-- each number so far is taken
use Rattle.std.proofs.Common.{◌≡◌, ◌<◌, ℕ, true}
use Rattle.std.specs.Prelude.{IfSome}
use Rattle.mt_base.specs.Counts.{NeverFell}
use Rattle.mt_spawn.specs.Spools.{has_file}
use Rattle.mt_helper.proofs.spooling.take_number.Given as goal

abbrev pub invariant-loop-number : goal.invariant-loop-number
invariant-loop-number g l = record {
  same : g.P.Spool.files l.spool ≡ g.P.Spool.files l.fn.spool;
  taken : IfSome (g.P.Spool.files l.spool) (λ fs. (k : ℕ) → k < l.number → has_file k fs ≡ true);
  later : NeverFell (g.P.Spool.faults l.fn.spool) (g.P.Spool.faults l.spool);
}
