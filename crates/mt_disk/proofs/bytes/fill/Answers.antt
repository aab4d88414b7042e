-- One place more has the byte.
use Rattle.std.proofs.Common.{◌∷◌, [], List, ℕ, length, subst, sym, ap, arith}
use Rattle.mt_disk.specs.CrashModel.{Torn}
use Rattle.mt_disk.proofs.FileLemmas.{length-overwritten}
use Rattle.mt_disk.proofs.Torn.{torn_within}
use Rattle.mt_disk.proofs.bytes.fill.Goals as goal

pub loop-place-preserved : goal.loop-place-preserved
loop-place-preserved c =
    let so_far = c.loop-place.invariant in
    let items = c.loop-place.bytes.items in
    let place = c.loop-place.place in
    let step = torn_within c.args.at c.args.len place c.args.bytes.now.items items (c.args.byte ∷ []) so_far.torn (omega arith) (omega arith) so_far.reached in
    record {
      torn = subst (λ (l : List ℕ). Torn c.args.at c.args.len c.args.bytes.now.items l) (sym c.overwrite.ensures.after) step;
      reached = omega (arith, ap length c.overwrite.ensures.after, length-overwritten items place (c.args.byte ∷ []) so_far.reached);
      room = omega arith;
      kept = omega arith;
    }
