use Rattle.std.proofs.Common.{◌≡◌, ◌∙◌, ◌+◌, length, take, drop, ℕ, List, Option, sym, ap, subst, arith}
use Rattle.std.specs.Prelude.{IfSome}
use borrow.Rule.Slice.PartMut.{same_len_mid, mid_len}
use Rattle.mt_spawn.specs.Parts.{told_part}
use Rattle.mt_types.specs.declared.task.Raw.{Raw}
use Rattle.mt_tasks.proofs.Filling.{filled_all, filled_on}
use Rattle.mt_tasks.proofs.Steps.{same_live_on}
use Rattle.mt_tasks.proofs.windows.fill.Goals as goal

pub loop-done-preserved : goal.loop-done-preserved
loop-done-preserved g c =
    let reads = c.in-Took.ensures.read in
    let kept = c.loop-done.invariant in
    let size = same_len_mid c.loop-done.done _ c.loop-done.into c.read.new.into c.read.auto.into in
    let part = c.read.auto.into ∙ mid_len c.loop-done.done (length c.loop-done.into) c.loop-done.into (omega arith) in
    let now : IfSome (told_part (g.P.Spawner.told c.args.spawner.now) c.args.part) (λ bytes. take c.in-Took.count c.read.new.into ≡ take c.in-Took.count (drop (c.args.at + c.loop-done.done) bytes)) =
    subst (λ (t : Option Raw). IfSome (told_part t c.args.part) (λ bytes. take c.in-Took.count c.read.new.into ≡ take c.in-Took.count (drop (c.args.at + c.loop-done.done) bytes))) kept.told reads.3 in
    record {
      within = omega (arith, size, part, reads.1, kept.within);
      filled = filled_on (told_part (g.P.Spawner.told c.args.spawner.now) c.args.part) c.loop-done.into c.read.new.into c.loop-done.done _ c.in-Took.count c.args.at (omega (arith, kept.within)) part (omega (arith, part, reads.1)) kept.filled now;
      same = same_live_on kept.same c.in-Took.ensures.same;
      faults = omega (arith, kept.faults, reads.4);
      held = c.in-Took.ensures.held ∙ kept.held;
      told = c.in-Took.ensures.told ∙ kept.told;
      rule = c.in-Took.ensures.rule ∙ kept.rule;
    }
