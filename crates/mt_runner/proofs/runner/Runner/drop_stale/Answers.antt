use Rattle.std.proofs.Common.{◌≡◌, ◌∙◌, refl, arith, subst, sym, ap}
use Rattle.mt_runner.proofs.Pairs.{are_of}
use Rattle.mt_runner.proofs.Stales.{counts_none, counts_on, none_stale, stale_falls, stale_gone, stale_lives}
use Rattle.mt_runner.proofs.runner.Runner.drop_stale.Goals as goal

pub kill-requires : goal.kill-requires
kill-requires g c = let r = c.loop-stale.invariant.remain in record { lives = stale_lives c.args.engine.now.state _ _ r.xs _ r.are c.in-Some.ensures.first }

pub loop-stale-init : goal.loop-stale-init
loop-stale-init g c = record {
  remain = record { xs = _; are = are_of _ _ c.requires.paired; same = refl };
  counts = counts_none _;
  faults = omega arith;
  held = refl;
  rule = refl;
  slots = refl;
  login = refl;
}

pub loop-stale-smaller : goal.loop-stale-smaller
loop-stale-smaller g c = stale_falls c.args.engine.now.state _ _ _ c.in-Some.ensures.first c.forget.ensures.kept

pub loop-stale-preserved : goal.loop-stale-preserved
loop-stale-preserved g c =
    let i = c.loop-stale.invariant in
    record {
      remain = stale_gone c.args.engine.now.state _ _ _ _ i.remain.xs _ _ i.remain.are c.first_stale.ensures.tickets c.in-Some.ensures.first c.forget.ensures.kept c.kill.ensures.kill.gone i.remain.same;
      counts = counts_on _ _ _ i.counts c.kill.ensures.kill.counts;
      faults = omega (arith, i.faults, c.kill.ensures.faults);
      held = c.kill.ensures.held ∙ i.held;
      rule = c.kill.ensures.rule ∙ i.rule;
      slots = c.forget.ensures.slots ∙ i.slots;
      login = c.forget.ensures.login ∙ i.login;
    }

pub returns-clause-left : goal.returns-clause-left
returns-clause-left g c = let r = c.loop-stale.invariant.remain in none_stale c.args.engine.now.state _ _ r.xs _ r.are c.in_default.ensures.first r.same
