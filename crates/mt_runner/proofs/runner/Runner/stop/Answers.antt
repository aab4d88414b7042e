use Rattle.std.proofs.Common.{◌∙◌, refl, map, sym, subst, List, arith}
use Rattle.mt_lives.specs.World.{Lose, Steps}
use Rattle.mt_records.specs.Fate.{fate}
use Rattle.mt_runner.specs.Attempts.{number_of}
use Rattle.mt_runner.specs.Living.{world_of}
use Rattle.mt_runner.specs.declared.runner.Started.{Started}
use Rattle.mt_runner.proofs.Lists.{in_from}
use Rattle.mt_runner.proofs.Pairs.{are_of, are_paired, gone_from_both}
use Rattle.mt_runner.proofs.Stales.{counts_none, counts_on, kept_falls, lives_in, none_live}
use Rattle.mt_runner.proofs.Worlds.{loses_all}
use Rattle.mt_runner.proofs.runner.Runner.stop.Goals as goal

pub kill-requires : goal.kill-requires
kill-requires g c = record { lives = lives_in _ _ _ _ _ (are_of _ _ c.loop-started.invariant.paired) (in_from _ _ c.in-Some.ensures) refl }

pub loop-started-init : goal.loop-started-init
loop-started-init g c = record {
  paired = c.requires.paired;
  counts = counts_none _;
  faults = omega arith;
  held = refl;
  rule = refl;
  slots = refl;
  login = refl;
}

pub loop-started-smaller : goal.loop-started-smaller
loop-started-smaller g c = kept_falls _ _ _ (in_from _ _ c.in-Some.ensures) c.forget.ensures.kept

pub loop-started-preserved : goal.loop-started-preserved
loop-started-preserved g c =
    let i = c.loop-started.invariant in
    record {
      paired = are_paired _ _ _ (gone_from_both _ _ _ _ _ _ (are_of _ _ i.paired) c.forget.ensures.kept c.kill.ensures.kill.gone);
      counts = counts_on _ _ _ i.counts c.kill.ensures.kill.counts;
      faults = omega (arith, i.faults, c.kill.ensures.faults);
      held = c.kill.ensures.held ∙ i.held;
      rule = c.kill.ensures.rule ∙ i.rule;
      slots = c.forget.ensures.slots ∙ i.slots;
      login = c.forget.ensures.login ∙ i.login;
    }

pub returns-clause-none : goal.returns-clause-none
returns-clause-none g c = none_live _ _ c.loop-started.invariant.paired c.in_default.ensures

pub returns-clause-lives : goal.returns-clause-lives
returns-clause-lives g c history named =
    let p = g.P.Spawner in
    let login = c.args.self.now.login in
    let gives = p.gives (p.rule c.args.spawner.now) in
    subst (λ (ks : List Started). Steps login gives (fate login) (world_of login gives (fate login) named history c.args.self.now.kept) (map (λ k. Lose (number_of k)) c.args.self.now.kept) (world_of login gives (fate login) named history ks))
    (sym c.in_default.ensures) (loses_all login gives (fate login) named history c.args.self.now.kept)
