use Rattle.std.proofs.Common.{◌≡◌, ◌≤◌, ◌<◌, ◌-◌, ℕ, List, length, Option, Some, None, refl, sym, ap, ◌∙◌, subst, arith}
use Rattle.std.proofs.lemmas.Option.{same_Some}
use Rattle.mt_records.specs.Seen.{Judgement, begun, sizes_in}
use Rattle.mt_spawn.specs.Orders.{told_of}
use Rattle.mt_spawn.specs.declared.task.Left.{Left}
use Rattle.mt_types.specs.declared.task.Raw.{Raw}
use Rattle.mt_tasks.specs.Fates.{HasLooked, LooksAt}
use Rattle.mt_tasks.proofs.Looking.{judged, looked_more, looked_none, next_within}
use Rattle.mt_tasks.proofs.Steps.{same_live_on}
use Rattle.mt_tasks.proofs.judging.judge.Goals as goal

pub loop-size-init : goal.loop-size-init
loop-size-init g c =
    record {
      looked = subst (λ (j : Judgement). HasLooked c.args.login.now c.args.left (g.P.Spawner.told c.args.spawner.now) j) (sym c.in-Ok.ensures) (looked_none c.args.login.now c.args.left (g.P.Spawner.told c.args.spawner.now));
      same = record { live = refl; counts = record { waits = refl; company = refl } };
      faults = omega arith;
      held = refl;
      told = refl;
      rule = refl;
    }

pub loop-size-preserved : goal.loop-size-preserved
loop-size-preserved g c =
    let kept = c.loop-size.invariant in
    let p = g.P.Spawner in
    let law : (raw : Raw) → p.told c.args.spawner.now ≡ Some raw → told_of raw ≡ c.args.left = λ raw is. same_Some _ _ (sym (g.met.P.Spawner.told_is_held c.args.spawner.now raw is) ∙ c.requires.held) in
    record {
      looked = looked_more c.args.login.now c.args.left (p.told c.args.spawner.now) c.loop-size.judging c.look.new.judging c.in-Some.size law kept.looked (sym c.next.ensures ∙ c.in-Some.is) (subst (λ (t : Option Raw). LooksAt t c.in-Some.size c.loop-size.judging c.look.new.judging) kept.told (c.in-Seen.ensures.seen refl));
      same = same_live_on kept.same c.look.ensures.same;
      faults = omega (arith, kept.faults, c.look.ensures.faults);
      held = c.look.ensures.held ∙ kept.held;
      told = c.look.ensures.told ∙ kept.told;
      rule = c.look.ensures.rule ∙ kept.rule;
    }

pub loop-size-smaller : goal.loop-size-smaller
loop-size-smaller g c =
    let old = c.loop-size.judging in
    let new = c.look.new.judging in
    let looks = c.in-Seen.ensures.seen refl in
    let within = next_within old c.in-Some.size (sym c.next.ensures ∙ c.in-Some.is) in
    let count = ap (λ (x : Judgement). x.count) looks.after in
    let files = ap (λ (x : Judgement). length (sizes_in x.left.made)) looks.after in
    let less : length (sizes_in new.left.made) - new.count < length (sizes_in old.left.made) - old.count = omega (arith, within, count, files) in
    less

pub returns-in-Ok-fate-clause-fate : goal.returns-in-Ok-fate-clause-fate
returns-in-Ok-fate-clause-fate g c =
    let p = g.P.Spawner in
    let law : (raw : Raw) → p.told c.args.spawner.now ≡ Some raw → told_of raw ≡ c.args.left = λ raw is. same_Some _ _ (sym (g.met.P.Spawner.told_is_held c.args.spawner.now raw is) ∙ c.requires.held) in
    λ f is.
    let same : c.in-Ok-fate.fate ≡ f = cc in
    judged c.args.login.now c.args.left (p.told c.args.spawner.now) c.loop-size.judging f law c.loop-size.invariant.looked (sym c.in_default-next.ensures) (sym same ∙ c.in-Ok-fate.ensures.value)
