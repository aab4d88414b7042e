use Rattle.std.proofs.Common.{◌≡◌, List, ℕ, option_copied, sym, ap, ◌∙◌, arith}
use Rattle.std.proofs.lemmas.Option.{slice_get_within}
use Rattle.mt_tasks.specs.Reading.{bodies_of_task}
use Rattle.mt_tasks.proofs.Passing.{none_left, passed}
use Rattle.mt_tasks.proofs.bodies.next_body.Goals as goal

pub overflow_add-place : goal.overflow_add-place
overflow_add-place c =
    let there = sym c.body_at.ensures ∙ ap option_copied c.in-Some.is in
    omega (arith, slice_get_within (bodies_of_task c.args.engine.now.state.jobs c.args.task.now) c.loop-body.place.next c.in-Some.body.now there, c.requires.count, c.ranges.count.fits)

pub loop-body-smaller : goal.loop-body-smaller
loop-body-smaller c =
    let there = sym c.body_at.ensures ∙ ap option_copied c.in-Some.is in
    omega (arith, slice_get_within (bodies_of_task c.args.engine.now.state.jobs c.args.task.now) c.loop-body.place.next c.in-Some.body.now there)

pub loop-body-preserved : goal.loop-body-preserved
loop-body-preserved c =
    let there = sym c.body_at.ensures ∙ ap option_copied c.in-Some.is in
    record {
      within = λ x is. omega arith;
      same = λ content keeps. passed content keeps (bodies_of_task c.args.engine.now.state.jobs c.args.task.now) c.loop-body.place c.in-Some.body.now there c.if-place-body.false (c.loop-body.invariant.within c.in-Some.body.now there)
          ∙ c.loop-body.invariant.same content keeps;
    }

pub returns-clause-none : goal.returns-clause-none
returns-clause-none c content = none_left content (bodies_of_task c.args.engine.now.state.jobs c.args.task.now) c.loop-body.place (sym c.body_at.ensures ∙ ap option_copied c.in_default.is)
