-- Each line leads on, or is the first that is wrong.
use Rattle.std.proofs.Common.{◌∙◌, List, ℕ, Some, arith, refl, subst, take}
use Rattle.std.proofs.lemmas.List.{length-take-le}
use Rattle.mt_checker.specs.Kept.{Says, stage_after}
use Rattle.mt_checker.specs.declared.checker.Checked.TheVariants as checked
use Rattle.mt_checker.proofs.Judgements.{halted, judged_long, judged_memory, judged_past, judged_refused, judged_unended, judging_done, judging_going, judging_none, stopped, stopped_past}
use Rattle.mt_checker.proofs.judging.judge_lines.Goals as goal

pub lines-init : goal.lines-init
lines-init g c = record {
  login = refl;
  judging = judging_none c.args.checker.now.login (g.S.Source.left c.args.source.now) c.args.checker.now.state c.requires.keeps;
  few = omega arith;
  stays = g.met.S.Source.source_same c.args.source.now;
  faults = omega arith;
}

pub lines-preserved-in-Going : goal.lines-preserved-in-Going
lines-preserved-in-Going g c =
    let i = c.lines.invariant in
    let j = i.judging in
    let text = c.read_text.new.line.items in
    let new = c.take_line.new.checker.state in
    let says = subst (λ (l : List ℕ). Says checked.Going (stage_after l (Some j.stage) text) new) i.login (c.in-Going.ensures.says (Some j.stage) j.keeps) in
    record {
      login = c.in-Going.ensures.login ∙ i.login;
      judging = judging_going c.args.checker.now.login (g.S.Source.left c.args.source.now) (g.S.Source.left c.lines.source) (g.S.Source.left c.read_text.new.source) c.lines.checker.state c.lines.number j
          text new c.in-Whole.ensures.cuts (omega (arith, c.lines-test.true)) says;
      few = omega (arith, c.lines-test.true);
      stays = g.met.S.Source.source_joined _ _ _ i.stays c.in-Whole.ensures.stays;
      faults = omega (arith, i.faults, c.in-Whole.ensures.faults);
    }

pub lines-preserved : goal.lines-preserved
lines-preserved g c =
    let i = c.lines.invariant in
    let j = i.judging in
    let text = c.read_text.new.line.items in
    let new = c.take_line.new.checker.state in
    let says = subst (λ (l : List ℕ). Says checked.Accepted (stage_after l (Some j.stage) text) new) i.login (c.in-Accepted.ensures.says (Some j.stage) j.keeps) in
    record {
      login = c.in-Accepted.ensures.login ∙ i.login;
      judging = judging_done c.args.checker.now.login (g.S.Source.left c.args.source.now) (g.S.Source.left c.lines.source) (g.S.Source.left c.read_text.new.source) c.lines.checker.state c.lines.number j
          text new c.in-Whole.ensures.cuts (omega (arith, c.lines-test.true)) says;
      few = omega (arith, c.lines-test.true);
      stays = g.met.S.Source.source_joined _ _ _ i.stays c.in-Whole.ensures.stays;
      faults = omega (arith, i.faults, c.in-Whole.ensures.faults);
    }

pub returns-in-Refused-clause-judges : goal.returns-in-Refused-clause-judges
returns-in-Refused-clause-judges g c =
    let i = c.lines.invariant in
    let j = i.judging in
    let text = c.read_text.new.line.items in
    let new = c.take_line.new.checker.state in
    let says = subst (λ (l : List ℕ). Says checked.Refused (stage_after l (Some j.stage) text) new) i.login (c.in-Refused.ensures.says (Some j.stage) j.keeps) in
    judged_refused c.args.checker.now.login (g.S.Source.left c.args.source.now) (g.S.Source.left c.lines.source) (g.S.Source.left c.read_text.new.source) c.lines.checker.state c.lines.number j
    text new c.in-Whole.ensures.cuts (omega (arith, c.lines-test.true)) says

pub returns-in-Memory-take_line-clause-judges : goal.returns-in-Memory-take_line-clause-judges
returns-in-Memory-take_line-clause-judges g c =
    judged_memory c.args.checker.now.login (g.S.Source.left c.args.source.now) (g.S.Source.left c.lines.source) (g.S.Source.left c.read_text.new.source) c.lines.checker.state c.lines.number c.lines.invariant.judging
    c.read_text.new.line.items c.in-Whole.ensures.cuts

pub returns-in-Unended-clause-judges : goal.returns-in-Unended-clause-judges
returns-in-Unended-clause-judges g c =
    judged_unended c.args.checker.now.login (g.S.Source.left c.args.source.now) (g.S.Source.left c.lines.source) (g.S.Source.left c.read_text.new.source) c.lines.checker.state c.lines.number c.lines.invariant.judging
    c.read_text.new.line.items c.in-Unended.ensures.cuts

pub returns-in-TooLong-clause-judges : goal.returns-in-TooLong-clause-judges
returns-in-TooLong-clause-judges g c =
    judged_long c.args.checker.now.login (g.S.Source.left c.args.source.now) (g.S.Source.left c.lines.source) (g.S.Source.left c.read_text.new.source) c.lines.checker.state c.lines.number c.lines.invariant.judging
    c.read_text.new.line.items c.in-TooLong.ensures.cuts

pub returns-in-Failed-clause-judges : goal.returns-in-Failed-clause-judges
returns-in-Failed-clause-judges g c =
    stopped c.args.checker.now.login (g.S.Source.left c.args.source.now) (g.S.Source.left c.lines.source) (g.S.Source.left c.read_text.new.source) c.lines.checker.state c.lines.number c.lines.invariant.judging
    c.read_text.new.line.items c.in-Failed.ensures.cuts

pub returns-in-Memory-clause-judges : goal.returns-in-Memory-clause-judges
returns-in-Memory-clause-judges g c =
    halted c.args.checker.now.login (g.S.Source.left c.args.source.now) (g.S.Source.left c.lines.source) (g.S.Source.left c.read_text.new.source) c.lines.checker.state c.lines.number c.lines.invariant.judging
    c.read_text.new.line.items c.in-Memory.ensures.cuts

pub returns-in-Took-clause-judges : goal.returns-in-Took-clause-judges
returns-in-Took-clause-judges g c =
    let reads = c.in-Took.ensures.reads in
    let long = length-take-le c.in-Took.field-0 c.read.new.into reads.1 in
    judged_past c.args.checker.now.login (g.S.Source.left c.args.source.now) (g.S.Source.left c.lines.source) (g.S.Source.left c.read.new.self) c.lines.checker.state c.lines.number c.lines.invariant.judging
    (take c.in-Took.field-0 c.read.new.into) (omega (arith, reads.0, long)) (omega (arith, c.lines-test.false)) reads.2

pub returns-clause-judges : goal.returns-clause-judges
returns-clause-judges g c =
    stopped_past c.args.checker.now.login (g.S.Source.left c.args.source.now) (g.S.Source.left c.lines.source) (g.S.Source.left c.read.new.self) c.lines.checker.state c.lines.number c.lines.invariant.judging
    c.in-Failed-read.ensures.reads.0
