use Rattle.std.proofs.Common.{◌≡◌, ◌+◌, ℕ, sym, ap, ◌∙◌}
use Rattle.mt_opening.proofs.Held.{holding_in}
use Rattle.mt_api.specs.Answered.{used}
use Rattle.mt_api.specs.declared.answered.Answered.TheVariants as answered
use Rattle.mt_api.specs.declared.bodies.BodyEnd.TheVariants as body_end
use Rattle.mt_api.proofs.Ends.{ended_not, ended_over, held_ended, held_sends, leaves_same, settled_not, settled_over}
use Rattle.mt_api.proofs.Lefts.{all_front, read_as, read_well}
use Rattle.mt_api.proofs.Puts.{ended_goes, settles_goes, stays_left, whole_next}
use Rattle.mt_api.proofs.put.finish_body.Goals as goal

pub returns-in-Whole-clause-goes : goal.returns-in-Whole-clause-goes
returns-in-Whole-clause-goes g c base h qs asked left bytes e w all =
    let d = g.D.Disk in
    let s = c.judge_digest.ensures.settles base h qs asked bytes e w in
    (s.0, settles_goes c.judge_digest.result asked c.args.engine.now base h left c.end_body.new.body.framer.stage (d.seen c.judge_digest.new.disk) c.judge_digest.new.engine s.0 bytes all c.in-Whole.ensures.over s.1, s.2)

pub returns-in-Unfinished-clause-goes : goal.returns-in-Unfinished-clause-goes
returns-in-Unfinished-clause-goes g c base h qs asked left bytes e w all =
    let d = g.D.Disk in
    let engine = c.args.engine.now in
    let end = c.end_with in
    let next = whole_next (d.seen c.args.disk.now) engine c.args.run base h qs c.args.body bytes w
    ∙ ap (λ (n : ℕ). used engine + n) (sym (stays_left engine base h qs (holding_in (d.seen c.args.disk.now) engine base h c.args.run qs w.writing) asked c.args.call e c.requires.stores bytes)) in (
      h,
      ended_goes asked engine base h left c.end_body.new.body.framer.stage (d.seen end.new.disk) bytes end.result (answered.Unfinished c.in-Unfinished.ending) c.args.run engine end.new.engine all end.ensures.ends (end.ensures.current base h qs w.writing) (λ x. cc) next,
      leaves_same d.moment d.left_since c.args.disk.now end.new.disk base h (end.ensures.any_moment base h qs w.writing),
    )

pub returns-in-SourceFault-clause-goes : goal.returns-in-SourceFault-clause-goes
returns-in-SourceFault-clause-goes g c base h qs asked left bytes e w all =
    let d = g.D.Disk in
    let engine = c.args.engine.now in
    let end = c.end_with-in-SourceFault in
    let next = whole_next (d.seen c.args.disk.now) engine c.args.run base h qs c.args.body bytes w
    ∙ ap (λ (n : ℕ). used engine + n) (sym (stays_left engine base h qs (holding_in (d.seen c.args.disk.now) engine base h c.args.run qs w.writing) asked c.args.call e c.requires.stores bytes)) in (
      h,
      ended_goes asked engine base h left c.end_body.new.body.framer.stage (d.seen end.new.disk) bytes end.result answered.SourceFault c.args.run engine end.new.engine (all_front left bytes all) end.ensures.ends (end.ensures.current base h qs w.writing) (λ x. cc) next,
      leaves_same d.moment d.left_since c.args.disk.now end.new.disk base h (end.ensures.any_moment base h qs w.writing),
    )

pub returns-in-Whole-clause-goes_on : goal.returns-in-Whole-clause-goes_on
returns-in-Whole-clause-goes_on g c =
    let s = g.S.Source in
    record {
      over = settled_over c.judge_digest.result c.end_body.new.body.framer.stage c.judge_digest.ensures.settled.is_settled c.in-Whole.ensures.over;
      sends = held_sends c.judge_digest.result (g.D.Disk.seen c.judge_digest.new.disk) c.judge_digest.new.engine c.judge_digest.ensures.settled.held;
      keeps = c.judge_digest.ensures.settled.keeps;
      body = read_well s.left s.read_faults s.source_stays c.args.stream.now c.end_body.new.body _ (c.judge_digest.result ≡ answered.SourceFault) (settled_not c.judge_digest.result c.judge_digest.ensures.settled.is_settled) c.end_body.ensures.body;
    }

pub returns-in-Unfinished-clause-goes_on : goal.returns-in-Unfinished-clause-goes_on
returns-in-Unfinished-clause-goes_on g c =
    let d = g.D.Disk in
    let end = c.end_with in
    let s = g.S.Source in
    record {
      over = ended_over end.result (answered.Unfinished c.in-Unfinished.ending) c.args.engine.now c.args.run end.new.engine c.end_body.new.body.framer.stage end.ensures.ends c.in-Unfinished.ensures.over;
      sends = held_sends end.result (d.seen end.new.disk) end.new.engine (held_ended end.result (answered.Unfinished c.in-Unfinished.ending) c.args.engine.now c.args.run end.new.engine end.ensures.ends tt);
      keeps = end.ensures.keeps;
      body = read_well s.left s.read_faults s.source_stays c.args.stream.now c.end_body.new.body _ (end.result ≡ answered.SourceFault)
          (ended_not end.result (answered.Unfinished c.in-Unfinished.ending) c.args.engine.now c.args.run end.new.engine end.ensures.ends (λ x. cc)) c.end_body.ensures.body;
    }

pub returns-in-SourceFault-clause-goes_on : goal.returns-in-SourceFault-clause-goes_on
returns-in-SourceFault-clause-goes_on g c =
    let d = g.D.Disk in
    let end = c.end_with-in-SourceFault in
    let s = g.S.Source in
    record {
      over = ended_over end.result answered.SourceFault c.args.engine.now c.args.run end.new.engine c.end_body.new.body.framer.stage end.ensures.ends tt;
      sends = held_sends end.result (d.seen end.new.disk) end.new.engine (held_ended end.result answered.SourceFault c.args.engine.now c.args.run end.new.engine end.ensures.ends tt);
      keeps = end.ensures.keeps;
      body = read_as s.left s.read_faults s.source_stays c.args.stream.now c.end_body.new.body (c.end_body.result ≡ body_end.SourceFault) _ (λ x. c.in-SourceFault.is) c.end_body.ensures.body;
    }
