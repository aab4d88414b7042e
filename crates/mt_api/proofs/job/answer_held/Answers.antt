use Rattle.std.proofs.Common.{◌≡◌, refl, subst, sym}
use Rattle.mt_opening.specs.History.{Bytes}
use Rattle.mt_http.specs.BodyReading.{body_left}
use Rattle.mt_api.specs.Steps.{IsAll}
use Rattle.mt_api.specs.declared.answered.Answered.TheVariants as answered
use Rattle.mt_api.specs.declared.hold.Held.TheVariants as held
use Rattle.mt_api.proofs.Ends.{idle_keeps, memory_not_disk, memory_not_source, settled_not, settled_over}
use Rattle.mt_api.proofs.Lefts.{read_as, read_well}
use Rattle.mt_api.proofs.Jobs.{job_left}
use Rattle.mt_api.proofs.Plain.{idle}
use Rattle.mt_api.proofs.Puts.{settles_goes, stops_goes}
use Rattle.mt_api.proofs.job.answer_held.Goals as goal

pub returns-in-Whole-clause-goes : goal.returns-in-Whole-clause-goes
returns-in-Whole-clause-goes g c base h asked i e =
    let d = g.D.Disk in
    let tells = c.in-Whole.ensures.holds in
    let s = c.judge_held.ensures.settles base h asked i e in
    let all = subst (λ (x : Bytes). IsAll (body_left c.args.stream.now.framer (g.S.Source.left c.args.stream.now.source.now)) x) (sym tells.1.1) tells.1.0 in
    (s.0, settles_goes c.judge_held.result asked c.args.engine.now base h (body_left c.args.stream.now.framer (g.S.Source.left c.args.stream.now.source.now)) c.hold_body.new.body.framer.stage (d.seen c.judge_held.new.disk) c.judge_held.new.engine s.0 c.in-Whole.bytes all c.in-Whole.ensures.over s.1, s.2)

pub returns-in-Unfinished-clause-goes : goal.returns-in-Unfinished-clause-goes
returns-in-Unfinished-clause-goes g c base h asked i e =
    let d = g.D.Disk in
    let tells = c.in-Unfinished.ensures.holds in (
      h,
      stops_goes asked c.args.engine.now base h (body_left c.args.stream.now.framer (g.S.Source.left c.args.stream.now.source.now)) c.hold_body.new.body.framer.stage (d.seen c.args.disk.now) tells.0 (answered.Unfinished c.in-Unfinished.ending) c.args.engine.now tells.1 i
          (job_left c.args.login.now asked c.args.engine.now c.args.call e base h tells.0),
      idle d.seen d.may_leave d.moment d.left_since c.args.disk.now c.args.engine.now base h c.requires.over.stands i (g.met.D.Disk.only_now c.args.disk.now),
    )

pub returns-in-SourceFault-clause-goes : goal.returns-in-SourceFault-clause-goes
returns-in-SourceFault-clause-goes g c base h asked i e =
    let d = g.D.Disk in
    let tells = c.in-SourceFault.ensures.holds in (
      h,
      stops_goes asked c.args.engine.now base h (body_left c.args.stream.now.framer (g.S.Source.left c.args.stream.now.source.now)) c.hold_body.new.body.framer.stage (d.seen c.args.disk.now) tells.0 answered.SourceFault c.args.engine.now tells.1 i
          (job_left c.args.login.now asked c.args.engine.now c.args.call e base h tells.0),
      idle d.seen d.may_leave d.moment d.left_since c.args.disk.now c.args.engine.now base h c.requires.over.stands i (g.met.D.Disk.only_now c.args.disk.now),
    )

pub returns-in-Memory-clause-goes : goal.returns-in-Memory-clause-goes
returns-in-Memory-clause-goes g c base h asked i e =
    let d = g.D.Disk in
    (h, (refl, λ is_open. i), idle d.seen d.may_leave d.moment d.left_since c.args.disk.now c.args.engine.now base h c.requires.over.stands i (g.met.D.Disk.only_now c.args.disk.now))

pub returns-in-Whole-clause-goes_on : goal.returns-in-Whole-clause-goes_on
returns-in-Whole-clause-goes_on g c =
    let s = g.S.Source in
    record {
      over = settled_over c.judge_held.result c.hold_body.new.body.framer.stage c.judge_held.ensures.settled.is_settled c.in-Whole.ensures.over;
      sends = c.judge_held.ensures.settled.sends;
      keeps = c.judge_held.ensures.settled.keeps;
      body = read_well s.left s.read_faults s.source_stays c.args.stream.now c.hold_body.new.body _ (c.judge_held.result ≡ answered.SourceFault) (settled_not c.judge_held.result c.judge_held.ensures.settled.is_settled) c.hold_body.ensures.body;
    }

pub returns-in-Unfinished-clause-goes_on : goal.returns-in-Unfinished-clause-goes_on
returns-in-Unfinished-clause-goes_on g c =
    let d = g.D.Disk in
    let s = g.S.Source in
    record {
      over = c.in-Unfinished.ensures.over;
      sends = tt;
      keeps = idle_keeps d.seen d.may_leave d.faults c.args.disk.now (answered.Unfinished c.in-Unfinished.ending) c.args.engine.now c.requires.over.is_open c.requires.over.stands (λ x. cc);
      body = read_well s.left s.read_faults s.source_stays c.args.stream.now c.hold_body.new.body _ ((answered.Unfinished c.in-Unfinished.ending) ≡ answered.SourceFault) (λ x. cc) c.hold_body.ensures.body;
    }

pub returns-in-SourceFault-clause-goes_on : goal.returns-in-SourceFault-clause-goes_on
returns-in-SourceFault-clause-goes_on g c =
    let d = g.D.Disk in
    let s = g.S.Source in
    record {
      over = tt;
      sends = tt;
      keeps = idle_keeps d.seen d.may_leave d.faults c.args.disk.now answered.SourceFault c.args.engine.now c.requires.over.is_open c.requires.over.stands (λ x. cc);
      body = read_as s.left s.read_faults s.source_stays c.args.stream.now c.hold_body.new.body (c.hold_body.result ≡ held.SourceFault) _ (λ x. c.in-SourceFault.is) c.hold_body.ensures.body;
    }

pub returns-in-Memory-clause-goes_on : goal.returns-in-Memory-clause-goes_on
returns-in-Memory-clause-goes_on g c =
    let d = g.D.Disk in
    let s = g.S.Source in
    record {
      over = tt;
      sends = tt;
      keeps = idle_keeps d.seen d.may_leave d.faults c.args.disk.now answered.Memory c.args.engine.now c.requires.over.is_open c.requires.over.stands memory_not_disk;
      body = read_well s.left s.read_faults s.source_stays c.args.stream.now c.hold_body.new.body _ (answered.Memory ≡ answered.SourceFault) memory_not_source c.hold_body.ensures.body;
    }
