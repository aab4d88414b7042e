use Rattle.std.proofs.Common.{◌≤◌, ℕ, refl, sym, ap, subst, ◌∙◌, arith}
use Rattle.mt_base.specs.declared.limits.TheConstants.{LAST_MOMENT}
use Rattle.mt_http.specs.BodyReading.{body_left}
use Rattle.mt_reply.specs.declared.stamp.Stamp.{Stamp}
use Rattle.mt_request.specs.Laws.{FitsAsked}
use Rattle.mt_api.specs.Answered.{Asked, said}
use Rattle.mt_api.specs.declared.answered.Answered.TheVariants as answered
use Rattle.mt_api.proofs.Ends.{idle_keeps, memory_not_disk, memory_not_source}
use Rattle.mt_api.proofs.Plain.{idle}
use Rattle.mt_api.proofs.Tops.{goes_answers, hears_all, serves_on}
use Rattle.mt_api.proofs.request.answer.Goals as goal

pub returns-in-Err-clause-hears : goal.returns-in-Err-clause-hears
returns-in-Err-clause-hears g c =
    let left = g.S.Source.left c.args.body.now.source.now in
    hears_all answered.Memory c.args.body.now.framer c.args.body.now.framer left left refl tt

pub returns-in-Err-clause-answers : goal.returns-in-Err-clause-answers
returns-in-Err-clause-answers g c base h i =
    let d = g.D.Disk in
    (h, (refl, λ is_open. i), idle d.seen d.may_leave d.moment d.left_since c.args.disk.now c.args.engine.now base h c.requires.ready.stands i (g.met.D.Disk.only_now c.args.disk.now))

pub answer_rows-requires-clause-fits : goal.answer_rows-requires-clause-fits
answer_rows-requires-clause-fits g c =
    subst FitsAsked (sym c.in-Ok.ensures ∙ c.in-Rows.is) (c.asked_within_limits.ensures c.args.login.now c.args.head.now c.requires.few)

pub returns-in-Rows-clause-hears : goal.returns-in-Rows-clause-hears
returns-in-Rows-clause-hears g c =
    let s = g.S.Source in
    hears_all c.answer_rows.result c.args.body.now.framer c.answer_rows.new.body.framer (s.left c.args.body.now.source.now) (s.left c.answer_rows.new.body.source.now) c.answer_rows.ensures.goes_on.body.after c.answer_rows.ensures.goes_on.over

pub returns-in-Rows-clause-answers : goal.returns-in-Rows-clause-answers
returns-in-Rows-clause-answers g c base h i =
    let d = g.D.Disk in
    let s = g.S.Source in
    let asked : Asked = record { login = c.args.login.now; head = c.args.head.now; body = said c.args.body.now.framer (s.left c.args.body.now.source.now); moment = c.args.now } in
    let r = c.answer_rows.ensures.goes c.args.login.now asked.body base h i (sym c.in-Ok.ensures ∙ c.in-Rows.is) in
    (r.0, goes_answers c.answer_rows.result asked c.args.engine.now base h c.args.body.now.framer c.answer_rows.new.body.framer (s.left c.args.body.now.source.now) (s.left c.answer_rows.new.body.source.now) (d.seen c.answer_rows.new.disk) c.answer_rows.new.engine r.0 refl c.answer_rows.ensures.goes_on.body.after r.1, r.2)

pub returns-in-Rows-clause-serves : goal.returns-in-Rows-clause-serves
returns-in-Rows-clause-serves g c =
    let d = g.D.Disk in
    let s = g.S.Source in
    let asked : Asked = record { login = c.args.login.now; head = c.args.head.now; body = said c.args.body.now.framer (s.left c.args.body.now.source.now); moment = c.args.now } in
    serves_on c.answer_rows.result asked (d.seen c.args.disk.now) (d.seen c.answer_rows.new.disk) c.args.engine.now c.answer_rows.new.engine (body_left c.args.body.now.framer (s.left c.args.body.now.source.now)) c.answer_rows.new.body.framer.stage
    c.requires.ready.serves c.requires.ready.is_open c.answer_rows.ensures.goes_on.keeps.stays.told (λ base h i. let r = c.answer_rows.ensures.goes c.args.login.now asked.body base h i (sym c.in-Ok.ensures ∙ c.in-Rows.is) in (r.0, r.1))

pub answer_job-requires : goal.answer_job-requires
answer_job-requires g c = record {
  over = c.requires.ready;
  moment = subst (λ (n : ℕ). n ≤ LAST_MOMENT) (sym (ap (λ (s : Stamp). s.moment) c.stamp_of-stamp.ensures)) c.requires.moment;
}

pub returns-in-Jobs-clause-hears : goal.returns-in-Jobs-clause-hears
returns-in-Jobs-clause-hears g c =
    let s = g.S.Source in
    hears_all c.answer_job.result c.args.body.now.framer c.answer_job.new.stream.framer (s.left c.args.body.now.source.now) (s.left c.answer_job.new.stream.source.now) c.answer_job.ensures.goes_on.body.after c.answer_job.ensures.goes_on.over

pub returns-in-Jobs-clause-answers : goal.returns-in-Jobs-clause-answers
returns-in-Jobs-clause-answers g c base h i =
    let d = g.D.Disk in
    let s = g.S.Source in
    let asked : Asked = record { login = c.args.login.now; head = c.args.head.now; body = said c.args.body.now.framer (s.left c.args.body.now.source.now); moment = c.args.now } in
    let r = c.answer_job.ensures.goes base h asked i (record { login_is = refl; asks = sym c.in-Ok.ensures ∙ c.in-Jobs.is; stamp = c.stamp_of-stamp.ensures }) in
    (r.0, goes_answers c.answer_job.result asked c.args.engine.now base h c.args.body.now.framer c.answer_job.new.stream.framer (s.left c.args.body.now.source.now) (s.left c.answer_job.new.stream.source.now) (d.seen c.answer_job.new.disk) c.answer_job.new.engine r.0 refl c.answer_job.ensures.goes_on.body.after r.1, r.2)

pub returns-in-Jobs-clause-serves : goal.returns-in-Jobs-clause-serves
returns-in-Jobs-clause-serves g c =
    let d = g.D.Disk in
    let s = g.S.Source in
    let asked : Asked = record { login = c.args.login.now; head = c.args.head.now; body = said c.args.body.now.framer (s.left c.args.body.now.source.now); moment = c.args.now } in
    serves_on c.answer_job.result asked (d.seen c.args.disk.now) (d.seen c.answer_job.new.disk) c.args.engine.now c.answer_job.new.engine (body_left c.args.body.now.framer (s.left c.args.body.now.source.now)) c.answer_job.new.stream.framer.stage
    c.requires.ready.serves c.requires.ready.is_open c.answer_job.ensures.goes_on.keeps.stays.told (λ base h i. let r = c.answer_job.ensures.goes base h asked i (record { login_is = refl; asks = sym c.in-Ok.ensures ∙ c.in-Jobs.is; stamp = c.stamp_of-stamp.ensures }) in (r.0, r.1))

pub returns-in-Err-clause-goes_on : goal.returns-in-Err-clause-goes_on
returns-in-Err-clause-goes_on g c =
    let d = g.D.Disk in
    record {
      over = tt;
      sends = tt;
      keeps = idle_keeps d.seen d.may_leave d.faults c.args.disk.now answered.Memory c.args.engine.now c.requires.ready.is_open c.requires.ready.stands memory_not_disk;
      body = record { source = refl; stays = g.met.S.Source.source_same _; after = refl; reads = omega arith; failed = λ x. absurd (memory_not_source x) };
    }
