use Rattle.std.proofs.Common.{refl, sym, ap, ◌∙◌, arith}
use Rattle.mt_answer.specs.Judging.{len_of, stores_body}
use Rattle.mt_model.specs.Rows.{Rows}
use Rattle.mt_types.specs.declared.body.Body.{Body}
use Rattle.mt_api.specs.declared.answered.Answered.TheVariants as answered
use Rattle.mt_api.proofs.Ends.{idle_keeps, memory_not_disk, memory_not_source}
use Rattle.mt_api.proofs.Plain.{idle}
use Rattle.mt_api.proofs.request.answer_rows.Goals as goal

pub returns-in-Err-clause-goes : goal.returns-in-Err-clause-goes
returns-in-Err-clause-goes g c login told base h i asks =
    let d = g.D.Disk in
    (h, (refl, λ is_open. i), idle d.seen d.may_leave d.moment d.left_since c.args.disk.now c.args.engine.now base h c.requires.ready.stands i (g.met.D.Disk.only_now c.args.disk.now))

pub put-requires-clause-stores : goal.put-requires-clause-stores
put-requires-clause-stores g c =
    ap (λ (rows : Rows Body). stores_body len_of c.in-Ok.call.request rows c.in-Ok.call.conditions) (sym c.tree.ensures.rows) ∙ sym c.stores_body.ensures ∙ c.if-stores_body.true

pub returns-then-stores_body-clause-goes : goal.returns-then-stores_body-clause-goes
returns-then-stores_body-clause-goes g c login told base h i asks =
    c.put.ensures.goes base h (record { login = login; head = c.args.head.now; body = told; moment = c.args.now }) i (c.in-Ok.ensures.call login told asks)

pub returns-else-stores_body-clause-goes : goal.returns-else-stores_body-clause-goes
returns-else-stores_body-clause-goes g c login told base h i asks =
    let plain = ap (λ (rows : Rows Body). stores_body len_of c.in-Ok.call.request rows c.in-Ok.call.conditions) (sym c.tree.ensures.rows) ∙ sym c.stores_body.ensures ∙ c.if-stores_body.false in
    c.answer_unstored.ensures.goes base h (record { login = login; head = c.args.head.now; body = told; moment = c.args.now }) i plain (c.in-Ok.ensures.call login told asks)

pub returns-in-Err-clause-goes_on : goal.returns-in-Err-clause-goes_on
returns-in-Err-clause-goes_on g c =
    let d = g.D.Disk in
    record {
      over = tt;
      sends = tt;
      keeps = idle_keeps d.seen d.may_leave d.faults c.args.disk.now answered.Memory c.args.engine.now c.requires.ready.is_open c.requires.ready.stands memory_not_disk;
      body = record { source = refl; stays = g.met.S.Source.source_same _; after = refl; reads = omega arith; failed = λ x. absurd (memory_not_source x) };
    }
