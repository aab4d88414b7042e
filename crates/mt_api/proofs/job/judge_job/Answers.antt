use Rattle.std.proofs.Common.{Some, refl, sym, ◌∙◌}
use Rattle.md5.specs.Md5.{md5}
use Rattle.mt_opening.proofs.Held.{holding_now}
use Rattle.mt_log.specs.LogImage.{payloads_of}
use Rattle.mt_reply.specs.Replies.{error_reply}
use Rattle.mt_api.proofs.Ends.{held_replied, held_sends, idle_keeps, not_disk, settled_replied}
use Rattle.mt_api.proofs.Jobs.{asks_this, job_refused, job_refuses, same_cause, same_judged}
use Rattle.mt_api.proofs.Plain.{idle}
use Rattle.mt_api.proofs.job.judge_job.Goals as goal

pub returns-in-Some-clause-settles : goal.returns-in-Some-clause-settles
returns-in-Some-clause-settles g c base h asked bytes i e asks tells =
    let d = g.D.Disk in
    let engine = c.args.engine.now in
    let call = c.args.call in
    let login = c.args.login.now in
    let is = sym (same_cause engine login call.request c.args.posted bytes asks) ∙ sym (same_judged engine call.request c.args.posted c.args.digest (Some (md5 bytes)) tells) ∙ sym c.refusal_by.ensures ∙ c.in-Some.is in (
      h,
      job_refuses login asked engine call e base h c.refuse.result bytes c.in-Some.why (d.seen c.args.disk.now) engine
          (job_refused login asked engine call e base h (payloads_of i.is_read.files) (holding_now (d.seen c.args.disk.now) engine base h i) bytes c.in-Some.why is) c.refuse.ensures i refl,
      idle d.seen d.may_leave d.moment d.left_since c.args.disk.now engine base h c.requires.ready.over.stands i (g.met.D.Disk.only_now c.args.disk.now),
    )

pub returns-in-None-clause-settles : goal.returns-in-None-clause-settles
returns-in-None-clause-settles g c base h asked bytes i e asks tells =
    let engine = c.args.engine.now in
    let call = c.args.call in
    let none = sym (same_judged engine call.request c.args.posted c.args.digest (Some (md5 bytes)) tells) ∙ sym c.refusal_by.ensures ∙ c.in-None.is in
    c.carry_out_job.ensures.settles base h asked bytes i e (asks_this engine c.args.login.now call.request c.args.posted bytes asks none) none

pub carry_out_job-requires-clause-is_taken : goal.carry_out_job-requires-clause-is_taken
carry_out_job-requires-clause-is_taken g c = (c.args.digest, sym c.refusal_by.ensures ∙ c.in-None.is)

pub returns-in-Some-clause-settled : goal.returns-in-Some-clause-settled
returns-in-Some-clause-settled g c =
    let d = g.D.Disk in
    let said = error_reply c.args.call.stamp c.in-Some.why in
    record {
      keeps = idle_keeps d.seen d.may_leave d.faults c.args.disk.now c.refuse.result c.args.engine.now c.requires.ready.over.is_open c.requires.ready.over.stands (not_disk c.refuse.result said c.refuse.ensures);
      is_settled = settled_replied c.refuse.result said c.refuse.ensures;
      sends = held_sends c.refuse.result (d.seen c.args.disk.now) c.args.engine.now (held_replied c.refuse.result said tt c.refuse.ensures);
    }
