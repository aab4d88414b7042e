use Rattle.std.proofs.Common.{◌≡◌, None, Some, sym, ap, ◌∙◌, subst, arith}
use Rattle.md5.specs.Md5.{md5}
use Rattle.mt_account.specs.Taken.{IsTaken}
use Rattle.mt_answer.specs.JobAnswer.{job_command_of, job_reply_to}
use Rattle.mt_answer.specs.JobLaws.{IsKindOfJobs}
use Rattle.mt_answer.specs.declared.posted.Posted.{Posted}
use Rattle.mt_opening.proofs.Held.{told_now}
use Rattle.mt_log.specs.LogImage.{payloads_of}
use Rattle.mt_log.specs.RunState.{RunState}
use Rattle.mt_types.specs.Kinds.{Kind, OnRows, OnJobs, OnEnds, OnUploads, kind_of}
use Rattle.mt_types.specs.declared.body.Body.{Body}
use Rattle.mt_api.specs.Jobs.{job_refusal}
use Rattle.mt_api.proofs.Ends.{held_replied, held_sends, idle_keeps, not_disk, settled_replied}
use Rattle.mt_api.proofs.Jobs.{held_job, job_looks, no_texts}
use Rattle.mt_api.proofs.Plain.{idle}
use Rattle.mt_api.proofs.job.change_or_look.Goals as goal

taken_kind : (k : Kind) → IsKindOfJobs k → IsTaken k
taken_kind OnRows is = tt
taken_kind OnJobs is = tt
taken_kind OnEnds is = tt
taken_kind OnUploads is = absurd is

pub add_job-requires : goal.add_job-requires
add_job-requires g c = record {
  ready = record {
    over = record { running = c.begin_run-run.ensures.goes_on.running; order = c.begin_run-run.ensures.goes_on.order; is_open = c.requires.ready.over.is_open };
    moment = c.requires.ready.moment;
    kind = taken_kind (kind_of c.in-Some.command) c.in-Some.ensures.kind;
    limits = c.in-Some.ensures.limits;
  };
}

pub returns-in-Some-clause-settles : goal.returns-in-Some-clause-settles
returns-in-Some-clause-settles g c base h asked bytes i e asks none =
    let d = g.D.Disk in
    let engine = c.args.engine.now in
    let call = c.args.call in
    let w = c.begin_run-run.ensures.writing base h i (payloads_of i.is_read.files) (told_now (d.seen c.args.disk.now) engine base h i) in
    let fresh : c.begin_run-run.result.next ≡ engine.log.gate = ap (λ (r : RunState). r.next) c.begin_run-run.ensures.place in
    c.add_job.ensures.settles base h (payloads_of i.is_read.files) asked None bytes e (record {
      writing = w;
      none = subst (λ (p : Posted). job_refusal engine call.request p (Some (md5 bytes)) ≡ None) asks none;
      is = subst (λ (p : Posted). job_command_of call.request.doing p None call.stamp.moment ≡ Some c.in-Some.command) asks (sym c.job_command_of.ensures.command ∙ c.in-Some.is);
      brings = sym (no_texts c.args.login.now engine.state call.request.doing call.stamp.moment c.requires.stays);
      stored = tt;
      next = omega (arith, fresh);
      room = λ is. cc;
    })

pub returns-in-None-clause-settles : goal.returns-in-None-clause-settles
returns-in-None-clause-settles g c base h asked bytes i e asks none =
    let d = g.D.Disk in
    let engine = c.args.engine.now in
    let call = c.args.call in (
      h,
      job_looks (d.seen c.args.disk.now) c.args.login.now asked engine call e base h i bytes (subst (λ (p : Posted). job_refusal engine call.request p (Some (md5 bytes)) ≡ None) asks none) c.requires.stays
          (subst (λ (p : Posted). job_command_of {B = Body} call.request.doing p None call.stamp.moment ≡ None) asks (sym c.job_command_of.ensures.command ∙ c.in-None.is)) c.look_job.result c.look_job.ensures,
      idle d.seen d.may_leave d.moment d.left_since c.args.disk.now engine base h c.requires.ready.over.stands i (g.met.D.Disk.only_now c.args.disk.now),
    )

pub returns-in-Some-clause-settled : goal.returns-in-Some-clause-settled
returns-in-Some-clause-settled g c = record {
  keeps = c.add_job.ensures.settled.keeps;
  is_settled = c.add_job.ensures.settled.is_settled;
  sends = held_sends c.add_job.result (g.D.Disk.seen c.add_job.new.disk) c.add_job.new.engine c.add_job.ensures.settled.held;
}

pub returns-in-None-clause-settled : goal.returns-in-None-clause-settled
returns-in-None-clause-settled g c =
    let d = g.D.Disk in
    let engine = c.args.engine.now in
    let call = c.args.call in
    let said = job_reply_to c.args.login.now call.stamp engine.state call.request.doing in
    record {
      keeps = idle_keeps d.seen d.may_leave d.faults c.args.disk.now c.look_job.result engine c.requires.ready.over.is_open c.requires.ready.over.stands (not_disk c.look_job.result said c.look_job.ensures);
      is_settled = settled_replied c.look_job.result said c.look_job.ensures;
      sends = held_sends c.look_job.result (d.seen c.args.disk.now) engine (held_replied c.look_job.result said (held_job c.args.login.now call.stamp engine.state call.request.doing) c.look_job.ensures);
    }
