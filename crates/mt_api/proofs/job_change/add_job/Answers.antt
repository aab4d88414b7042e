use Rattle.std.proofs.Common.{◌++◌, ◌∷◌, [], ℕ, ◌+◌, refl, sym, ap, ◌∙◌, subst, true≢false}
use Rattle.mt_answer.specs.JobAnswer.{job_reply_to}
use Rattle.mt_body.specs.Stored.{bytes_of}
use Rattle.mt_opening.specs.Current.{EngineState}
use Rattle.mt_engine.specs.declared.engine.Accepted.TheVariants as accepted
use Rattle.mt_error.specs.declared.refused.Refused.{Refused}
use Rattle.mt_model.specs.CommandStep.{replay}
use Rattle.mt_reply.specs.Replies.{error_reply}
use Rattle.mt_types.specs.Values.{command_with}
use Rattle.mt_types.specs.declared.body.Body.{Body}
use Rattle.mt_types.specs.declared.reply.Reply.{Reply}
use Rattle.mt_api.specs.Answered.{answer_at, used}
use Rattle.mt_api.specs.Steps.{IsHeld, Replies}
use Rattle.mt_api.proofs.Adds.{reached_none}
use Rattle.mt_api.proofs.Ends.{held_replied, leaves_at, leaves_same, memory_not_disk, not_disk, replied_not_disk, settled_replied}
use Rattle.mt_api.proofs.JobAdds.{job_gives, job_leaves, job_reaches, job_settles_full, job_stored}
use Rattle.mt_api.proofs.Jobs.{held_job}
use Rattle.mt_api.proofs.job_change.add_job.Goals as goal

-- want of memory for the reply
pub returns-in-Err-clause-settles : goal.returns-in-Err-clause-settles
returns-in-Err-clause-settles g c base h qs asked archive bytes e w =
    let d = g.D.Disk in (
      h,
      c.give_up.ensures.settles (answer_at asked c.args.engine.now (replay base h) bytes) (used c.args.engine.now) base h qs w.writing,
      leaves_same d.moment d.left_since c.args.disk.now c.give_up.new.disk base h (c.give_up.ensures.any_moment base h qs w.writing),
    )

pub returns-in-Added-clause-settles : goal.returns-in-Added-clause-settles
returns-in-Added-clause-settles g c base h qs asked archive bytes e w =
    let d = g.D.Disk in
    let engine = c.args.engine.now in
    let call = c.args.call in
    let command = c.args.command in
    let brought = job_stored (d.seen c.args.disk.now) engine c.args.run base h qs c.args.login.now asked call archive command bytes e w in
    let reach = c.in-Added.ensures.any_moment base h qs w.writing brought in
    let says = c.in-Ok.ensures ∙ ap (λ (p : ℕ). job_reply_to c.args.login.now (record call.stamp { position = p + 1 }) engine.state call.request.doing) c.position-position.ensures.count in (
      h ++ command_with (bytes_of qs) command ∷ [],
      job_gives (d.seen c.args.disk.now) engine c.args.run base h qs c.args.login.now asked call archive command bytes e w c.in-Ok.reply (d.seen c.accept.new.disk) c.accept.new.self says c.in-Added.ensures.decided (c.in-Added.ensures.accepts base h qs w.writing brought),
      job_leaves (d.seen c.args.disk.now) engine c.args.run base h qs c.args.login.now asked call archive command bytes e w d.moment d.left_since c.args.disk.now c.accept.new.disk accepted.Added reach.0 reach.1 reach.2,
    )

pub returns-in-Full-clause-settles : goal.returns-in-Full-clause-settles
returns-in-Full-clause-settles g c base h qs asked archive bytes e w =
    let d = g.D.Disk in
    let engine = c.args.engine.now in
    let call = c.args.call in
    let command = c.args.command in
    let brought = job_stored (d.seen c.args.disk.now) engine c.args.run base h qs c.args.login.now asked call archive command bytes e w in
    let reach = c.in-Full.ensures.any_moment base h qs w.writing brought in
    let same = reached_none accepted.Full engine c.args.run command (command_with (bytes_of qs) command) h reach.0 (λ x. cc) (λ x. cc) reach.1 in (
      h,
      job_settles_full (d.seen c.args.disk.now) engine c.args.run base h qs c.args.login.now asked call archive command bytes e w c.refuse.result (d.seen c.accept.new.disk) c.accept.new.self
          (subst (λ (r : Refused). Replies c.refuse.result (error_reply call.stamp r)) c.plain.ensures c.refuse.ensures) c.in-Full.ensures.decided (c.in-Full.ensures.accepts base h qs w.writing brought),
      leaves_at d.moment d.left_since c.args.disk.now c.accept.new.disk base h reach.0 h same reach.2,
    )

pub returns-in-Disk-clause-settles : goal.returns-in-Disk-clause-settles
returns-in-Disk-clause-settles g c base h qs asked archive bytes e w =
    let d = g.D.Disk in
    let engine = c.args.engine.now in
    let call = c.args.call in
    let command = c.args.command in
    let brought = job_stored (d.seen c.args.disk.now) engine c.args.run base h qs c.args.login.now asked call archive command bytes e w in
    let reach = c.in-Disk.ensures.any_moment base h qs w.writing brought in
    (reach.0, (c.in-Disk.ensures.decided, job_reaches (d.seen c.args.disk.now) engine c.args.run base h qs c.args.login.now asked call archive command bytes e w accepted.Disk reach.0 reach.1), reach.2)

pub returns-in-Memory-clause-settles : goal.returns-in-Memory-clause-settles
returns-in-Memory-clause-settles g c base h qs asked archive bytes e w =
    let d = g.D.Disk in
    let engine = c.args.engine.now in
    let command = c.args.command in
    let brought = job_stored (d.seen c.args.disk.now) engine c.args.run base h qs c.args.login.now asked c.args.call archive command bytes e w in
    let reach = c.in-Memory.ensures.any_moment base h qs w.writing brought in
    let same = reached_none accepted.Memory engine c.args.run command (command_with (bytes_of qs) command) h reach.0 (λ x. cc) (λ x. cc) reach.1 in
    (h, (refl, λ is_open. absurd (true≢false (sym c.in-Memory.ensures.decided ∙ is_open))), leaves_at d.moment d.left_since c.args.disk.now c.accept.new.disk base h reach.0 h same reach.2)

pub returns-in-Refused-clause-settles : goal.returns-in-Refused-clause-settles
returns-in-Refused-clause-settles g c base h qs asked archive bytes e w =
    let d = g.D.Disk in
    let engine = c.args.engine.now in
    let command = c.args.command in
    let brought = job_stored (d.seen c.args.disk.now) engine c.args.run base h qs c.args.login.now asked c.args.call archive command bytes e w in
    let reach = c.in-Refused.ensures.any_moment base h qs w.writing brought in
    let same = reached_none (accepted.Refused c.in-Refused.field-0) engine c.args.run command (command_with (bytes_of qs) command) h reach.0 (λ x. cc) (λ x. cc) reach.1 in
    (h, (refl, λ is_open. c.in-Refused.ensures.accepts base h qs w.writing brought), leaves_at d.moment d.left_since c.args.disk.now c.accept.new.disk base h reach.0 h same reach.2)

pub returns-in-Added-clause-settled : goal.returns-in-Added-clause-settled
returns-in-Added-clause-settled g c =
    let engine = c.args.engine.now in
    let call = c.args.call in
    record {
      keeps = record {
        stays = c.in-Added.ensures.keeps;
        stands = c.in-Added.ensures.stands;
        live = λ d m. ap (λ (x : EngineState). x.log.closed) c.in-Added.ensures.decided.1 ∙ c.requires.ready.over.is_open;
        disk = λ x. absurd (replied_not_disk c.in-Ok.reply x);
      };
      is_settled = tt;
      held = subst (λ (r : Reply Body). IsHeld r.body) (sym c.in-Ok.ensures) (held_job c.args.login.now (record call.stamp { position = c.position-position.result + 1 }) engine.state call.request.doing);
    }

pub returns-in-Full-clause-settled : goal.returns-in-Full-clause-settled
returns-in-Full-clause-settled g c = record {
  keeps = record { stays = c.in-Full.ensures.keeps; stands = c.in-Full.ensures.stands; live = λ d m. ap (λ (x : EngineState). x.log.closed) c.in-Full.ensures.decided.2 ∙ c.requires.ready.over.is_open; disk = λ x. absurd (not_disk c.refuse.result (error_reply c.args.call.stamp c.plain.result) c.refuse.ensures x) };
  is_settled = settled_replied c.refuse.result (error_reply c.args.call.stamp c.plain.result) c.refuse.ensures;
  held = held_replied c.refuse.result (error_reply c.args.call.stamp c.plain.result) tt c.refuse.ensures;
}

pub returns-in-Disk-clause-settled : goal.returns-in-Disk-clause-settled
returns-in-Disk-clause-settled g c = record {
  keeps = record { stays = c.in-Disk.ensures.keeps; stands = c.in-Disk.ensures.stands; live = λ d m. absurd (d refl); disk = λ x. c.in-Disk.ensures.disk refl };
  is_settled = tt;
  held = tt;
}

pub returns-in-Memory-clause-settled : goal.returns-in-Memory-clause-settled
returns-in-Memory-clause-settled g c = record {
  keeps = record { stays = c.in-Memory.ensures.keeps; stands = c.in-Memory.ensures.stands; live = λ d m. absurd (m refl); disk = λ x. absurd (memory_not_disk x) };
  is_settled = tt;
  held = tt;
}

pub returns-in-Refused-clause-settled : goal.returns-in-Refused-clause-settled
returns-in-Refused-clause-settled g c = record {
  keeps = record { stays = c.in-Refused.ensures.keeps; stands = c.in-Refused.ensures.stands; live = λ d m. absurd (m refl); disk = λ x. absurd (memory_not_disk x) };
  is_settled = tt;
  held = tt;
}
