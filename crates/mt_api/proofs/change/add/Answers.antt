use Rattle.std.proofs.Common.{◌++◌, ◌∷◌, [], ℕ, ◌+◌, refl, sym, ap, ◌∙◌, subst, true≢false}
use Rattle.mt_account.specs.Taken.{IsTaken}
use Rattle.mt_answer.specs.Answer.{command_of, reply_to}
use Rattle.mt_answer.specs.Judging.{len_of, md5_of}
use Rattle.mt_body.specs.Stored.{bytes_of}
use Rattle.mt_opening.specs.Current.{EngineState}
use Rattle.mt_engine.specs.declared.engine.Accepted.TheVariants as accepted
use Rattle.mt_model.specs.CommandStep.{replay}
use Rattle.mt_model.specs.Rows.{Rows}
use Rattle.mt_types.specs.Values.{command_with}
use Rattle.mt_types.specs.declared.body.Body.{Body}
use Rattle.mt_types.specs.declared.reply.Reply.{Reply}
use Rattle.mt_api.specs.Answered.{answer_at, used}
use Rattle.mt_error.specs.declared.refused.Refused.{Refused}
use Rattle.mt_reply.specs.Replies.{error_reply}
use Rattle.mt_api.specs.Steps.{IsHeld, Replies}
use Rattle.mt_api.specs.declared.answered.Answered.TheVariants as answered
use Rattle.mt_api.proofs.Adds.{brings_stored, gives_added, held_reply, leaves_added, reached_none, reaches_added, settles_full}
use Rattle.mt_api.proofs.Ends.{held_ended, held_replied, leaves_at, leaves_same, memory_not_disk, memory_settles, not_disk, replied_not_disk, settled_ended, settled_replied}
use Rattle.mt_api.proofs.change.add.Goals as goal

pub accept-requires-clause-kind : goal.accept-requires-clause-kind
accept-requires-clause-kind g c = subst IsTaken (sym c.in-Some.ensures.kind) tt

-- want of memory for the reply
pub returns-in-Err-clause-settles : goal.returns-in-Err-clause-settles
returns-in-Err-clause-settles g c base h qs asked bytes e ready =
    let d = g.D.Disk in
    let w = c.end_with.ensures in (
      h,
      memory_settles (answer_at asked c.args.engine.now (replay base h) bytes) (used c.args.engine.now) base h (d.seen c.end_with.new.disk) c.end_with.result c.args.engine.now c.args.run c.end_with.new.engine w.ends (w.current base h qs ready.writing),
      leaves_same d.moment d.left_since c.args.disk.now c.end_with.new.disk base h (w.any_moment base h qs ready.writing),
    )

pub returns-in-Added-clause-settles : goal.returns-in-Added-clause-settles
returns-in-Added-clause-settles g c base h qs asked bytes e ready =
    let d = g.D.Disk in
    let engine = c.args.engine.now in
    let call = c.args.call in
    let command = c.in-Some.command in
    let is = ap (λ (rows : Rows Body). command_of rows call.request.doing c.args.body call.stamp.moment) (sym c.tree.ensures.rows) ∙ sym c.command_of.ensures.command ∙ c.in-Some.is in
    let brought = brings_stored (d.seen c.args.disk.now) engine c.args.run base h qs asked call c.args.body bytes e ready command is in
    let reach = c.in-Added.ensures.any_moment base h qs ready.writing brought in
    let says = c.in-Ok.ensures ∙ ap (λ (p : ℕ). reply_to len_of md5_of (record call.stamp { position = p + 1 }) engine.state.count engine.state.rows call.conditions call.request.doing c.args.body.md5) c.position-position.ensures.count in (
      h ++ command_with (bytes_of qs) command ∷ [],
      gives_added (d.seen c.args.disk.now) engine c.args.run base h qs asked call c.args.body bytes e ready command is c.in-Ok.reply (d.seen c.accept.new.disk) c.accept.new.self says c.in-Added.ensures.decided (c.in-Added.ensures.accepts base h qs ready.writing brought),
      leaves_added (d.seen c.args.disk.now) engine c.args.run base h qs asked call c.args.body bytes e ready command is d.moment d.left_since c.args.disk.now c.accept.new.disk accepted.Added reach.0 reach.1 reach.2,
    )

pub returns-in-Full-clause-settles : goal.returns-in-Full-clause-settles
returns-in-Full-clause-settles g c base h qs asked bytes e ready =
    let d = g.D.Disk in
    let engine = c.args.engine.now in
    let call = c.args.call in
    let command = c.in-Some.command in
    let is = ap (λ (rows : Rows Body). command_of rows call.request.doing c.args.body call.stamp.moment) (sym c.tree.ensures.rows) ∙ sym c.command_of.ensures.command ∙ c.in-Some.is in
    let brought = brings_stored (d.seen c.args.disk.now) engine c.args.run base h qs asked call c.args.body bytes e ready command is in
    let reach = c.in-Full.ensures.any_moment base h qs ready.writing brought in
    let same = reached_none accepted.Full engine c.args.run command (command_with (bytes_of qs) command) h reach.0 (λ x. cc) (λ x. cc) reach.1 in (
      h,
      settles_full (d.seen c.args.disk.now) engine c.args.run base h qs asked call c.args.body bytes e ready command is c.refuse.result (d.seen c.accept.new.disk) c.accept.new.self (subst (λ (r : Refused). Replies c.refuse.result (error_reply call.stamp r)) c.plain.ensures c.refuse.ensures) c.in-Full.ensures.decided (c.in-Full.ensures.accepts base h qs ready.writing brought),
      leaves_at d.moment d.left_since c.args.disk.now c.accept.new.disk base h reach.0 h same reach.2,
    )

pub returns-in-Disk-clause-settles : goal.returns-in-Disk-clause-settles
returns-in-Disk-clause-settles g c base h qs asked bytes e ready =
    let d = g.D.Disk in
    let engine = c.args.engine.now in
    let call = c.args.call in
    let command = c.in-Some.command in
    let is = ap (λ (rows : Rows Body). command_of rows call.request.doing c.args.body call.stamp.moment) (sym c.tree.ensures.rows) ∙ sym c.command_of.ensures.command ∙ c.in-Some.is in
    let brought = brings_stored (d.seen c.args.disk.now) engine c.args.run base h qs asked call c.args.body bytes e ready command is in
    let reach = c.in-Disk.ensures.any_moment base h qs ready.writing brought in
    (reach.0, (c.in-Disk.ensures.decided, reaches_added (d.seen c.args.disk.now) engine c.args.run base h qs asked call c.args.body bytes e ready command is accepted.Disk reach.0 reach.1), reach.2)

pub returns-in-Memory-clause-settles : goal.returns-in-Memory-clause-settles
returns-in-Memory-clause-settles g c base h qs asked bytes e ready =
    let d = g.D.Disk in
    let engine = c.args.engine.now in
    let call = c.args.call in
    let command = c.in-Some.command in
    let is = ap (λ (rows : Rows Body). command_of rows call.request.doing c.args.body call.stamp.moment) (sym c.tree.ensures.rows) ∙ sym c.command_of.ensures.command ∙ c.in-Some.is in
    let brought = brings_stored (d.seen c.args.disk.now) engine c.args.run base h qs asked call c.args.body bytes e ready command is in
    let reach = c.in-Memory.ensures.any_moment base h qs ready.writing brought in
    let same = reached_none accepted.Memory engine c.args.run command (command_with (bytes_of qs) command) h reach.0 (λ x. cc) (λ x. cc) reach.1 in
    (h, (refl, λ is_open. absurd (true≢false (sym c.in-Memory.ensures.decided ∙ is_open))), leaves_at d.moment d.left_since c.args.disk.now c.accept.new.disk base h reach.0 h same reach.2)

pub returns-in-Refused-clause-settles : goal.returns-in-Refused-clause-settles
returns-in-Refused-clause-settles g c base h qs asked bytes e ready =
    let d = g.D.Disk in
    let engine = c.args.engine.now in
    let call = c.args.call in
    let command = c.in-Some.command in
    let is = ap (λ (rows : Rows Body). command_of rows call.request.doing c.args.body call.stamp.moment) (sym c.tree.ensures.rows) ∙ sym c.command_of.ensures.command ∙ c.in-Some.is in
    let brought = brings_stored (d.seen c.args.disk.now) engine c.args.run base h qs asked call c.args.body bytes e ready command is in
    let reach = c.in-Refused.ensures.any_moment base h qs ready.writing brought in
    let same = reached_none (accepted.Refused c.in-Refused.field-0) engine c.args.run command (command_with (bytes_of qs) command) h reach.0 (λ x. cc) (λ x. cc) reach.1 in
    (h, (refl, λ is_open. c.in-Refused.ensures.accepts base h qs ready.writing brought), leaves_at d.moment d.left_since c.args.disk.now c.accept.new.disk base h reach.0 h same reach.2)

pub returns-in-Err-clause-settled : goal.returns-in-Err-clause-settled
returns-in-Err-clause-settled g c =
    let end = c.end_with in
    record {
      keeps = end.ensures.keeps;
      is_settled = settled_ended end.result answered.Memory c.args.engine.now c.args.run end.new.engine end.ensures.ends tt;
      held = held_ended end.result answered.Memory c.args.engine.now c.args.run end.new.engine end.ensures.ends tt;
    }

pub returns-in-Added-clause-settled : goal.returns-in-Added-clause-settled
returns-in-Added-clause-settled g c =
    let engine = c.args.engine.now in
    let call = c.args.call in
    let is = ap (λ (rows : Rows Body). command_of rows call.request.doing c.args.body call.stamp.moment) (sym c.tree.ensures.rows) ∙ sym c.command_of.ensures.command ∙ c.in-Some.is in
    record {
      keeps = record {
        stays = c.in-Added.ensures.keeps;
        stands = c.in-Added.ensures.stands;
        live = λ d m. ap (λ (x : EngineState). x.log.closed) c.in-Added.ensures.decided.1 ∙ c.requires.ready.over.is_open;
        disk = λ x. absurd (replied_not_disk c.in-Ok.reply x);
      };
      is_settled = tt;
      held = subst (λ (r : Reply Body). IsHeld r.body) (sym c.in-Ok.ensures)
          (held_reply (record call.stamp { position = c.position-position.result + 1 }) engine.state.count engine.state.rows call.conditions call.request.doing c.args.body.md5 c.args.body call.stamp.moment c.in-Some.command is);
    }

pub returns-in-Full-clause-settled : goal.returns-in-Full-clause-settled
returns-in-Full-clause-settled g c = record {
  keeps = record { stays = c.in-Full.ensures.keeps; stands = c.in-Full.ensures.stands; live = λ d m. ap (λ (x : EngineState). x.log.closed) c.in-Full.ensures.decided.2 ∙ c.requires.ready.over.is_open; disk = λ x. absurd (not_disk c.refuse.result (error_reply c.args.call.stamp c.plain.result) c.refuse.ensures x) };
  is_settled = settled_replied c.refuse.result (error_reply c.args.call.stamp c.plain.result) c.refuse.ensures;
  held = held_replied c.refuse.result (error_reply c.args.call.stamp c.plain.result) tt c.refuse.ensures;
}

pub returns-in-Disk-clause-settled : goal.returns-in-Disk-clause-settled
returns-in-Disk-clause-settled g c = record {
  keeps = record { stays = c.in-Disk.ensures.keeps; stands = c.in-Disk.ensures.stands; live = λ d m. absurd (d refl); disk = λ x. c.in-Disk.ensures.disk refl };
  is_settled = tt;
  held = tt;
}

pub returns-in-Memory-clause-settled : goal.returns-in-Memory-clause-settled
returns-in-Memory-clause-settled g c = record {
  keeps = record { stays = c.in-Memory.ensures.keeps; stands = c.in-Memory.ensures.stands; live = λ d m. absurd (m refl); disk = λ x. absurd (memory_not_disk x) };
  is_settled = tt;
  held = tt;
}

pub returns-in-Refused-clause-settled : goal.returns-in-Refused-clause-settled
returns-in-Refused-clause-settled g c = record {
  keeps = record { stays = c.in-Refused.ensures.keeps; stands = c.in-Refused.ensures.stands; live = λ d m. absurd (m refl); disk = λ x. absurd (memory_not_disk x) };
  is_settled = tt;
  held = tt;
}
