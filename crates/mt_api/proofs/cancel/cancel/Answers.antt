use Rattle.std.proofs.Common.{◌+◌, ◌<◌, ◌≤◌, ◌⊎◌, ℕ, true, true≢false, refl, sym, ◌∙◌, subst}
use Rattle.mt_body.specs.Growth.{growth}
use Rattle.mt_codec.specs.Spelling.{IsWithinLimits}
use Rattle.mt_opening.proofs.Held.{holding_now}
use Rattle.mt_engine.specs.Accepting.{HasRoomFor}
use Rattle.mt_engine.specs.Archiving.{texts_size}
use Rattle.mt_error.specs.Refusals.{plain}
use Rattle.mt_error.specs.declared.code.ErrorCode.TheVariants as error
use Rattle.mt_error.specs.declared.refused.Refused.{Refused}
use Rattle.mt_log.specs.LogImage.{payloads_of}
use Rattle.mt_reply.specs.Replies.{error_reply}
use Rattle.mt_types.specs.declared.body.Body.{Body}
use Rattle.mt_types.specs.declared.command.Command.{Command}
use Rattle.mt_types.specs.declared.limits.TheConstants.{MOST_COMMANDS}
use Rattle.mt_api.specs.Steps.{Replies}
use Rattle.mt_api.proofs.Cancels.{cancel_full, close_limits, lacks, room_any}
use Rattle.mt_api.proofs.Ends.{held_replied, held_sends, idle_keeps, not_disk, settled_replied}
use Rattle.mt_api.proofs.Jobs.{job_refuses}
use Rattle.mt_api.proofs.Plain.{idle}
use Rattle.mt_api.proofs.cancel.cancel.Goals as goal

pub returns-in-Err-clause-settles : goal.returns-in-Err-clause-settles
returns-in-Err-clause-settles g c base h asked bytes i e none =
    let d = g.D.Disk in
    (h, (refl, λ is_open. i), idle d.seen d.may_leave d.moment d.left_since c.args.disk.now c.args.engine.now base h c.requires.ready.over.stands i (g.met.D.Disk.only_now c.args.disk.now))

pub returns-in-Err-has_room-clause-settles : goal.returns-in-Err-has_room-clause-settles
returns-in-Err-has_room-clause-settles g c base h asked bytes i e none =
    let d = g.D.Disk in
    (h, (refl, λ is_open. i), idle d.seen d.may_leave d.moment d.left_since c.args.disk.now c.args.engine.now base h c.requires.ready.over.stands i (g.met.D.Disk.only_now c.args.disk.now))

pub has_room-requires : goal.has_room-requires
has_room-requires g c = record {
  limits = subst (λ (x : Command Body). IsWithinLimits x) (sym c.close_command-command.ensures.command)
      (close_limits c.args.job c.args.call.stamp.moment c.blank_archive.result c.requires.cancels.number c.blank_archive.ensures c.requires.ready.moment);
}

pub end_job-requires-clause-room : goal.end_job-requires-clause-room
end_job-requires-clause-room g c =
    let engine = c.args.engine.now in
    let blank = c.blank_archive.result in
    let has = c.in-Ok-has_room.ensures.0 c.if-has_room.true in
    let has_so = subst (λ (n : ℕ). HasRoomFor engine n c.close_command-command.result) c.in-Ok.ensures has in
    room_any engine (texts_size c.args.login.now engine c.args.job true c.args.call.stamp.moment) c.args.job c.args.call.stamp.moment blank (subst (λ (x : Command Body). HasRoomFor engine (texts_size c.args.login.now engine c.args.job true c.args.call.stamp.moment) x) c.close_command-command.ensures.command has_so)

pub returns-clause-settles : goal.returns-clause-settles
returns-clause-settles g c base h asked bytes i e none =
    let d = g.D.Disk in
    let engine = c.args.engine.now in
    let call = c.args.call in
    let login = c.args.login.now in
    let lack = lacks engine c.in-Ok.pieces c.close_command-command.result (λ has. true≢false (sym (c.in-Ok-has_room.ensures.1 has) ∙ c.if-has_room.false)) in
    let lack_so = subst (λ (n : ℕ). (MOST_COMMANDS ≤ engine.state.count) ⊎ (engine.log.limit < engine.log.gate + 1 + growth n c.close_command-command.result)) c.in-Ok.ensures lack in
    let lack_texts = subst (λ (x : Command Body). (MOST_COMMANDS ≤ engine.state.count) ⊎ (engine.log.limit < engine.log.gate + 1 + growth (texts_size login engine c.args.job true call.stamp.moment) x)) c.close_command-command.ensures.command lack_so in
    let says = subst (λ (r : Refused). Replies c.refuse.result (error_reply call.stamp r)) c.plain.ensures c.refuse.ensures in (
      h,
      job_refuses login asked engine call e base h c.refuse.result bytes (plain error.NotEnoughSpace) (d.seen c.args.disk.now) engine
          (cancel_full login engine call c.args.job c.requires.cancels asked e base h (payloads_of i.is_read.files) (holding_now (d.seen c.args.disk.now) engine base h i) bytes none c.blank_archive.result lack_texts) says i refl,
      idle d.seen d.may_leave d.moment d.left_since c.args.disk.now engine base h c.requires.ready.over.stands i (g.met.D.Disk.only_now c.args.disk.now),
    )

pub returns-clause-settled : goal.returns-clause-settled
returns-clause-settled g c =
    let d = g.D.Disk in
    let said = error_reply c.args.call.stamp c.plain.result in
    record {
      keeps = idle_keeps d.seen d.may_leave d.faults c.args.disk.now c.refuse.result c.args.engine.now c.requires.ready.over.is_open c.requires.ready.over.stands (not_disk c.refuse.result said c.refuse.ensures);
      is_settled = settled_replied c.refuse.result said c.refuse.ensures;
      sends = held_sends c.refuse.result (d.seen c.args.disk.now) c.args.engine.now (held_replied c.refuse.result said tt c.refuse.ensures);
    }
