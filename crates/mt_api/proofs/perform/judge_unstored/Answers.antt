use Rattle.std.proofs.Common.{Some, sym, ◌∙◌}
use Rattle.md5.specs.Md5.{md5}
use Rattle.mt_reply.specs.Replies.{error_reply}
use Rattle.mt_api.proofs.Ends.{held_replied, held_sends, idle_keeps, not_disk, settled_replied}
use Rattle.mt_api.proofs.Plain.{idle, plain_refused, same_refusal}
use Rattle.mt_api.proofs.perform.judge_unstored.Goals as goal

pub returns-in-Some-clause-settles : goal.returns-in-Some-clause-settles
returns-in-Some-clause-settles g c base h asked bytes i plain e tells =
    let d = g.D.Disk in
    let engine = c.args.engine.now in
    let is = sym (same_refusal engine c.args.call c.args.digest (Some (md5 bytes)) tells) ∙ sym c.refusal_by.ensures ∙ c.in-Some.is in (
      h,
      plain_refused (d.seen c.args.disk.now) engine base h i asked c.args.call e plain c.refuse.result bytes c.in-Some.why is c.refuse.ensures,
      idle d.seen d.may_leave d.moment d.left_since c.args.disk.now engine base h c.requires.ready.over.stands i (g.met.D.Disk.only_now c.args.disk.now),
    )

pub returns-in-None-clause-settles : goal.returns-in-None-clause-settles
returns-in-None-clause-settles g c base h asked bytes i plain e tells =
    let engine = c.args.engine.now in
    c.carry_out.ensures.settles base h asked bytes i plain e (sym (same_refusal engine c.args.call c.args.digest (Some (md5 bytes)) tells) ∙ sym c.refusal_by.ensures ∙ c.in-None.is)

pub returns-in-Some-clause-settled : goal.returns-in-Some-clause-settled
returns-in-Some-clause-settled g c =
    let d = g.D.Disk in
    let said = error_reply c.args.call.stamp c.in-Some.why in
    record {
      keeps = idle_keeps d.seen d.may_leave d.faults c.args.disk.now c.refuse.result c.args.engine.now c.requires.ready.over.is_open c.requires.ready.over.stands (not_disk c.refuse.result said c.refuse.ensures);
      is_settled = settled_replied c.refuse.result said c.refuse.ensures;
      sends = held_sends c.refuse.result (d.seen c.args.disk.now) c.args.engine.now (held_replied c.refuse.result said tt c.refuse.ensures);
    }
