use Rattle.mt_reply.specs.Replies.{error_reply}
use Rattle.mt_api.proofs.Ends.{ended_settles, held_ended, held_replied, settled_ended, settled_replied}
use Rattle.mt_api.proofs.refuse.refuse_in.Goals as goal

pub returns-clause-settles : goal.returns-clause-settles
returns-clause-settles g c base h qs before grew w next =
    ended_settles c.args.stamp c.args.why before grew base h (g.D.Disk.seen c.end_with.new.disk) c.end_with.result c.refuse-answer.result c.args.engine.now c.args.run c.end_with.new.engine
    c.refuse-answer.ensures c.end_with.ensures.ends (c.end_with.ensures.current base h qs w) next

pub returns-clause-settled : goal.returns-clause-settled
returns-clause-settled g c =
    let end = c.end_with in
    record {
      keeps = end.ensures.keeps;
      is_settled = settled_ended end.result c.refuse-answer.result c.args.engine.now c.args.run end.new.engine end.ensures.ends (settled_replied c.refuse-answer.result (error_reply c.args.stamp c.args.why) c.refuse-answer.ensures);
      held = held_ended end.result c.refuse-answer.result c.args.engine.now c.args.run end.new.engine end.ensures.ends (held_replied c.refuse-answer.result (error_reply c.args.stamp c.args.why) tt c.refuse-answer.ensures);
    }
