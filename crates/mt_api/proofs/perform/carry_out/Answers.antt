use Rattle.std.proofs.Common.{◌≡◌, false, Option, Some, None, refl, sym, ap, ◌∙◌, rules}
use Rattle.std.specs.Prelude.{is_some}
use Rattle.mt_answer.specs.Answer.{command_of, reply_to}
use Rattle.mt_answer.specs.Judging.{len_of, md5_of}
use Rattle.mt_opening.proofs.Held.{told_now}
use Rattle.mt_log.specs.LogImage.{payloads_of}
use Rattle.mt_model.specs.Rows.{Rows}
use Rattle.mt_types.specs.declared.body.Body.{Body}
use Rattle.mt_types.specs.declared.command.Command.{Command}
use Rattle.mt_api.specs.declared.perform.TheConstants.{NO_BODY}
use Rattle.mt_api.proofs.Ends.{held_sends, idle_keeps, not_disk, settled_replied}
use Rattle.mt_api.proofs.Plain.{idle, looks, looks_sends, ready}
use Rattle.mt_api.proofs.perform.carry_out.Goals as goal

none_of : (o : Option (Command Body)) → is_some o ≡ false → o ≡ None
none_of None is = refl
none_of (Some x) is = cc

pub add-requires-clause-ready : goal.add-requires-clause-ready
add-requires-clause-ready g c = record {
  over = record { running = c.begin_run-run.ensures.goes_on.running; order = c.begin_run-run.ensures.goes_on.order; is_open = c.requires.ready.over.is_open };
  moment = c.requires.ready.moment;
  fits = c.requires.ready.fits;
  placed = search rules;
}

pub add-requires-clause-adds : goal.add-requires-clause-adds
add-requires-clause-adds g c body moment =
    ap (λ (rows : Rows Body). is_some (command_of rows c.args.call.request.doing body moment)) (sym c.tree.ensures.rows) ∙ c.adds.ensures body moment ∙ c.if-not-adds.false

pub returns-then-not-adds-clause-settles : goal.returns-then-not-adds-clause-settles
returns-then-not-adds-clause-settles g c base h asked bytes i plain e none =
    let d = g.D.Disk in
    let engine = c.args.engine.now in
    let call = c.args.call in
    let command = none_of (command_of engine.state.rows call.request.doing NO_BODY call.stamp.moment)
    (ap (λ (rows : Rows Body). is_some (command_of rows call.request.doing NO_BODY call.stamp.moment)) (sym c.tree.ensures.rows) ∙ c.adds.ensures NO_BODY call.stamp.moment ∙ c.if-not-adds.true) in (
      h,
      looks (d.seen c.args.disk.now) engine base h i asked call e plain bytes none NO_BODY NO_BODY.md5 command c.look.result c.look.ensures,
      idle d.seen d.may_leave d.moment d.left_since c.args.disk.now engine base h c.requires.ready.over.stands i (g.met.D.Disk.only_now c.args.disk.now),
    )

pub returns-clause-settles : goal.returns-clause-settles
returns-clause-settles g c base h asked bytes i plain e none =
    let d = g.D.Disk in
    let engine = c.args.engine.now in
    let w = c.begin_run-run.ensures.writing base h i (payloads_of i.is_read.files) (told_now (d.seen c.args.disk.now) engine base h i) in
    c.add.ensures.settles base h (payloads_of i.is_read.files) asked bytes e
    (ready (d.seen c.args.disk.now) engine base h i asked c.args.call e plain c.begin_run-run.result (payloads_of i.is_read.files) NO_BODY bytes w c.begin_run-run.ensures.place none)

pub returns-then-not-adds-clause-settled : goal.returns-then-not-adds-clause-settled
returns-then-not-adds-clause-settled g c =
    let d = g.D.Disk in
    let engine = c.args.engine.now in
    let call = c.args.call in
    let said = reply_to len_of md5_of call.stamp engine.state.count engine.state.rows call.conditions call.request.doing NO_BODY.md5 in
    record {
      keeps = idle_keeps d.seen d.may_leave d.faults c.args.disk.now c.look.result engine c.requires.ready.over.is_open c.requires.ready.over.stands (not_disk c.look.result said c.look.ensures);
      is_settled = settled_replied c.look.result said c.look.ensures;
      sends = looks_sends c.look.result (d.seen c.args.disk.now) engine c.requires.ready.over.serves c.requires.ready.over.is_open call.stamp call.conditions call.request.doing NO_BODY.md5 c.look.ensures;
    }

pub returns-clause-settled : goal.returns-clause-settled
returns-clause-settled g c = record {
  keeps = c.add.ensures.settled.keeps;
  is_settled = c.add.ensures.settled.is_settled;
  sends = held_sends c.add.result (g.D.Disk.seen c.add.new.disk) c.add.new.engine c.add.ensures.settled.held;
}
