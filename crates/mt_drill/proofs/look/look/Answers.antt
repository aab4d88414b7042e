-- What is found, by the place of the gate.
use Rattle.std.proofs.Common.{◌≡◌, Err, rules, sym, ◌∙◌}
use Rattle.mt_opening.specs.declared.opening.OpenEnd.TheVariants as opening
use Rattle.mt_server.proofs.Settling.{ready_open}
use Rattle.mt_drill.proofs.Empty.{found_empty, found_none, found_record}
use Rattle.mt_drill.proofs.look.look.Goals as goal

pub returns-then-used-eq-EMPTY_LOG-clause-empty : goal.returns-then-used-eq-EMPTY_LOG-clause-empty
returns-then-used-eq-EMPTY_LOG-clause-empty g c is =
    let d = g.D.Disk in
    let e = c.in-Ok.ensures in
    let new = c.open.new.disk in
    let gate = sym c.used.ensures ∙ c.if-used-eq-EMPTY_LOG.true in (
      found_none d.seen d.may_leave d.moment d.left_since c.args.disk.now new (g.met.D.Disk.counts_now new) (g.met.D.Disk.seen_is_left new) c.in-Ok.engine.log e.ready.is_open e.ready.version e.ready.stands e.opened e.tells c.open.ensures.any_moment gate,
      found_empty d.seen d.may_leave d.moment d.left_since c.args.disk.now new (g.met.D.Disk.counts_now new) (g.met.D.Disk.seen_is_left new) c.in-Ok.engine.log e.ready.is_open e.ready.version e.ready.stands e.opened e.tells c.open.ensures.any_moment gate,
      e.tells,
    )

pub returns-in-Ok-clause-recorded : goal.returns-in-Ok-clause-recorded
returns-in-Ok-clause-recorded g c is =
    let d = g.D.Disk in
    let e = c.in-Ok.ensures in
    let new = c.open.new.disk in
    found_record d.seen d.may_leave d.moment d.left_since c.args.disk.now new (g.met.D.Disk.counts_now new) (g.met.D.Disk.seen_is_left new) c.in-Ok.engine.log e.ready.is_open e.ready.version e.ready.stands e.opened e.tells c.open.ensures.any_moment
    (λ nine. c.if-used-eq-EMPTY_LOG.false (c.used.ensures ∙ nine))

pub returns-then-used-eq-EMPTY_LOG-clause-rest : goal.returns-then-used-eq-EMPTY_LOG-clause-rest
returns-then-used-eq-EMPTY_LOG-clause-rest g c is = ready_open g.D.Disk.seen g.D.Disk.may_leave c.open.new.disk c.in-Ok.engine.log c.in-Ok.ensures.ready.stands c.in-Ok.ensures.ready.is_open

pub returns-in-Ok-clause-rest : goal.returns-in-Ok-clause-rest
returns-in-Ok-clause-rest g c is = ready_open g.D.Disk.seen g.D.Disk.may_leave c.open.new.disk c.in-Ok.engine.log c.in-Ok.ensures.ready.stands c.in-Ok.ensures.ready.is_open

pub returns-in-Err-Unreadable-clause-unreadable : goal.returns-in-Err-Unreadable-clause-unreadable
returns-in-Err-Unreadable-clause-unreadable g c why is =
    let refused : c.open.result ≡ Err (opening.Unreadable why) = search rules in
    c.open.ensures.refused why refused
