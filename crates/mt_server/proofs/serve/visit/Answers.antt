-- The link that was taken is given back.
use Rattle.std.proofs.Common.{true, false, None, refl, subst}
use Rattle.std.proofs.lemmas.Option.{same_Some}
use Rattle.mt_connection.specs.declared.end.ConnectionEnd.{ConnectionEnd}
use Rattle.mt_connection.proofs.Completeness.{some_over}
use Rattle.mt_connection.proofs.Crashes.{goes_on_none, moves_none}
use Rattle.mt_server.specs.Statuses.{ByDisk}
use Rattle.mt_server.specs.declared.status.Status.TheVariants as status
use Rattle.mt_server.proofs.Connecting.{served_counts, served_disk}
use Rattle.mt_server.proofs.Doors.{passed_again, passed_new, passed_none, passed_woke}
use Rattle.mt_server.proofs.serve.visit.Goals as goal

pub returns-in-New-clause-visit : goal.returns-in-New-clause-visit
returns-in-New-clause-visit g c base h over =
    let x = c.serve_connection-end.ensures.served base h over in
    let given = c.serve_connection-end.new.link in
    let end = c.serve_connection-end.result in
    let d = c.done-over.ensures in
    let links = passed_new _ _ _ _ _ _ _ _ _ _ _ _ _ _ _ _ _ c.in-New.link given c.done-over.result end c.args.fresh c.in-New.ensures.came c.next.ensures.back c.next.ensures.over d.whole d.over d.back d.stays in
    (x.0, (record { taken = c.in-New.link; given = given; first = true; over = c.done-over.result; end = end; drain = None }, refl, refl, refl, (x.1, c.serve_connection-end.ensures.stays), links, x.2), x.3)

pub returns-in-New-clause-by_disk : goal.returns-in-New-clause-by_disk
returns-in-New-clause-by_disk g c is =
    let o = some_over _ _ c.requires.work.ready.is_open c.requires.work.ready.serves in
    let x = c.serve_connection-end.ensures.served o.0 o.1 o.2 in
    subst (λ (end : ConnectionEnd). ByDisk (status.Session end) (g.D.Disk.faults c.args.disk.now) (g.D.Disk.faults c.serve_connection-end.new.disk)) (same_Some _ _ is) (served_disk _ _ _ _ _ _ x.1)

pub returns-in-Again-clause-visit : goal.returns-in-Again-clause-visit
returns-in-Again-clause-visit g c base h over =
    let x = c.serve_connection-end-in-Again.ensures.served base h over in
    let given = c.serve_connection-end-in-Again.new.link in
    let end = c.serve_connection-end-in-Again.result in
    let d = c.done-over-in-Again.ensures in
    let links = passed_again _ _ _ _ _ _ _ _ _ _ _ _ _ _ _ _ _ c.in-Again.link given c.done-over-in-Again.result end c.args.fresh c.in-Again.ensures.came c.next.ensures.back c.next.ensures.over d.over d.back d.stays in
    (x.0, (record { taken = c.in-Again.link; given = given; first = false; over = c.done-over-in-Again.result; end = end; drain = None }, refl, refl, refl, (x.1, c.serve_connection-end-in-Again.ensures.stays), links, x.2), x.3)

pub returns-in-Again-clause-by_disk : goal.returns-in-Again-clause-by_disk
returns-in-Again-clause-by_disk g c is =
    let o = some_over _ _ c.requires.work.ready.is_open c.requires.work.ready.serves in
    let x = c.serve_connection-end-in-Again.ensures.served o.0 o.1 o.2 in
    subst (λ (end : ConnectionEnd). ByDisk (status.Session end) (g.D.Disk.faults c.args.disk.now) (g.D.Disk.faults c.serve_connection-end-in-Again.new.disk)) (same_Some _ _ is) (served_disk _ _ _ _ _ _ x.1)

pub returns-in-Woken-clause-visit : goal.returns-in-Woken-clause-visit
returns-in-Woken-clause-visit g c base h over =
    let d = g.D.Disk in
    let ready = c.requires.work.ready in
    let links = passed_woke _ _ _ _ _ _ _ _ _ _ _ _ c.args.fresh c.in-Woken.ensures.came c.next.ensures.back c.next.ensures.over in
    (h, (refl, (λ last. links last)), moves_none d.seen d.may_leave d.moment d.left_since c.args.disk.now c.args.engine.now base h (g.met.D.Disk.only_now c.args.disk.now) ready.stands ready.is_open over)

pub returns-in-Failed-clause-visit : goal.returns-in-Failed-clause-visit
returns-in-Failed-clause-visit g c base h over =
    let d = g.D.Disk in
    let ready = c.requires.work.ready in
    let came = c.in-Failed.ensures.came in
    let links = passed_none _ _ _ _ _ _ _ _ _ _ _ _ c.args.fresh came c.next.ensures.back c.next.ensures.over in
    (h, (refl, links, came.4), moves_none d.seen d.may_leave d.moment d.left_since c.args.disk.now c.args.engine.now base h (g.met.D.Disk.only_now c.args.disk.now) ready.stands ready.is_open over)

pub returns-in-New-clause-spawn_faults : goal.returns-in-New-clause-spawn_faults
returns-in-New-clause-spawn_faults g c =
    let o = some_over _ _ c.requires.work.ready.is_open c.requires.work.ready.serves in
    (served_counts _ _ _ _ _ _ (c.serve_connection-end.ensures.served o.0 o.1 o.2).1).spawn

pub returns-in-Again-clause-spawn_faults : goal.returns-in-Again-clause-spawn_faults
returns-in-Again-clause-spawn_faults g c =
    let o = some_over _ _ c.requires.work.ready.is_open c.requires.work.ready.serves in
    (served_counts _ _ _ _ _ _ (c.serve_connection-end-in-Again.ensures.served o.0 o.1 o.2).1).spawn

pub returns-in-New-clause-keeps : goal.returns-in-New-clause-keeps
returns-in-New-clause-keeps g c = c.serve_connection-end.ensures.keeps

pub returns-in-Again-clause-keeps : goal.returns-in-Again-clause-keeps
returns-in-Again-clause-keeps g c = c.serve_connection-end-in-Again.ensures.keeps

pub returns-in-Woken-clause-keeps : goal.returns-in-Woken-clause-keeps
returns-in-Woken-clause-keeps g c =
    let d = g.D.Disk in
    let work = c.requires.work in
    record { at_work = work.at_work; same = (refl, refl); goes_on = goes_on_none d.seen d.may_leave d.faults c.args.disk.now c.args.engine.now work.ready; rule = (refl, refl) }

pub returns-in-Woken-clause-live : goal.returns-in-Woken-clause-live
returns-in-Woken-clause-live g c no_disk no_memory = c.requires.work.ready.is_open

pub returns-in-Failed-clause-keeps : goal.returns-in-Failed-clause-keeps
returns-in-Failed-clause-keeps g c =
    let d = g.D.Disk in
    let work = c.requires.work in
    record { at_work = work.at_work; same = (refl, refl); goes_on = goes_on_none d.seen d.may_leave d.faults c.args.disk.now c.args.engine.now work.ready; rule = (refl, refl) }

pub returns-in-Failed-clause-live : goal.returns-in-Failed-clause-live
returns-in-Failed-clause-live g c no_disk no_memory = c.requires.work.ready.is_open
