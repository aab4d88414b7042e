use Rattle.std.proofs.Common.{◌≡◌, ⊎_elim, subst}
use Rattle.mt_engine.specs.Accepting.{Decided}
use Rattle.mt_engine.specs.declared.engine.Accepted.{Accepted}
use Rattle.mt_engine.specs.declared.engine.Accepted.TheVariants as accepted
use Rattle.mt_tasks.proofs.Commits.{accepted_adds, leaves_more, never_closed, never_full, never_refused}
use Rattle.mt_tasks.proofs.adding.add.Goals as goal

pub unreachable-requires : goal.unreachable-requires
unreachable-requires g c =
    let seen : (a : Accepted) → c.accept.result ≡ a → Decided a c.args.engine.now c.args.run c.args.command c.accept.new.self =
    λ a is. subst (λ (x : Accepted). Decided x c.args.engine.now c.args.run c.args.command c.accept.new.self) is c.accept.ensures.decided in
    ⊎_elim (λ r. never_refused c.args.engine.now c.accept.new.self c.args.run c.args.command (c.requires.ready.order c.requires.ready.is_open) c.requires.ready.is_open c.requires.free c.requires.room r.0 (seen (accepted.Refused r.0) r.1))
    (λ m. ⊎_elim (λ full. never_full c.args.engine.now c.accept.new.self c.args.run c.args.command (c.requires.ready.order c.requires.ready.is_open) c.requires.ready.is_open c.requires.free c.requires.room (seen accepted.Full full)) (λ shut. never_closed c.args.engine.now c.accept.new.self c.args.run c.args.command (c.requires.ready.order c.requires.ready.is_open) c.requires.ready.is_open c.requires.free c.requires.room (seen accepted.Closed shut)) m) c.in-Refused.is

pub returns-in-Added-clause-adds : goal.returns-in-Added-clause-adds
returns-in-Added-clause-adds g c = λ base h qs w stored pieces.
    let e = c.in-Added.ensures in
    let m = e.any_moment base h qs w stored in
    let a = accepted_adds c.args.engine.now c.accept.new.self c.args.run c.args.command (c.requires.ready.order c.requires.ready.is_open) c.requires.ready.is_open c.requires.free c.requires.room
    base h qs (g.D.Disk.seen c.args.disk.now) (g.D.Disk.seen c.accept.new.disk) w pieces accepted.Added m.0 e.decided (e.accepts base h qs w stored) m.1 in
    (a.0, a.1, leaves_more g.D.Disk.moment g.D.Disk.left_since c.args.disk.now c.accept.new.disk base h m.0 a.0 a.2 m.2)

pub returns-in-Disk-clause-adds : goal.returns-in-Disk-clause-adds
returns-in-Disk-clause-adds g c = λ base h qs w stored pieces.
    let e = c.in-Disk.ensures in
    let m = e.any_moment base h qs w stored in
    let a = accepted_adds c.args.engine.now c.accept.new.self c.args.run c.args.command (c.requires.ready.order c.requires.ready.is_open) c.requires.ready.is_open c.requires.free c.requires.room
    base h qs (g.D.Disk.seen c.args.disk.now) (g.D.Disk.seen c.accept.new.disk) w pieces accepted.Disk m.0 e.decided (e.accepts base h qs w stored) m.1 in
    (a.0, a.1, leaves_more g.D.Disk.moment g.D.Disk.left_since c.args.disk.now c.accept.new.disk base h m.0 a.0 a.2 m.2)

pub returns-in-Memory-clause-adds : goal.returns-in-Memory-clause-adds
returns-in-Memory-clause-adds g c = λ base h qs w stored pieces.
    let e = c.in-Memory.ensures in
    let m = e.any_moment base h qs w stored in
    let a = accepted_adds c.args.engine.now c.accept.new.self c.args.run c.args.command (c.requires.ready.order c.requires.ready.is_open) c.requires.ready.is_open c.requires.free c.requires.room
    base h qs (g.D.Disk.seen c.args.disk.now) (g.D.Disk.seen c.accept.new.disk) w pieces accepted.Memory m.0 e.decided (e.accepts base h qs w stored) m.1 in
    (a.0, a.1, leaves_more g.D.Disk.moment g.D.Disk.left_since c.args.disk.now c.accept.new.disk base h m.0 a.0 a.2 m.2)
