use Rattle.std.proofs.Common.{refl}
use Rattle.mt_runner.specs.Attempts.{attempts}
use Rattle.mt_runner.specs.Attends.{work_side}
use Rattle.mt_runner.proofs.Answered.{company_by, disk_by, fewer_by, goes_by, idle_by, not_idle, stays_by}
use Rattle.mt_runner.proofs.Turns.{at_rule, lived, right_after, went}
use Rattle.mt_runner.proofs.runner.Runner.turn.Goals as goal

pub one_turn-requires-clause-free : goal.one_turn-requires-clause-free
one_turn-requires-clause-free g c = c.requires.at_work.free

pub one_turn-requires-clause-paired : goal.one_turn-requires-clause-paired
one_turn-requires-clause-paired g c = c.requires.at_work.paired

pub returns-clause-attends : goal.returns-clause-attends
returns-clause-attends g c = (c.now-now.result, c.now-now.ensures.given, c.one_turn.ensures.attends)

pub returns-clause-takes : goal.returns-clause-takes
returns-clause-takes g c =
    let d = g.D.Disk in
    let p = g.P.Spawner in
    let k = g.C.Clock in
    let e = c.one_turn.ensures in
    let old = work_side c.args.self.now.kept (p.seen c.args.spawner.now) c.args.engine.now (d.faults c.args.disk.now) in
    let new = work_side c.one_turn.new.self.kept (p.seen c.one_turn.new.spawner) c.one_turn.new.engine (d.faults c.one_turn.new.disk) in
    went d.seen d.may_leave d.faults d.moment d.left_since (k.gives (k.rule c.args.clock.now)) (p.gives (p.rule c.args.spawner.now)) (p.may (p.rule c.args.spawner.now)) c.args.self.now.login c.args.self.now.slots
    (k.asked c.args.clock.now) (k.asked c.now-now.new.self) c.now-now.result c.args.disk.now c.one_turn.new.disk old new c.one_turn.result
    c.now-now.ensures.given c.now-now.ensures.asked c.requires.ready.is_open e.moves e.progress e.goes_on
    (goes_by c.args.self.now.slots c.now-now.result old c.one_turn.result new c.requires.ready.is_open e.attends) c.requires.at_work.right refl refl e.faults (g.met.D.Disk.counts_now c.one_turn.new.disk)

pub returns-clause-lives : goal.returns-clause-lives
returns-clause-lives g c base h i =
    let d = g.D.Disk in
    let p = g.P.Spawner in
    let k = g.C.Clock in
    let e = c.one_turn.ensures in
    let old = work_side c.args.self.now.kept (p.seen c.args.spawner.now) c.args.engine.now (d.faults c.args.disk.now) in
    let new = work_side c.one_turn.new.self.kept (p.seen c.one_turn.new.spawner) c.one_turn.new.engine (d.faults c.one_turn.new.disk) in
    lived d.seen d.may_leave d.faults d.moment d.left_since (k.gives (k.rule c.args.clock.now)) (p.gives (p.rule c.args.spawner.now)) (p.may (p.rule c.args.spawner.now)) c.args.self.now.login c.args.self.now.slots
    (k.asked c.args.clock.now) (k.asked c.now-now.new.self) c.now-now.result c.args.disk.now c.one_turn.new.disk old new c.one_turn.result
    c.now-now.ensures.given c.now-now.ensures.asked c.requires.ready.is_open e.moves e.progress e.goes_on
    (goes_by c.args.self.now.slots c.now-now.result old c.one_turn.result new c.requires.ready.is_open e.attends) c.requires.at_work.right refl refl e.faults (g.met.D.Disk.counts_now c.one_turn.new.disk) base h i

pub returns-clause-at_work : goal.returns-clause-at_work
returns-clause-at_work g c =
    let d = g.D.Disk in
    let p = g.P.Spawner in
    let k = g.C.Clock in
    let e = c.one_turn.ensures in
    let old = work_side c.args.self.now.kept (p.seen c.args.spawner.now) c.args.engine.now (d.faults c.args.disk.now) in
    let new = work_side c.one_turn.new.self.kept (p.seen c.one_turn.new.spawner) c.one_turn.new.engine (d.faults c.one_turn.new.disk) in
    record {
      paired = e.paired;
      free = e.free;
      right = at_rule p.gives p.may _ _ _ _ (d.seen c.one_turn.new.disk) c.one_turn.new.engine (attempts c.one_turn.new.self.kept (p.seen c.one_turn.new.spawner).live) e.rule e.login
          (right_after d.seen d.may_leave d.faults d.moment d.left_since (k.gives (k.rule c.args.clock.now)) (p.gives (p.rule c.args.spawner.now)) (p.may (p.rule c.args.spawner.now)) c.args.self.now.login c.args.self.now.slots
          (k.asked c.args.clock.now) (k.asked c.now-now.new.self) c.now-now.result c.args.disk.now c.one_turn.new.disk old new c.one_turn.result
          c.now-now.ensures.given c.now-now.ensures.asked c.requires.ready.is_open e.moves e.progress e.goes_on
          (goes_by c.args.self.now.slots c.now-now.result old c.one_turn.result new c.requires.ready.is_open e.attends) c.requires.at_work.right c.requires.ready.serves);
    }

pub returns-clause-open : goal.returns-clause-open
returns-clause-open g c =
    let old = work_side c.args.self.now.kept (g.P.Spawner.seen c.args.spawner.now) c.args.engine.now (g.D.Disk.faults c.args.disk.now) in
    let new = work_side c.one_turn.new.self.kept (g.P.Spawner.seen c.one_turn.new.spawner) c.one_turn.new.engine (g.D.Disk.faults c.one_turn.new.disk) in
    goes_by c.args.self.now.slots c.now-now.result old c.one_turn.result new c.requires.ready.is_open c.one_turn.ensures.attends

pub returns-clause-company : goal.returns-clause-company
returns-clause-company g c =
    let old = work_side c.args.self.now.kept (g.P.Spawner.seen c.args.spawner.now) c.args.engine.now (g.D.Disk.faults c.args.disk.now) in
    let new = work_side c.one_turn.new.self.kept (g.P.Spawner.seen c.one_turn.new.spawner) c.one_turn.new.engine (g.D.Disk.faults c.one_turn.new.disk) in
    company_by c.args.self.now.slots c.args.engine.now.state old new c.one_turn.result c.one_turn.ensures.progress.by_end

pub returns-clause-one_fewer : goal.returns-clause-one_fewer
returns-clause-one_fewer g c =
    let old = work_side c.args.self.now.kept (g.P.Spawner.seen c.args.spawner.now) c.args.engine.now (g.D.Disk.faults c.args.disk.now) in
    let new = work_side c.one_turn.new.self.kept (g.P.Spawner.seen c.one_turn.new.spawner) c.one_turn.new.engine (g.D.Disk.faults c.one_turn.new.disk) in
    fewer_by c.args.self.now.slots c.args.engine.now.state old new c.one_turn.result c.one_turn.ensures.progress.by_end

pub returns-clause-disk : goal.returns-clause-disk
returns-clause-disk g c =
    let old = work_side c.args.self.now.kept (g.P.Spawner.seen c.args.spawner.now) c.args.engine.now (g.D.Disk.faults c.args.disk.now) in
    let new = work_side c.one_turn.new.self.kept (g.P.Spawner.seen c.one_turn.new.spawner) c.one_turn.new.engine (g.D.Disk.faults c.one_turn.new.disk) in
    disk_by c.args.self.now.slots c.args.engine.now.state old new c.one_turn.result c.one_turn.ensures.progress.by_end

pub returns-clause-idle : goal.returns-clause-idle
returns-clause-idle g c =
    let old = work_side c.args.self.now.kept (g.P.Spawner.seen c.args.spawner.now) c.args.engine.now (g.D.Disk.faults c.args.disk.now) in
    let new = work_side c.one_turn.new.self.kept (g.P.Spawner.seen c.one_turn.new.spawner) c.one_turn.new.engine (g.D.Disk.faults c.one_turn.new.disk) in
    let e = c.one_turn.ensures in
    (idle_by c.args.self.now.slots c.args.engine.now.state old new c.one_turn.result e.progress.by_end, λ none. not_idle c.args.self.now.slots c.now-now.result old c.one_turn.result new e.lawful e.attends none.0 none.1)

pub returns-clause-stay : goal.returns-clause-stay
returns-clause-stay g c x there was is =
    let old = work_side c.args.self.now.kept (g.P.Spawner.seen c.args.spawner.now) c.args.engine.now (g.D.Disk.faults c.args.disk.now) in
    let new = work_side c.one_turn.new.self.kept (g.P.Spawner.seen c.one_turn.new.spawner) c.one_turn.new.engine (g.D.Disk.faults c.one_turn.new.disk) in
    stays_by c.args.self.now.slots c.now-now.result x old c.one_turn.result new c.one_turn.ensures.lawful c.one_turn.ensures.attends there was is
