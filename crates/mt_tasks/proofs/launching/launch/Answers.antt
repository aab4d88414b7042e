use Rattle.std.proofs.Common.{◌≡◌, List, ℕ, sym, ap, ◌∙◌, arith}
use Rattle.mt_tasks.proofs.Rights.{reads_task, right_now}
use Rattle.mt_tasks.proofs.launching.launch.Goals as goal

pub start_task-requires-clause-reads : goal.start_task-requires-clause-reads
start_task-requires-clause-reads g c =
    let d = g.D.Disk in
    reads_task d.seen d.may_leave c.args.disk.now c.args.engine.now c.args.task.now c.in-Some.count c.requires.engine c.requires.ready c.in-Some.ensures

pub returns-in-Began-clause-launches : goal.returns-in-Began-clause-launches
returns-in-Began-clause-launches g c =
    let d = g.D.Disk in
    let p = g.P.Spawner in
    let began = c.in-Began.ensures.begins.1 in
    let adds = began.0 in
    record {
      fate = adds.fate;
      fresh = adds.fresh;
      added = adds.added;
      right = right_now (d.seen c.args.disk.now) c.args.engine.now c.args.login.now (p.gives (p.rule c.args.spawner.now)) (p.may (p.rule c.args.spawner.now)) c.args.task.now adds.fate c.in-Ok.order c.requires.ready c.in-Ok.ensures adds.honest;
      counts = adds.counts;
      faults = began.1;
    }
