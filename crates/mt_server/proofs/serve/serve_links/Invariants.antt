-- Events so far, none of which broke, lead from each history that the disk stood for to here.
use Rattle.std.proofs.Common.{◌≡◌, ◌≤◌, ◌<◌, ◌+◌, List, false}
use Rattle.std.specs.Prelude.{is_some}
use Rattle.mt_base.specs.Counts.{NeverFell}
use Rattle.mt_opening.specs.Current.{EngineIsReady, Over, told_size}
use Rattle.mt_opening.specs.History.{Bytes, History}
use Rattle.mt_model.specs.State.{State}
use Rattle.mt_runner.specs.Account.{account_side, tasks_of, told_time}
use Rattle.mt_runner.specs.AtWork.{AtWork}
use Rattle.mt_connection.specs.Sides.{side_of}
use Rattle.mt_connection.specs.Steps.{MovesOn}
use Rattle.mt_connection.specs.Transcript.{setting}
use Rattle.mt_server.specs.Events.{Event, door_side}
use Rattle.mt_server.specs.Guarantees.{shop}
use Rattle.mt_server.proofs.Going.{Counted, Going}
use Rattle.mt_server.proofs.serve.serve_links.Given as goal

abbrev pub invariant-events : goal.invariant-events
invariant-events g l = record {
  so_far : (base : State Bytes) (h : History) → Over (g.D.Disk.seen l.fn.disk) l.fn.engine base h → (m : History) × (events : List (Event g.row.W-Link.Denot))
      × Going (side_of g.W.Link.Source.left g.W.Link.Sink.got g.W.Link.Source.read_faults g.W.Link.Sink.write_faults) g.W.Link.Both.stays
      (setting false (is_some (g.D.Disk.seen l.fn.disk)) (g.C.Clock.gives (g.C.Clock.rule l.fn.clock)) (g.P.Spawner.gives (g.P.Spawner.rule l.fn.spawner)) l.login l.fn.runner.slots l.fn.engine.log.limit base) (g.D.Disk.left_since l.disk)
      (shop (account_side h (told_size (g.D.Disk.seen l.fn.disk) l.fn.engine) (g.D.Disk.faults l.fn.disk) (told_time (is_some (g.D.Disk.seen l.fn.disk)) (g.D.Disk.moment l.fn.disk)) (g.C.Clock.asked l.fn.clock) (tasks_of (g.P.Spawner.seen l.fn.spawner)))
      (door_side (g.W.Door.waiting l.fn.door) (g.W.Door.given_back l.fn.door) (g.W.Door.taken l.fn.door) (g.W.Door.over l.fn.door) (g.W.Door.door_faults l.fn.door))) events
      (shop (account_side m (told_size (g.D.Disk.seen l.disk) l.engine) (g.D.Disk.faults l.disk) (told_time (is_some (g.D.Disk.seen l.fn.disk)) (g.D.Disk.moment l.disk)) (g.C.Clock.asked l.clock) (tasks_of (g.P.Spawner.seen l.spawner)))
      (door_side (g.W.Door.waiting l.door) (g.W.Door.given_back l.door) (g.W.Door.taken l.door) (g.W.Door.over l.door) (g.W.Door.door_faults l.door)))
      × Counted events l._event l.taken l.over × MovesOn g.D.Disk.seen g.D.Disk.moment g.D.Disk.left_since l.fn.disk l.disk l.engine base h m;
  ready : EngineIsReady g.D.Disk.seen g.D.Disk.may_leave l.disk l.engine;
  at_work : AtWork (g.P.Spawner.may (g.P.Spawner.rule l.spawner)) (g.P.Spawner.gives (g.P.Spawner.rule l.spawner)) (g.P.Spawner.seen l.spawner) (g.P.Spawner.held l.spawner) l.runner (g.D.Disk.seen l.disk) l.engine;
  told : is_some (g.D.Disk.seen l.disk) ≡ is_some (g.D.Disk.seen l.fn.disk);
  limit : l.engine.log.limit ≡ l.fn.engine.log.limit;
  version : l.engine.log.is_old ≡ l.fn.engine.log.is_old;
  rule : g.C.Clock.rule l.clock ≡ g.C.Clock.rule l.fn.clock;
  children : g.P.Spawner.rule l.spawner ≡ g.P.Spawner.rule l.fn.spawner;
  login : l.runner.login ≡ l.login;
  slots : l.runner.slots ≡ l.fn.runner.slots;
  counted : NeverFell (g.D.Disk.faults l.fn.disk) (g.D.Disk.faults l.disk);
  spawned : NeverFell (g.P.Spawner.seen l.fn.spawner).faults (g.P.Spawner.seen l.spawner).faults;
  few : l.taken ≤ l.connections;
  left : l.over < l.connections;
  taken : g.W.Door.taken l.door ≡ g.W.Door.taken l.fn.door + l.taken;
  over : g.W.Door.over l.door ≡ g.W.Door.over l.fn.door + l.over;
  failed : NeverFell (g.W.Door.door_faults l.fn.door) (g.W.Door.door_faults l.door);
  back : g.W.Door.over l.door + g.W.Door.kept l.door ≡ g.W.Door.taken l.door;
}
