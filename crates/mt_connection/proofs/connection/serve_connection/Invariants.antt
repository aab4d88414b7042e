-- Exchanges, none of which closes, lead from each history that the disk stood for to here.
use Rattle.std.proofs.Common.{◌≡◌, List, length, false}
use Rattle.std.specs.List.{list_any}
use Rattle.std.specs.Prelude.{is_some}
use Rattle.mt_opening.specs.Current.{EngineIsReady, Over}
use Rattle.mt_opening.specs.History.{Bytes, History}
use Rattle.mt_engine.specs.Ready.{EngineGoesOn}
use Rattle.mt_model.specs.State.{State}
use Rattle.mt_runner.specs.Account.{tasks_of, told_time}
use Rattle.mt_runner.specs.AtWork.{AtWork}
use Rattle.mt_connection.specs.Sides.{side_of, sides}
use Rattle.mt_connection.specs.Steps.{MovesOn}
use Rattle.mt_connection.specs.Transcript.{Exchange, Ran, Stand, closing, setting}
use Rattle.mt_connection.proofs.connection.serve_connection.Given as goal

abbrev pub invariant-loop-answered : goal.invariant-loop-answered
invariant-loop-answered g l =
    let d = g.D.Disk in
    let knows = is_some (d.seen l.fn.disk) in
    record {
      so_far : (base : State Bytes) (h : History) → Over (d.seen l.fn.disk) l.fn.engine base h → (xs : List Exchange) × (m : History)
          × Ran (setting (is_some (g.L.Source.left l.fn.link)) knows (g.C.Clock.gives (g.C.Clock.rule l.fn.clock)) (g.P.Spawner.gives (g.P.Spawner.rule l.fn.spawner)) l.login l.fn.runner.slots l.fn.engine.log.limit base)
          (sides (side_of g.L.Source.left g.L.Sink.got g.L.Source.read_faults g.L.Sink.write_faults l.fn.link) h (d.seen l.fn.disk) (d.faults l.fn.disk) (told_time knows (d.moment l.fn.disk)) (g.C.Clock.asked l.fn.clock) l.fn.engine (tasks_of (g.P.Spawner.seen l.fn.spawner))) xs
          (sides (side_of g.L.Source.left g.L.Sink.got g.L.Source.read_faults g.L.Sink.write_faults l.link) m (d.seen l.disk) (d.faults l.disk) (told_time knows (d.moment l.disk)) (g.C.Clock.asked l.clock) l.engine (tasks_of (g.P.Spawner.seen l.spawner)))
          × Stand (setting (is_some (g.L.Source.left l.fn.link)) knows (g.C.Clock.gives (g.C.Clock.rule l.fn.clock)) (g.P.Spawner.gives (g.P.Spawner.rule l.fn.spawner)) l.login l.fn.runner.slots l.fn.engine.log.limit base) (d.left_since l.disk) h (told_time knows (d.moment l.fn.disk)) xs (told_time knows (d.moment l.disk))
          × (list_any closing xs ≡ false) × (length xs ≡ l._answered) × MovesOn d.seen d.moment d.left_since l.fn.disk l.disk l.engine base h m;
      stays : g.L.Both.stays l.fn.link l.link;
      goes_on : EngineGoesOn d.seen d.may_leave d.faults l.fn.disk l.disk l.fn.engine l.engine;
      ready : EngineIsReady d.seen d.may_leave l.disk l.engine;
      rule : g.C.Clock.rule l.clock ≡ g.C.Clock.rule l.fn.clock;
      child : g.P.Spawner.rule l.spawner ≡ g.P.Spawner.rule l.fn.spawner;
      login : l.runner.login ≡ l.fn.runner.login;
      slots : l.runner.slots ≡ l.fn.runner.slots;
      at_work : AtWork (g.P.Spawner.may (g.P.Spawner.rule l.spawner)) (g.P.Spawner.gives (g.P.Spawner.rule l.spawner)) (g.P.Spawner.seen l.spawner) (g.P.Spawner.held l.spawner) l.runner (d.seen l.disk) l.engine;
    }
