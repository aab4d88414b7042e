-- Turns so far, each of which added a command, lead from each history that the engine stood for to here.
use Rattle.std.proofs.Common.{◌≡◌, ◌<◌}
use Rattle.std.specs.Prelude.{is_some}
use Rattle.mt_base.specs.Counts.{NeverFell}
use Rattle.mt_opening.specs.Current.{EngineIsReady, IsCurrent, Over, told_size}
use Rattle.mt_opening.specs.History.{Bytes, History}
use Rattle.mt_model.specs.State.{State}
use Rattle.mt_records.specs.Fate.{fate}
use Rattle.mt_runner.specs.Account.{account_side, tasks_of, told_time}
use Rattle.mt_runner.specs.AtWork.{AtWork}
use Rattle.mt_runner.specs.Living.{LivesTo}
use Rattle.mt_runner.specs.Turning.{working_of}
use Rattle.mt_runner.specs.declared.turn.Turn.TheVariants as turn
use Rattle.mt_runner.proofs.Drains.{SoFar}
use Rattle.mt_runner.proofs.runner.Runner.drain.Given as goal

abbrev pub invariant-turns : goal.invariant-turns
invariant-turns g l =
    let d = g.D.Disk in
    let p = g.P.Spawner in
    let k = g.C.Clock in
    record {
      so_far : (base : State Bytes) (h : History) → Over (d.seen l.fn.disk) l.fn.engine base h
          → SoFar d.seen d.may_leave d.moment d.left_since (is_some (d.seen l.fn.disk))
          (working_of (is_some (d.seen l.fn.disk)) (k.gives (k.rule l.fn.clock)) (p.gives (p.rule l.fn.spawner)) l.fn.self.login l.fn.self.slots l.fn.engine.log.limit base) l.most l.left l.fn.disk l.disk l.engine base h
          (account_side h (told_size (d.seen l.fn.disk) l.fn.engine) (d.faults l.fn.disk) (told_time (is_some (d.seen l.fn.disk)) (d.moment l.fn.disk)) (k.asked l.fn.clock) (tasks_of (p.seen l.fn.spawner)))
          (λ m. account_side m (told_size (d.seen l.disk) l.engine) (d.faults l.disk) (told_time (is_some (d.seen l.fn.disk)) (d.moment l.disk)) (k.asked l.clock) (tasks_of (p.seen l.spawner)));
      lived : (base : State Bytes) (h : History) → IsCurrent (d.seen l.fn.disk) l.fn.engine base h
          → LivesTo l.fn.self.login (p.gives (p.rule l.fn.spawner)) (fate l.fn.self.login) d.seen d.may_leave d.moment d.left_since l.fn.disk l.disk l.engine turn.Idle base h l.fn.self.kept l.self.kept;
      ready : EngineIsReady d.seen d.may_leave l.disk l.engine;
      at_work : AtWork (p.may (p.rule l.spawner)) (p.gives (p.rule l.spawner)) (p.seen l.spawner) (p.held l.spawner) l.self (d.seen l.disk) l.engine;
      told : is_some (d.seen l.disk) ≡ is_some (d.seen l.fn.disk);
      limit : l.engine.log.limit ≡ l.fn.engine.log.limit;
      slots : l.self.slots ≡ l.fn.self.slots;
      login : l.self.login ≡ l.fn.self.login;
      children : p.rule l.spawner ≡ p.rule l.fn.spawner;
      moments : k.rule l.clock ≡ k.rule l.fn.clock;
      faults : NeverFell (d.faults l.fn.disk) (d.faults l.disk);
      some : 0 < l.left;
    }

abbrev pub decreases-turns : goal.decreases-turns
decreases-turns g l = l.left
