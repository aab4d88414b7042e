-- the bodies of the records so far are in the run
use Rattle.std.proofs.Common.{◌≡◌, ℕ, List}
use Rattle.mt_base.specs.Counts.{NeverFell}
use Rattle.mt_disk.specs.CrashModel.{LeavesOnly}
use Rattle.mt_opening.specs.Current.{IsWriting}
use Rattle.mt_opening.specs.History.{Bytes, HasHistory, History}
use Rattle.mt_engine.specs.Ready.{EngineStays, RunGoesOn}
use Rattle.mt_model.specs.State.{State}
use Rattle.mt_spawn.specs.Children.{SameLive}
use Rattle.mt_tasks.specs.Storing.{RecordsAt, RecordsIn}
use Rattle.mt_tasks.proofs.storing.store_records.Given as goal

abbrev pub invariant-loop-one : goal.invariant-loop-one
invariant-loop-one g l = record {
  places : RecordsAt l.fn.run l.run l.yielded l.done.items;
  stores : (base : State Bytes) (h : History) (qs : List (List ℕ)) → IsWriting (g.D.Disk.seen l.fn.disk) l.fn.engine l.fn.run base h qs →
      RecordsIn (g.P.Spawner.told l.fn.spawner) (g.D.Disk.seen l.disk) l.engine l.run base h qs l.yielded l.done.items;
  any_moment : (base : State Bytes) (h : History) (qs : List (List ℕ)) → IsWriting (g.D.Disk.seen l.fn.disk) l.fn.engine l.fn.run base h qs →
      LeavesOnly g.D.Disk.moment g.D.Disk.left_since l.fn.disk l.disk (HasHistory base h);
  goes_on : RunGoesOn g.D.Disk.seen g.D.Disk.may_leave l.disk l.engine l.run;
  keeps : EngineStays g.D.Disk.seen g.D.Disk.faults l.fn.disk l.disk l.fn.engine l.engine;
  still_open : l.engine ≡ l.fn.engine;
  same : SameLive (g.P.Spawner.seen l.fn.spawner) (g.P.Spawner.seen l.spawner);
  faults : NeverFell (g.P.Spawner.seen l.fn.spawner).faults (g.P.Spawner.seen l.spawner).faults;
  held : g.P.Spawner.held l.spawner ≡ g.P.Spawner.held l.fn.spawner;
  told : g.P.Spawner.told l.spawner ≡ g.P.Spawner.told l.fn.spawner;
  rule : g.P.Spawner.rule l.spawner ≡ g.P.Spawner.rule l.fn.spawner;
}
