use Rattle.std.proofs.Common.{◌≡◌, ◌≤◌, ℕ, List, false, is_some, sym, subst, ap, ◌∙◌}
use Rattle.std.specs.Option.{ForSome}
use Rattle.mt_disk.specs.CrashModel.{LeavesOnly}
use Rattle.mt_log.specs.LogImage.{IsBeforeOrAfter}
use Rattle.mt_log.specs.LogState.{LogState}
use Rattle.mt_log.specs.RunState.{HasTaken, Running}
use Rattle.mt_opening.specs.Current.{EngineState}
use Rattle.mt_engine.proofs.Ends.{end_leaves, ended_current}
use Rattle.mt_engine.proofs.Runs.{ended_same, ends_so, where_open}
use Rattle.mt_engine.proofs.engine.Engine.end_run.Goals as goal

pub end_log_run-requires-clause-running : goal.end_log_run-requires-clause-running
end_log_run-requires-clause-running g c = subst (λ (e : EngineState). Running g.D.Disk.seen g.D.Disk.may_leave c.args.disk.now e.log c.args.run) (sym c.self.view_is) c.requires.ready.running

pub end_log_run-requires-clause-order : goal.end_log_run-requires-clause-order
end_log_run-requires-clause-order g c = subst (λ (e : EngineState). e.log.closed ≡ false → e.log.gate ≤ c.args.run.next) (sym c.self.view_is) c.requires.ready.order

pub returns-clause-ends : goal.returns-clause-ends
returns-clause-ends g c =
    ends_so c.self.inside.log c.end_log_run.new.log c.self.inside.account c.args.self.now c.self.view_is c.end_log_run.result c.args.run c.end_log_run.ensures.place c.end_log_run.ensures.closes

pub returns-clause-current : goal.returns-clause-current
returns-clause-current g c base h qs w done =
    let d = g.D.Disk in
    let e = c.end_log_run.ensures in
    let new : EngineState = record { log = c.end_log_run.new.log; state = c.self.inside.account } in
    let taken = subst (λ (x : EngineState). HasTaken (d.seen c.args.disk.now) x.log c.args.run w.records) (sym c.self.view_is) w.taken in
    ended_current (d.may_leave c.end_log_run.new.disk) (d.seen c.args.disk.now) (d.seen c.end_log_run.new.disk) c.args.self.now new c.args.run base h qs w
    (e.added w.records taken done) ((λ i. record new { log = e.place done i }) ∙ ap (λ (x : EngineState). record x { log = record x.log { gate = c.args.run.next } }) c.self.view_is) e.stands

pub returns-clause-any_moment : goal.returns-clause-any_moment
returns-clause-any_moment g c base h qs w =
    let d = g.D.Disk in
    end_leaves d.moment d.left_since c.args.disk.now c.end_log_run.new.disk (d.seen c.args.disk.now) c.args.self.now c.args.run base h qs w
    (subst (λ (x : EngineState). ForSome (d.seen c.args.disk.now) (λ files. (records : List (List ℕ)) → HasTaken (d.seen c.args.disk.now) x.log c.args.run records →
    LeavesOnly d.moment d.left_since c.args.disk.now c.end_log_run.new.disk (IsBeforeOrAfter files records))) c.self.view_is c.end_log_run.ensures.any_moment)

pub returns-clause-keeps : goal.returns-clause-keeps
returns-clause-keeps g c =
    let d = g.D.Disk in
    let same = ended_same c.end_log_run.result c.self.inside.log c.end_log_run.new.log c.args.run.next c.end_log_run.ensures.place c.end_log_run.ensures.closes in
    record {
      told = λ is_open. where_open c.end_log_run.result c.end_log_run.new.log.closed (is_some (d.seen c.end_log_run.new.disk) ≡ is_some (d.seen c.args.disk.now)) c.end_log_run.ensures.told
          (λ e. ap (λ (l : LogState). l.closed) (c.end_log_run.ensures.closes e)) is_open;
      version = λ is_open. same.0 ∙ ap (λ (e : EngineState). e.log.is_old) c.self.view_is;
      limit = λ is_open. same.1 ∙ ap (λ (e : EngineState). e.log.limit) c.self.view_is;
      faults = c.end_log_run.ensures.faults;
    }
