use Rattle.std.proofs.Common.{[], sym, subst, ap, ◌∙◌, arith}
use Rattle.mt_log.specs.LogState.{Stands}
use Rattle.mt_log.specs.RunState.{HasTaken, RunState, Running}
use Rattle.mt_opening.specs.Current.{EngineState}
use Rattle.mt_engine.proofs.Stores.{begun}
use Rattle.mt_engine.proofs.engine.Engine.begin_run.Goals as goal

pub begin_run-requires-clause-stands : goal.begin_run-requires-clause-stands
begin_run-requires-clause-stands g c = subst (λ (e : EngineState). Stands g.D.Disk.seen g.D.Disk.may_leave c.args.disk.now e.log) (sym c.self.view_is) c.requires.stands

pub returns-clause-goes_on : goal.returns-clause-goes_on
returns-clause-goes_on g c = record {
  running = subst (λ (e : EngineState). Running g.D.Disk.seen g.D.Disk.may_leave c.args.disk.now e.log c.begin_run.result) c.self.view_is c.begin_run.ensures.running;
  order = λ is_open. omega (arith, ap (λ (r : RunState). r.next) c.begin_run.ensures.place, ap (λ (e : EngineState). e.log.gate) c.self.view_is);
}

pub returns-clause-writing : goal.returns-clause-writing
returns-clause-writing g c base h i =
    begun (g.D.Disk.seen c.args.disk.now) c.args.self.now c.begin_run.result base h i
    (subst (λ (e : EngineState). HasTaken (g.D.Disk.seen c.args.disk.now) e.log c.begin_run.result []) c.self.view_is
    (c.begin_run.ensures.none (ap (λ (e : EngineState). e.log.closed) c.self.view_is ∙ i.is_read.is_open)))
