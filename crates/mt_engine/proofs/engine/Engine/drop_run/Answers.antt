use Rattle.std.proofs.Common.{◌≡◌, false, sym, subst, ap, ◌∙◌, arith}
use Rattle.std.proofs.lemmas.Grind.{common_steps}
use Rattle.mt_log.specs.RunState.{Running}
use Rattle.mt_opening.specs.Current.{EngineState}
use Rattle.mt_engine.proofs.Ends.{goes_on_leaves}
use Rattle.mt_engine.proofs.engine.Engine.drop_run.Goals as goal

pub drop_run-requires : goal.drop_run-requires
drop_run-requires g c = record { running = subst (λ (e : EngineState). Running g.D.Disk.seen g.D.Disk.may_leave c.args.disk.now e.log c.args.run) (sym c.self.view_is) c.requires.ready.running }

pub unreachable-requires : goal.unreachable-requires
unreachable-requires g c =
    let is_open : c.self.inside.log.closed ≡ false = ap (λ (e : EngineState). e.log.closed) c.self.view_is ∙ c.requires.ready.is_open in
    grind (arith, common_steps)

pub returns-clause-any_moment : goal.returns-clause-any_moment
returns-clause-any_moment g c base h qs w =
    let d = g.D.Disk in
    let is_open = ap (λ (e : EngineState). e.log.closed) c.self.view_is ∙ c.requires.ready.is_open in
    goes_on_leaves d.moment d.left_since c.args.disk.now c.drop_run.new.disk (d.seen c.args.disk.now) c.args.self.now c.args.run base h qs w (c.drop_run.ensures.any_moment is_open)
