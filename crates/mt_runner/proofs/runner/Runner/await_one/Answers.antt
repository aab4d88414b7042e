use Rattle.std.proofs.Common.{◌≡◌, ◌∙◌, ap, sym, refl, subst, arith, eqb, map, List}
use Rattle.std.specs.List.{IsDistinct}
use Rattle.mt_spawn.specs.Children.{Child}
use Rattle.mt_runner.specs.Attempts.{RunnerState, number_of}
use Rattle.mt_runner.proofs.Awaits.{has_come, known_child, lost, none_came, task_there}
use Rattle.mt_runner.proofs.Fills.{live_same}
use Rattle.mt_runner.proofs.runner.Runner.await_one.Goals as goal

pub unreachable-requires : goal.unreachable-requires
unreachable-requires g c =
    let h = c.in-Ended.ensures.wait.0 in
    let k = known_child _ _ h.child c.requires.paired h.alive in
    task_there _ _ k.0 c.in-Ended.ticket.number c.requires.paired k.1 (ap (λ (d : Child g.P.Spawner.Fate). d.ticket) k.2 ∙ h.named) c.in_default.ensures

pub returns-in-Some-clause-awaits : goal.returns-in-Some-clause-awaits
returns-in-Some-clause-awaits g c = λ e df.
    let w = c.in-Ended.ensures.wait in
    let d : IsDistinct eqb (map number_of c.args.self.now.kept) = subst (λ (r : RunnerState). IsDistinct eqb (map number_of r.kept)) c.self.view_is c.self.invariant.2 in
    (has_come _ _ _ _ _ e df c.requires.paired d c.in-Ended.ticket.number c.in-Some.task c.in-Ended.left _ w.0 c.in-Some.ensures c.forget.ensures.kept, w.1)

pub returns-in-NotYet-clause-awaits : goal.returns-in-NotYet-clause-awaits
returns-in-NotYet-clause-awaits g c = λ e df. let w = c.in-NotYet.ensures.wait in (none_came _ _ _ e df c.requires.paired w.0, w.1)

pub returns-in-Failed-clause-awaits : goal.returns-in-Failed-clause-awaits
returns-in-Failed-clause-awaits g c = λ e df.
    let w = c.in-Failed.ensures.wait in
    let d : IsDistinct eqb (map number_of c.args.self.now.kept) = subst (λ (r : RunnerState). IsDistinct eqb (map number_of r.kept)) c.self.view_is c.self.invariant.2 in
    (lost (g.P.Spawner.may (g.P.Spawner.rule c.args.spawner.now)) _ _ _ _ e df c.requires.paired d c.in-Failed.ticket.number w.0 c.forget-in-Failed.ensures.kept, w.1, w.2)

pub returns-in-Lost-clause-awaits : goal.returns-in-Lost-clause-awaits
returns-in-Lost-clause-awaits g c = λ e df.
    let w = c.in-Lost.ensures.wait in
    let d : IsDistinct eqb (map number_of c.args.self.now.kept) = subst (λ (r : RunnerState). IsDistinct eqb (map number_of r.kept)) c.self.view_is c.self.invariant.2 in
    (lost (g.P.Spawner.may (g.P.Spawner.rule c.args.spawner.now)) _ _ _ _ e df c.requires.paired d c.in-Lost.ticket.number w.0 c.forget-in-Lost.ensures.kept, w.1, w.2)

pub returns-in-Memory-clause-awaits : goal.returns-in-Memory-clause-awaits
returns-in-Memory-clause-awaits g c = λ e df. let w = c.in-Memory.ensures.wait in (live_same _ _ _ _ e df df c.requires.paired refl w.0, w.1, w.2)
