use Rattle.std.proofs.Common.{◌≡◌, ◌∙◌, ap, sym, refl, subst, arith, inl, inr, length, map}
use Rattle.mt_runner.specs.Attempts.{RunnerState, attempts}
use Rattle.mt_runner.specs.Attends.{Works, attempts_in, work_side}
use Rattle.mt_runner.specs.Moves.{MovesOn}
use Rattle.mt_spawn.specs.Children.{MayBe, ticket_of}
use Rattle.mt_runner.specs.declared.turn.Turn.{Turn}
use Rattle.mt_runner.specs.declared.turn.Turn.TheVariants as turn
use Rattle.mt_runner.proofs.Fills.{began_paired}
use Rattle.mt_runner.proofs.Works.{some_of, zero_of, ended, ended_on, idle, lives_on, loses, some_live, stops, taken_ready, took, tried_of, waits}
use Rattle.mt_runner.proofs.Lived.{live_kept, lives_as_filled, lives_but_one, lives_filled, none_came_kept, paired_kept}
use Rattle.mt_runner.proofs.Moved.{moved_none, moved_task, takes_at, rights_filled, rights_gone, rights_live, rights_none}
use Rattle.mt_runner.proofs.Pairs.{are_paired}
use Rattle.mt_runner.proofs.runner.Runner.work.Goals as goal

pub returns-in-SpawnFault-clause-works : goal.returns-in-SpawnFault-clause-works
returns-in-SpawnFault-clause-works g c =
    let f = c.in-SpawnFault.ensures.fills in
    let k = c.holds.ensures in
    (_, tried_of _ _ _ _ c.requires.lawful f.0 c.requires.ready k.tickets k.tasks (omega (arith, k.few, c.fill-filled.ensures.slots)), inl (stops _ c.args.self.now.slots _ _ c.requires.lawful f.0 c.requires.ready f.1), f.2, refl)

pub returns-in-SpawnFault-clause-moves : goal.returns-in-SpawnFault-clause-moves
returns-in-SpawnFault-clause-moves g c =
    let d = g.D.Disk in
    let k = c.holds.ensures in
    moved_none d.seen d.may_leave d.moment d.left_since _ _ _ c.args.now _ _ _ _ _ (g.met.D.Disk.only_now c.args.disk.now) c.requires.engine c.fill-filled.ensures.read refl
    (λ base h i. (refl, i)) (λ base h i r. rights_filled d.seen d.may_leave d.moment d.left_since _ _ _ c.args.now c.args.disk.now _ _ c.in-SpawnFault.ensures.fills.0 base h i r)
    (lives_filled c.args.self.now.login (g.P.Spawner.gives (g.P.Spawner.rule c.args.spawner.now)) _ _ _ _ c.in-SpawnFault.ensures.fills.0 c.requires.lawful c.requires.paired (began_paired _ _ _ _ c.in-SpawnFault.ensures.fills.0) k.tickets k.tasks turn.SpawnFault)

pub returns-in-SpawnFault-clause-paired : goal.returns-in-SpawnFault-clause-paired
returns-in-SpawnFault-clause-paired g c = began_paired _ _ _ _ c.in-SpawnFault.ensures.fills.0

pub returns-in-Disk-clause-works : goal.returns-in-Disk-clause-works
returns-in-Disk-clause-works g c =
    let f = c.in-Disk.ensures.fills in
    let k = c.holds.ensures in
    (_, tried_of _ _ _ _ c.requires.lawful f.0 c.requires.ready k.tickets k.tasks (omega (arith, k.few, c.fill-filled.ensures.slots)), inl (stops _ c.args.self.now.slots _ _ c.requires.lawful f.0 c.requires.ready f.1, refl), f.2)

pub returns-in-Disk-clause-moves : goal.returns-in-Disk-clause-moves
returns-in-Disk-clause-moves g c =
    let d = g.D.Disk in
    let k = c.holds.ensures in
    moved_none d.seen d.may_leave d.moment d.left_since _ _ _ c.args.now _ _ _ _ _ (g.met.D.Disk.only_now c.args.disk.now) c.requires.engine c.fill-filled.ensures.read refl
    (λ base h i. inl (refl, λ is_open. i)) (λ base h i r. rights_filled d.seen d.may_leave d.moment d.left_since _ _ _ c.args.now c.args.disk.now _ _ c.in-Disk.ensures.fills.0 base h i r)
    (lives_filled c.args.self.now.login (g.P.Spawner.gives (g.P.Spawner.rule c.args.spawner.now)) _ _ _ _ c.in-Disk.ensures.fills.0 c.requires.lawful c.requires.paired (began_paired _ _ _ _ c.in-Disk.ensures.fills.0) k.tickets k.tasks turn.Disk)

pub returns-in-Disk-clause-paired : goal.returns-in-Disk-clause-paired
returns-in-Disk-clause-paired g c = began_paired _ _ _ _ c.in-Disk.ensures.fills.0

pub returns-in-Memory-clause-works : goal.returns-in-Memory-clause-works
returns-in-Memory-clause-works g c =
    let f = c.in-Memory.ensures.fills in
    let k = c.holds.ensures in
    (_, tried_of _ _ _ _ c.requires.lawful f.0 c.requires.ready k.tickets k.tasks (omega (arith, k.few, c.fill-filled.ensures.slots)), inl (inl (stops _ c.args.self.now.slots _ _ c.requires.lawful f.0 c.requires.ready f.1), refl))

pub returns-in-Memory-clause-moves : goal.returns-in-Memory-clause-moves
returns-in-Memory-clause-moves g c =
    let d = g.D.Disk in
    let k = c.holds.ensures in
    moved_none d.seen d.may_leave d.moment d.left_since _ _ _ c.args.now _ _ _ _ _ (g.met.D.Disk.only_now c.args.disk.now) c.requires.engine c.fill-filled.ensures.read refl
    (λ base h i. (refl, λ is_open. i)) (λ base h i r. rights_filled d.seen d.may_leave d.moment d.left_since _ _ _ c.args.now c.args.disk.now _ _ c.in-Memory.ensures.fills.0 base h i r)
    (lives_filled c.args.self.now.login (g.P.Spawner.gives (g.P.Spawner.rule c.args.spawner.now)) _ _ _ _ c.in-Memory.ensures.fills.0 c.requires.lawful c.requires.paired (began_paired _ _ _ _ c.in-Memory.ensures.fills.0) k.tickets k.tasks turn.Memory)

pub returns-in-Memory-clause-paired : goal.returns-in-Memory-clause-paired
returns-in-Memory-clause-paired g c = began_paired _ _ _ _ c.in-Memory.ensures.fills.0

pub returns-then-is_empty-clause-works : goal.returns-then-is_empty-clause-works
returns-then-is_empty-clause-works g c =
    let f = c.in-Whole.ensures.fills in
    let k = c.holds.ensures in
    let t = tried_of _ c.args.self.now.slots _ _ c.requires.lawful f.0 c.requires.ready k.tickets k.tasks (omega (arith, k.few, c.fill-filled.ensures.slots)) in
    (idle _ c.args.self.now.slots _ _ c.requires.lawful f.0 c.requires.ready t f.1 (omega (arith, k.some, c.fill-filled.ensures.slots)) (omega (arith, zero_of _ c.if-is_empty.ensures, ap (λ (r : RunnerState). length r.kept) c.self.view_is)), refl)

pub returns-then-is_empty-clause-moves : goal.returns-then-is_empty-clause-moves
returns-then-is_empty-clause-moves g c =
    let d = g.D.Disk in
    let k = c.holds.ensures in
    moved_none d.seen d.may_leave d.moment d.left_since _ _ _ c.args.now _ _ _ _ _ (g.met.D.Disk.only_now c.args.disk.now) c.requires.engine c.fill-filled.ensures.read refl
    (λ base h i. (refl, i)) (λ base h i r. rights_filled d.seen d.may_leave d.moment d.left_since _ _ _ c.args.now c.args.disk.now _ _ c.in-Whole.ensures.fills.0 base h i r)
    (lives_filled c.args.self.now.login (g.P.Spawner.gives (g.P.Spawner.rule c.args.spawner.now)) _ _ _ _ c.in-Whole.ensures.fills.0 c.requires.lawful c.requires.paired (began_paired _ _ _ _ c.in-Whole.ensures.fills.0) k.tickets k.tasks turn.Idle)

pub await_one-requires-clause-paired : goal.await_one-requires-clause-paired
await_one-requires-clause-paired g c = began_paired _ _ _ _ c.in-Whole.ensures.fills.0

pub take_outcome-end-requires-clause-held : goal.take_outcome-end-requires-clause-held
take_outcome-end-requires-clause-held g c = (c.in-Ended.ensures.awaits c.args.engine.now 0).1

pub take_outcome-end-requires-clause-ready : goal.take_outcome-end-requires-clause-ready
take_outcome-end-requires-clause-ready g c =
    let f = c.in-Whole.ensures.fills in
    let k = c.holds.ensures in
    let t = tried_of _ c.args.self.now.slots _ _ c.requires.lawful f.0 c.requires.ready k.tickets k.tasks (omega (arith, k.few, c.fill-filled.ensures.slots)) in
    let w = c.in-Ended.ensures.awaits c.args.engine.now (g.D.Disk.faults c.fill-filled.new.disk) in
    taken_ready _ c.args.engine.now.state _ c.in-Ended.task _ _ t.all_ready (ended _ c.args.self.now.slots _ _ c.requires.lawful f.0 c.requires.ready t f.1 _ c.in-Ended.task c.in-Ended.left _ _ w.0)

pub returns-in-NotYet-clause-works : goal.returns-in-NotYet-clause-works
returns-in-NotYet-clause-works g c =
    let f = c.in-Whole.ensures.fills in
    let k = c.holds.ensures in
    let t = tried_of _ c.args.self.now.slots _ _ c.requires.lawful f.0 c.requires.ready k.tickets k.tasks (omega (arith, k.few, c.fill-filled.ensures.slots)) in
    let w = c.in-NotYet.ensures.awaits c.args.engine.now (g.D.Disk.faults c.fill-filled.new.disk) in
    (_, t, waits _ c.args.self.now.slots _ _ c.requires.lawful f.0 c.requires.ready t f.1 _ (omega (arith, some_of _ c.if-is_empty.ensures, ap (λ (r : RunnerState). length r.kept) c.self.view_is)) w.0, refl)

pub returns-in-NotYet-clause-moves : goal.returns-in-NotYet-clause-moves
returns-in-NotYet-clause-moves g c =
    let d = g.D.Disk in
    let k = c.holds.ensures in
    let w = c.in-NotYet.ensures.awaits c.args.engine.now (g.D.Disk.faults c.fill-filled.new.disk) in
    moved_none d.seen d.may_leave d.moment d.left_since _ _ _ c.args.now _ _ _ _ _ (g.met.D.Disk.only_now c.args.disk.now) c.requires.engine c.fill-filled.ensures.read refl
    (λ base h i. (refl, i)) (λ base h i r. rights_none _ _ _ _ _ _ w.0 (rights_filled d.seen d.may_leave d.moment d.left_since _ _ _ c.args.now c.args.disk.now _ _ c.in-Whole.ensures.fills.0 base h i r))
    (lives_as_filled c.args.self.now.login (g.P.Spawner.gives (g.P.Spawner.rule c.args.spawner.now)) _ _ _ _ c.in-Whole.ensures.fills.0 c.requires.lawful c.requires.paired (began_paired _ _ _ _ c.in-Whole.ensures.fills.0) k.tickets k.tasks _ (none_came_kept _ _ (began_paired _ _ _ _ c.in-Whole.ensures.fills.0) w.0) turn.NotYet)

pub returns-in-NotYet-clause-paired : goal.returns-in-NotYet-clause-paired
returns-in-NotYet-clause-paired g c = let w = c.in-NotYet.ensures.awaits c.args.engine.now 0 in are_paired _ _ w.0.zs w.0.are

pub returns-in-NotYet-clause-free : goal.returns-in-NotYet-clause-free
returns-in-NotYet-clause-free g c = (c.in-NotYet.ensures.awaits c.args.engine.now 0).1

pub returns-in-NotYet-clause-faults : goal.returns-in-NotYet-clause-faults
returns-in-NotYet-clause-faults g c = let w = c.in-NotYet.ensures.awaits c.args.engine.now 0 in omega (arith, w.0.faults, c.in-Whole.ensures.fills.0.faults)

pub returns-in-Failed-clause-works : goal.returns-in-Failed-clause-works
returns-in-Failed-clause-works g c =
    let f = c.in-Whole.ensures.fills in
    let k = c.holds.ensures in
    let t = tried_of _ c.args.self.now.slots _ _ c.requires.lawful f.0 c.requires.ready k.tickets k.tasks (omega (arith, k.few, c.fill-filled.ensures.slots)) in
    let w = c.in-Failed.ensures.awaits c.args.engine.now (g.D.Disk.faults c.fill-filled.new.disk) in
    (_, t, inr (inl (loses _ c.args.self.now.slots _ _ c.requires.lawful f.0 c.requires.ready _ w.0)), omega (arith, w.1, f.0.faults), refl)

pub returns-in-Failed-clause-moves : goal.returns-in-Failed-clause-moves
returns-in-Failed-clause-moves g c =
    let d = g.D.Disk in
    let k = c.holds.ensures in
    let w = c.in-Failed.ensures.awaits c.args.engine.now (g.D.Disk.faults c.fill-filled.new.disk) in
    moved_none d.seen d.may_leave d.moment d.left_since _ _ _ c.args.now _ _ _ _ _ (g.met.D.Disk.only_now c.args.disk.now) c.requires.engine c.fill-filled.ensures.read refl
    (λ base h i. (refl, i)) (λ base h i r. rights_gone _ _ _ _ _ w.0.x _ _ w.0.gone (rights_filled d.seen d.may_leave d.moment d.left_since _ _ _ c.args.now c.args.disk.now _ _ c.in-Whole.ensures.fills.0 base h i r))
    (lives_but_one c.args.self.now.login (g.P.Spawner.gives (g.P.Spawner.rule c.args.spawner.now)) _ _ _ _ c.in-Whole.ensures.fills.0 c.requires.lawful c.requires.paired (began_paired _ _ _ _ c.in-Whole.ensures.fills.0) k.tickets k.tasks _ w.0 turn.SpawnFault refl)

pub returns-in-Failed-clause-paired : goal.returns-in-Failed-clause-paired
returns-in-Failed-clause-paired g c = let w = c.in-Failed.ensures.awaits c.args.engine.now 0 in are_paired _ _ _ w.0.gone.are

pub returns-in-Failed-clause-free : goal.returns-in-Failed-clause-free
returns-in-Failed-clause-free g c = (c.in-Failed.ensures.awaits c.args.engine.now 0).2

pub returns-in-Failed-clause-faults : goal.returns-in-Failed-clause-faults
returns-in-Failed-clause-faults g c = let w = c.in-Failed.ensures.awaits c.args.engine.now 0 in omega (arith, w.1, c.in-Whole.ensures.fills.0.faults)

pub returns-in-Lost-clause-works : goal.returns-in-Lost-clause-works
returns-in-Lost-clause-works g c =
    let f = c.in-Whole.ensures.fills in
    let k = c.holds.ensures in
    let t = tried_of _ c.args.self.now.slots _ _ c.requires.lawful f.0 c.requires.ready k.tickets k.tasks (omega (arith, k.few, c.fill-filled.ensures.slots)) in
    let w = c.in-Lost.ensures.awaits c.args.engine.now (g.D.Disk.faults c.fill-filled.new.disk) in
    (_, t, inl (inr (inr (loses _ c.args.self.now.slots _ _ c.requires.lawful f.0 c.requires.ready _ w.0)), refl))

pub returns-in-Lost-clause-moves : goal.returns-in-Lost-clause-moves
returns-in-Lost-clause-moves g c =
    let d = g.D.Disk in
    let k = c.holds.ensures in
    let w = c.in-Lost.ensures.awaits c.args.engine.now (g.D.Disk.faults c.fill-filled.new.disk) in
    moved_none d.seen d.may_leave d.moment d.left_since _ _ _ c.args.now _ _ _ _ _ (g.met.D.Disk.only_now c.args.disk.now) c.requires.engine c.fill-filled.ensures.read refl
    (λ base h i. (refl, λ is_open. i)) (λ base h i r. rights_gone _ _ _ _ _ w.0.x _ _ w.0.gone (rights_filled d.seen d.may_leave d.moment d.left_since _ _ _ c.args.now c.args.disk.now _ _ c.in-Whole.ensures.fills.0 base h i r))
    (lives_but_one c.args.self.now.login (g.P.Spawner.gives (g.P.Spawner.rule c.args.spawner.now)) _ _ _ _ c.in-Whole.ensures.fills.0 c.requires.lawful c.requires.paired (began_paired _ _ _ _ c.in-Whole.ensures.fills.0) k.tickets k.tasks _ w.0 turn.Memory refl)

pub returns-in-Lost-clause-paired : goal.returns-in-Lost-clause-paired
returns-in-Lost-clause-paired g c = let w = c.in-Lost.ensures.awaits c.args.engine.now 0 in are_paired _ _ _ w.0.gone.are

pub returns-in-Lost-clause-free : goal.returns-in-Lost-clause-free
returns-in-Lost-clause-free g c = (c.in-Lost.ensures.awaits c.args.engine.now 0).2

pub returns-in-Lost-clause-faults : goal.returns-in-Lost-clause-faults
returns-in-Lost-clause-faults g c = let w = c.in-Lost.ensures.awaits c.args.engine.now 0 in omega (arith, w.1, c.in-Whole.ensures.fills.0.faults)

pub returns-in-Memory-await_one-clause-works : goal.returns-in-Memory-await_one-clause-works
returns-in-Memory-await_one-clause-works g c =
    let f = c.in-Whole.ensures.fills in
    let k = c.holds.ensures in
    let t = tried_of _ c.args.self.now.slots _ _ c.requires.lawful f.0 c.requires.ready k.tickets k.tasks (omega (arith, k.few, c.fill-filled.ensures.slots)) in
    let w = c.in-Memory-await_one.ensures.awaits c.args.engine.now (g.D.Disk.faults c.fill-filled.new.disk) in
    (_, t, inl (inr (inl (record { some = some_live _ c.args.self.now.slots _ _ c.requires.lawful f.0 c.requires.ready (omega (arith, some_of _ c.if-is_empty.ensures, ap (λ (r : RunnerState). length r.kept) c.self.view_is)); live = lives_on _ c.args.self.now.slots _ _ c.requires.lawful f.0 c.requires.ready _ w.0 })), refl))

pub returns-in-Memory-await_one-clause-moves : goal.returns-in-Memory-await_one-clause-moves
returns-in-Memory-await_one-clause-moves g c =
    let d = g.D.Disk in
    let k = c.holds.ensures in
    let w = c.in-Memory-await_one.ensures.awaits c.args.engine.now (g.D.Disk.faults c.fill-filled.new.disk) in
    moved_none d.seen d.may_leave d.moment d.left_since _ _ _ c.args.now _ _ _ _ _ (g.met.D.Disk.only_now c.args.disk.now) c.requires.engine c.fill-filled.ensures.read refl
    (λ base h i. (refl, λ is_open. i)) (λ base h i r. rights_live _ _ _ _ _ _ _ w.0 (rights_filled d.seen d.may_leave d.moment d.left_since _ _ _ c.args.now c.args.disk.now _ _ c.in-Whole.ensures.fills.0 base h i r))
    (lives_as_filled c.args.self.now.login (g.P.Spawner.gives (g.P.Spawner.rule c.args.spawner.now)) _ _ _ _ c.in-Whole.ensures.fills.0 c.requires.lawful c.requires.paired (began_paired _ _ _ _ c.in-Whole.ensures.fills.0) k.tickets k.tasks _ (live_kept _ _ (began_paired _ _ _ _ c.in-Whole.ensures.fills.0) w.0) turn.Memory)

pub returns-in-Memory-await_one-clause-paired : goal.returns-in-Memory-await_one-clause-paired
returns-in-Memory-await_one-clause-paired g c = let w = c.in-Memory-await_one.ensures.awaits c.args.engine.now 0 in are_paired _ _ _ w.0.are

pub returns-in-Memory-await_one-clause-free : goal.returns-in-Memory-await_one-clause-free
returns-in-Memory-await_one-clause-free g c = (c.in-Memory-await_one.ensures.awaits c.args.engine.now 0).2

pub returns-in-Memory-await_one-clause-faults : goal.returns-in-Memory-await_one-clause-faults
returns-in-Memory-await_one-clause-faults g c = let w = c.in-Memory-await_one.ensures.awaits c.args.engine.now 0 in omega (arith, w.1, c.in-Whole.ensures.fills.0.faults)

pub returns-clause-works : goal.returns-clause-works
returns-clause-works g c =
    let f = c.in-Whole.ensures.fills in
    let k = c.holds.ensures in
    let e = c.take_outcome-end.ensures in
    let t = tried_of _ c.args.self.now.slots _ _ c.requires.lawful f.0 c.requires.ready k.tickets k.tasks (omega (arith, k.few, c.fill-filled.ensures.slots)) in
    let w = c.in-Ended.ensures.awaits c.args.engine.now (g.D.Disk.faults c.fill-filled.new.disk) in
    let h = ended _ c.args.self.now.slots _ _ c.requires.lawful f.0 c.requires.ready t f.1 _ c.in-Ended.task c.in-Ended.left _ _ w.0 in
    let p = g.P.Spawner in
    let old = work_side c.args.self.now.kept (p.seen c.args.spawner.now) c.args.engine.now (g.D.Disk.faults c.args.disk.now) in
    let new = work_side c.await_one.new.self.kept (p.seen c.take_outcome-end.new.spawner) c.take_outcome-end.new.engine (g.D.Disk.faults c.take_outcome-end.new.disk) in
    subst (λ (turn : Turn). Works c.args.self.now.slots c.args.now (attempts_in old) old turn new) (sym c.end_of_task.ensures)
    (took c.args.self.now.slots c.args.now _ _ c.in-Ended.task old new c.take_outcome-end.result t (ended_on _ c.args.engine.now.state _ c.in-Ended.task _ _ _ refl e.same h) e.state
    (λ is. omega (arith, e.unread is, w.0.faults, f.0.faults)) (λ is. omega (arith, e.disk is, c.fill-filled.ensures.faults)))

pub returns-clause-moves : goal.returns-clause-moves
returns-clause-moves g c =
    let d = g.D.Disk in
    let p = g.P.Spawner in
    let e = c.take_outcome-end.ensures in
    let k = c.holds.ensures in
    let f = c.in-Whole.ensures.fills in
    let w = c.in-Ended.ensures.awaits c.args.engine.now (d.faults c.fill-filled.new.disk) in
    let old = work_side c.args.self.now.kept (p.seen c.args.spawner.now) c.args.engine.now (d.faults c.args.disk.now) in
    let mid = work_side c.fill-filled.new.self.kept (p.seen c.fill-filled.new.spawner) c.args.engine.now (d.faults c.fill-filled.new.disk) in
    let left = work_side c.await_one.new.self.kept (p.seen c.await_one.new.spawner) c.args.engine.now (d.faults c.fill-filled.new.disk) in
    let new = work_side c.await_one.new.self.kept (p.seen c.take_outcome-end.new.spawner) c.take_outcome-end.new.engine (d.faults c.take_outcome-end.new.disk) in
    let login : c.as_str-login.result.now ≡ c.args.self.now.login =
    c.as_str-login.ensures ∙ (ap (λ (r : RunnerState). r.login) c.self-2.view_is ∙ (c.await_one.ensures.login ∙ c.fill-filled.ensures.login)) in
    let given = subst (λ q. MayBe (p.may q w.0.x.fate) c.in-Ended.left (p.told c.await_one.new.spawner)) c.fill-filled.ensures.rule w.0.given in
    let takes = takes_at d.seen d.moment d.left_since p.gives p.may _ _ _ _ c.in-Ended.task c.args.now c.in-Ended.left (p.told c.await_one.new.spawner) c.take_outcome-end.result c.fill-filled.new.disk c.args.engine.now c.take_outcome-end.new.disk c.take_outcome-end.new.engine
    (c.await_one.ensures.rule ∙ c.fill-filled.ensures.rule) login e.takes in
    subst (λ (turn : Turn). MovesOn d.seen d.moment d.left_since c.args.self.now.login (p.gives (p.rule c.args.spawner.now)) (p.may (p.rule c.args.spawner.now)) c.args.now c.args.disk.now old turn c.take_outcome-end.new.disk new)
    (sym c.end_of_task.ensures)
    (moved_task d.seen d.may_leave d.moment d.left_since _ _ _ c.args.now c.args.disk.now old mid left (attempts_in mid) w.0.x c.in-Ended.task c.in-Ended.left (p.told c.await_one.new.spawner) c.take_outcome-end.result c.fill-filled.new.disk c.take_outcome-end.new.disk new
    (g.met.D.Disk.only_now c.args.disk.now) c.requires.engine c.requires.lawful c.requires.waits c.fill-filled.ensures.read w.0.gone w.0.its given
    (λ base h i r. rights_filled d.seen d.may_leave d.moment d.left_since _ _ _ c.args.now c.args.disk.now _ _ c.in-Whole.ensures.fills.0 base h i r)
    (ap (attempts c.await_one.new.self.kept) e.same.live) refl (paired_kept _ _ (began_paired _ _ _ _ f.0)) k.tickets
    (λ base h i. lives_filled c.args.self.now.login (g.P.Spawner.gives (g.P.Spawner.rule c.args.spawner.now)) _ _ old mid f.0 c.requires.lawful c.requires.paired (began_paired _ _ _ _ f.0) k.tickets k.tasks _ base h i) takes)

pub returns-clause-paired : goal.returns-clause-paired
returns-clause-paired g c =
    let w = c.in-Ended.ensures.awaits c.args.engine.now 0 in
    are_paired _ _ _ w.0.gone.are ∙ ap (map ticket_of) (sym c.take_outcome-end.ensures.same.live)

pub returns-clause-faults : goal.returns-clause-faults
returns-clause-faults g c = let w = c.in-Ended.ensures.awaits c.args.engine.now 0 in omega (arith, c.take_outcome-end.ensures.faults, w.0.faults, c.in-Whole.ensures.fills.0.faults)
