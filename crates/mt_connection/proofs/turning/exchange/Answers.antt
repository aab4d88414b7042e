-- A message, and the turn behind it where it was answered.
use Rattle.std.proofs.Common.{Bool, refl, sym, subst, ◌∙◌}
use Rattle.std.specs.Prelude.{is_some}
use Rattle.mt_opening.specs.Current.{told_size}
use Rattle.mt_opening.specs.History.{History}
use Rattle.mt_runner.specs.Account.{account_side, tasks_of, told_time}
use Rattle.mt_runner.specs.Turning.{Working}
use Rattle.mt_runner.proofs.Drains.{Took, at_setting}
use Rattle.mt_runner.proofs.Standing.{at_work_more}
use Rattle.mt_connection.specs.Sides.{Sides, joined, side_of}
use Rattle.mt_connection.specs.Steps.{MovesOn, Stepped}
use Rattle.mt_connection.specs.Transcript.{setting}
use Rattle.mt_connection.specs.declared.end.Step.{Step}
use Rattle.mt_connection.proofs.Crashes.{goes_from, goes_on_more, moves_more, not_later, still_ready}
use Rattle.mt_connection.proofs.Runs.{went_on}
use Rattle.mt_connection.proofs.Turned.{live_behind, over_here, turned_here}
use Rattle.mt_connection.proofs.turning.exchange.Goals as goal

pub turn-turn-requires-clause-ready : goal.turn-turn-requires-clause-ready
turn-turn-requires-clause-ready g c =
    let d = g.D.Disk in
    still_ready d.seen d.may_leave d.faults c.args.disk.now c.answer_message.new.disk c.args.engine.now c.answer_message.new.engine c.requires.work.ready c.in-Went.ensures.goes_on (c.in-Went.ensures.live (went_on _ _) (went_on _ _))

pub turn-turn-requires-clause-at_work : goal.turn-turn-requires-clause-at_work
turn-turn-requires-clause-at_work g c =
    let d = g.D.Disk in
    let p = g.P.Spawner in
    let spawner = c.args.spawner.now in
    at_work_more c.args.runner.now.login (p.gives (p.rule spawner)) (p.may (p.rule spawner)) (p.seen spawner) (p.held spawner) c.args.runner.now (d.seen c.args.disk.now) (d.seen c.answer_message.new.disk) c.args.engine.now c.answer_message.new.engine refl
    c.requires.work.ready.is_open c.requires.work.ready.serves c.in-Went.ensures.goes_on.stays.told
    (λ base h over. let a = c.in-Went.ensures.takes c.args.runner.now.slots (tasks_of (p.seen spawner)) base h over in (a.0, a.2.front, a.2.over))
    c.requires.work.at_work

pub returns-in-Went-clause-step : goal.returns-in-Went-clause-step
returns-in-Went-clause-step g c base h over =
    let d = g.D.Disk in
    let p = g.P.Spawner in
    let k = g.C.Clock in
    let side = side_of g.L.Source.left g.L.Sink.got g.L.Source.read_faults g.L.Sink.write_faults in
    let old = c.args.disk.now in
    let mid = c.answer_message.new.disk in
    let new = c.turn-turn.new.disk in
    let engine = c.answer_message.new.engine in
    let engine' = c.turn-turn.new.engine in
    let knows = is_some (d.seen old) in
    let runner = c.args.runner.now in
    let spawner = c.args.spawner.now in
    let closing = c.in-Went.closing in
    let is_open = c.in-Went.ensures.live (went_on _ _) (went_on _ _) in
    let told = c.in-Went.ensures.goes_on.stays.told is_open in
    let a = c.in-Went.ensures.takes runner.slots (tasks_of (p.seen spawner)) base h over in
    let m : History = a.0 in
    let before : Sides = joined (side c.args.link.now) (account_side h (told_size (d.seen old) c.args.engine.now) (d.faults old) (told_time knows (d.moment old)) (k.asked c.args.clock.now) (tasks_of (p.seen spawner))) in
    let at = λ (b : Bool). account_side m (told_size (d.seen mid) engine) (d.faults mid) (told_time b (d.moment mid)) (k.asked c.answer_message.new.clock) (tasks_of (p.seen spawner)) in
    let behind = λ (b : Bool) (n : History). account_side n (told_size (d.seen new) engine') (d.faults new) (told_time b (d.moment new)) (k.asked c.turn-turn.new.clock) (tasks_of (p.seen c.turn-turn.new.spawner)) in
    let t = at_setting k.gives p.gives base (λ (b : Bool) (w : Working). Took d.seen d.may_leave d.moment d.left_since b w mid new engine' c.turn-turn.result base m (at b) (behind b))
    knows (is_some (d.seen mid)) (k.rule c.args.clock.now) (k.rule c.answer_message.new.clock) (p.rule spawner) (p.rule spawner) c.args.login.now runner.login runner.slots runner.slots c.args.engine.now.log.limit engine.log.limit
    told c.in-Went.ensures.rule refl c.requires.work.same_login refl (c.in-Went.ensures.goes_on.stays.limit is_open) (c.turn-turn.ensures.takes base m (a.2.over is_open)) in
    let link = side c.answer_message.new.link in
    let turn_moves : MovesOn d.seen d.moment d.left_since mid new engine' base m t.0 = record { over = t.2; front = t.3; any_moment = λ is. t.5 (sym told ∙ is) } in
    let stepped = turned_here (is_some (g.L.Source.left c.args.link.now)) knows (k.gives (k.rule c.args.clock.now)) (p.gives (p.rule spawner)) c.args.login.now runner.slots c.args.engine.now.log.limit base
    (d.left_since mid) (d.left_since new) (d.may_leave new) before (joined link (at knows)) (joined link (behind knows t.0)) (d.moment mid) (not_later knows (d.moment mid))
    (λ is. goes_from d.moment d.left_since mid new base m t.0 (t.5 is)) a.1.0 a.1.2 a.1.3 refl closing a.1.1 c.turn-turn.result t.1 t.4 in (
      t.0,
      subst (λ (r : Step). Stepped (setting (is_some (g.L.Source.left c.args.link.now)) knows (k.gives (k.rule c.args.clock.now)) (p.gives (p.rule spawner)) c.args.login.now runner.slots c.args.engine.now.log.limit base) (d.left_since new) (d.may_leave new) before r (joined link (behind knows t.0)))
          (sym c.step_of_turn.ensures) stepped,
      moves_more d.seen d.moment d.left_since old mid new engine engine' base h m t.0 told a.2 turn_moves,
    )

pub returns-in-Went-clause-keeps : goal.returns-in-Went-clause-keeps
returns-in-Went-clause-keeps g c =
    let d = g.D.Disk in
    let t = c.turn-turn.ensures in
    record {
      at_work = t.at_work;
      same = (t.same.1, t.same.0);
      goes_on = goes_on_more d.seen d.may_leave d.faults c.args.disk.now c.answer_message.new.disk c.turn-turn.new.disk c.args.engine.now c.answer_message.new.engine c.turn-turn.new.engine (c.in-Went.ensures.live (went_on _ _) (went_on _ _)) c.in-Went.ensures.goes_on t.goes_on;
      rule = (t.rule.1 ∙ c.in-Went.ensures.rule, t.rule.0);
    }

pub returns-in-Went-clause-live : goal.returns-in-Went-clause-live
returns-in-Went-clause-live g c disk memory =
    live_behind c.in-Went.closing c.turn-turn.result c.turn-turn.new.engine.log.closed c.turn-turn.ensures.open (λ is. disk (c.step_of_turn.ensures ∙ is)) (λ is. memory (c.step_of_turn.ensures ∙ is))

pub returns-in-Over-clause-step : goal.returns-in-Over-clause-step
returns-in-Over-clause-step g c base h over =
    let d = g.D.Disk in
    let p = g.P.Spawner in
    let k = g.C.Clock in
    let new = c.answer_message.new.disk in
    let runner = c.args.runner.now in
    let a = c.in-Over.ensures.takes runner.slots (tasks_of (p.seen c.args.spawner.now)) base h over in (
      a.0,
      over_here (is_some (g.L.Source.left c.args.link.now)) (is_some (d.seen c.args.disk.now)) (k.gives (k.rule c.args.clock.now)) (p.gives (p.rule c.args.spawner.now)) c.args.login.now runner.slots c.args.engine.now.log.limit base
          (d.left_since new) _ _ (d.may_leave new) c.in-Over.end a.1,
      a.2,
    )

pub returns-in-Over-clause-keeps : goal.returns-in-Over-clause-keeps
returns-in-Over-clause-keeps g c =
    let d = g.D.Disk in
    let p = g.P.Spawner in
    let spawner = c.args.spawner.now in
    record {
      at_work = at_work_more c.args.runner.now.login (p.gives (p.rule spawner)) (p.may (p.rule spawner)) (p.seen spawner) (p.held spawner) c.args.runner.now (d.seen c.args.disk.now) (d.seen c.answer_message.new.disk) c.args.engine.now c.answer_message.new.engine refl
          c.requires.work.ready.is_open c.requires.work.ready.serves c.in-Over.ensures.goes_on.stays.told
          (λ base h over. let a = c.in-Over.ensures.takes c.args.runner.now.slots (tasks_of (p.seen spawner)) base h over in (a.0, a.2.front, a.2.over))
          c.requires.work.at_work;
      same = (refl, refl);
      goes_on = c.in-Over.ensures.goes_on;
      rule = (c.in-Over.ensures.rule, refl);
    }
