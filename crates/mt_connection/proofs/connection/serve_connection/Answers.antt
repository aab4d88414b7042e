-- The exchanges so far, and then one more, or the end.
use Rattle.std.proofs.Common.{◌≡◌, ◌<◌, [], ◌∷◌, ◌++◌, ◌+◌, length, refl, ap, ◌∙◌, arith, length-append}
use Rattle.std.specs.Prelude.{is_some}
use Rattle.mt_opening.specs.Current.{told_size}
use Rattle.mt_opening.specs.History.{History}
use Rattle.mt_runner.specs.Account.{AccountSide, account_side, tasks_of, told_time}
use Rattle.mt_connection.specs.Sides.{side_of}
use Rattle.mt_connection.specs.Transcript.{Setting, setting}
use Rattle.mt_connection.specs.declared.end.Step.TheVariants as step
use Rattle.mt_connection.proofs.Completeness.{some_over}
use Rattle.mt_connection.proofs.Crashes.{goes_from, goes_on_more, goes_on_none, images_open, moves_more, moves_none, not_later, still_ready}
use Rattle.mt_connection.proofs.Runs.{closing_more, ran_more, ran_nothing, stepped_here, still_heard, went_on}
use Rattle.mt_connection.proofs.Serving.{served_by_fault, served_closed, served_many, served_over}
use Rattle.mt_connection.proofs.Standing.{stand_kept, stand_step}
use Rattle.mt_connection.proofs.connection.serve_connection.Goals as goal

pub loop-answered-init : goal.loop-answered-init
loop-answered-init g c =
    let d = g.D.Disk in
    let ready = c.requires.work.ready in
    record {
      so_far = λ base h over. (
        [],
        h,
        ran_nothing _ _,
        omega arith,
        refl,
        refl,
        moves_none d.seen d.may_leave d.moment d.left_since c.args.disk.now c.args.engine.now base h (g.met.D.Disk.only_now c.args.disk.now) ready.stands ready.is_open over,
      );
      stays = g.L.Both.same _;
      goes_on = goes_on_none d.seen d.may_leave d.faults c.args.disk.now c.args.engine.now ready;
      ready = ready;
      rule = refl;
      child = refl;
      login = refl;
      slots = refl;
      at_work = c.requires.work.at_work;
    }

pub exchange-requires : goal.exchange-requires
exchange-requires g c =
    let i = c.loop-answered.invariant in
    record { work = record { ready = i.ready; at_work = i.at_work; same_login = i.login ∙ c.requires.work.same_login } }

pub loop-answered-preserved : goal.loop-answered-preserved
loop-answered-preserved g c =
    let d = g.D.Disk in
    let side = side_of g.L.Source.left g.L.Sink.got g.L.Source.read_faults g.L.Sink.write_faults in
    let before = c.loop-answered.invariant in
    let is_open = c.in-Went.ensures.live (went_on _ _) (went_on _ _) in
    record {
      so_far = λ base h over.
          let old = c.args.disk.now in
          let disk = c.loop-answered.disk in
          let new = c.exchange.new.disk in
          let knows = is_some (d.seen old) in
          let told = before.goes_on.stays.told before.ready.is_open in
          let so_far = before.so_far base h over in
          let m : History = so_far.1 in
          let next = c.in-Went.ensures.step base m (so_far.6.over before.ready.is_open) in
          let s : Setting = setting (is_some (g.L.Source.left c.args.link.now)) knows (g.C.Clock.gives (g.C.Clock.rule c.args.clock.now)) (g.P.Spawner.gives (g.P.Spawner.rule c.args.spawner.now)) c.args.login.now c.args.runner.now.slots c.args.engine.now.log.limit base in
          let x : AccountSide = account_side m (told_size (d.seen disk) c.loop-answered.engine) (d.faults disk) (d.moment disk) (g.C.Clock.asked c.loop-answered.clock) (tasks_of (g.P.Spawner.seen c.loop-answered.spawner)) in
          let x' : AccountSide = account_side next.0 (told_size (d.seen new) c.exchange.new.engine) (d.faults new) (d.moment new) (g.C.Clock.asked c.exchange.new.clock) (tasks_of (g.P.Spawner.seen c.exchange.new.spawner)) in
          let here = stepped_here g.C.Clock.gives g.P.Spawner.gives c.args.login.now base (d.left_since new) (d.may_leave new) _ _ knows (is_some (d.seen disk)) _ _ _ _ _ _ _ _ (still_heard _ _ _ so_far.2.source) told before.rule before.child before.slots (before.goes_on.stays.limit before.ready.is_open)
          (side c.loop-answered.link) x (step.Went c.in-Went.last) (side c.exchange.new.link) x' next.1 in
          let moves = moves_more d.seen d.moment d.left_since old disk new c.loop-answered.engine c.exchange.new.engine base h m next.0 told so_far.6 next.2 in (
            so_far.0 ++ here.0 ∷ [],
            next.0,
            ran_more s _ so_far.0 _ (here.0 ∷ []) _ so_far.4 so_far.2 here.2,
            stand_step s (d.left_since new) (d.left_since disk) (d.moment disk) m (λ is. goes_from d.moment d.left_since disk new base m next.0 (next.2.any_moment (told ∙ is))) h (told_time knows (d.moment old)) so_far.0 (told_time knows (d.moment disk)) here.0 (told_time knows (d.moment new)) (not_later knows (d.moment disk)) so_far.2.history so_far.3 here.3,
            closing_more so_far.0 here.0 _ so_far.4 (here.1 ∙ c.if-last.false),
            length-append so_far.0 (here.0 ∷ []) ∙ ap (λ n. n + 1) so_far.5,
            moves,
          );
      stays = g.L.Both.joined _ _ _ before.stays c.in-Went.ensures.stays;
      goes_on = goes_on_more d.seen d.may_leave d.faults c.args.disk.now c.loop-answered.disk c.exchange.new.disk c.args.engine.now c.loop-answered.engine c.exchange.new.engine before.ready.is_open before.goes_on c.in-Went.ensures.keeps.goes_on;
      ready = still_ready d.seen d.may_leave d.faults c.loop-answered.disk c.exchange.new.disk c.loop-answered.engine c.exchange.new.engine before.ready c.in-Went.ensures.keeps.goes_on is_open;
      rule = c.in-Went.ensures.keeps.rule.0 ∙ before.rule;
      child = c.in-Went.ensures.keeps.rule.1 ∙ before.child;
      login = c.in-Went.ensures.keeps.same.0 ∙ before.login;
      slots = c.in-Went.ensures.keeps.same.1 ∙ before.slots;
      at_work = c.in-Went.ensures.keeps.at_work;
    }

pub returns-then-last-clause-served : goal.returns-then-last-clause-served
returns-then-last-clause-served g c base h over =
    let d = g.D.Disk in
    let side = side_of g.L.Source.left g.L.Sink.got g.L.Source.read_faults g.L.Sink.write_faults in
    let before = c.loop-answered.invariant in
    let old = c.args.disk.now in
    let disk = c.loop-answered.disk in
    let new = c.exchange.new.disk in
    let knows = is_some (d.seen old) in
    let told = before.goes_on.stays.told before.ready.is_open in
    let so_far = before.so_far base h over in
    let m : History = so_far.1 in
    let next = c.in-Went.ensures.step base m (so_far.6.over before.ready.is_open) in
    let s : Setting = setting (is_some (g.L.Source.left c.args.link.now)) knows (g.C.Clock.gives (g.C.Clock.rule c.args.clock.now)) (g.P.Spawner.gives (g.P.Spawner.rule c.args.spawner.now)) c.args.login.now c.args.runner.now.slots c.args.engine.now.log.limit base in
    let x : AccountSide = account_side m (told_size (d.seen disk) c.loop-answered.engine) (d.faults disk) (d.moment disk) (g.C.Clock.asked c.loop-answered.clock) (tasks_of (g.P.Spawner.seen c.loop-answered.spawner)) in
    let x' : AccountSide = account_side next.0 (told_size (d.seen new) c.exchange.new.engine) (d.faults new) (d.moment new) (g.C.Clock.asked c.exchange.new.clock) (tasks_of (g.P.Spawner.seen c.exchange.new.spawner)) in
    let here = stepped_here g.C.Clock.gives g.P.Spawner.gives c.args.login.now base (d.left_since new) (d.may_leave new) _ _ knows (is_some (d.seen disk)) _ _ _ _ _ _ _ _ (still_heard _ _ _ so_far.2.source) told before.rule before.child before.slots (before.goes_on.stays.limit before.ready.is_open)
    (side c.loop-answered.link) x (step.Went c.in-Went.last) (side c.exchange.new.link) x' next.1 in
    let moves = moves_more d.seen d.moment d.left_since old disk new c.loop-answered.engine c.exchange.new.engine base h m next.0 told so_far.6 next.2 in
    let is_open = c.in-Went.ensures.live (went_on _ _) (went_on _ _) in
    let few : length so_far.0 < c.args.most = omega (arith, so_far.5) in (
      next.0,
      served_closed s (d.left_since new) c.args.most _ refl so_far.0 here.0 _ few (closing_more so_far.0 here.0 _ so_far.4 (here.1 ∙ c.if-last.true)) (ran_more s _ so_far.0 _ (here.0 ∷ []) _ so_far.4 so_far.2 here.2)
          (stand_step s (d.left_since new) (d.left_since disk) (d.moment disk) m (λ is. goes_from d.moment d.left_since disk new base m next.0 (next.2.any_moment (told ∙ is))) h (told_time knows (d.moment old)) so_far.0 (told_time knows (d.moment disk)) here.0 (told_time knows (d.moment new)) (not_later knows (d.moment disk)) so_far.2.history so_far.3 here.3),
      (λ is. images_open d.seen d.may_leave new c.exchange.new.engine base next.0 c.in-Went.ensures.keeps.goes_on.stands is_open (next.2.over is_open) (c.in-Went.ensures.keeps.goes_on.stays.told is_open ∙ (told ∙ is))),
      moves,
    )

pub returns-then-last-clause-keeps : goal.returns-then-last-clause-keeps
returns-then-last-clause-keeps g c =
    let d = g.D.Disk in
    let before = c.loop-answered.invariant in
    let k = c.in-Went.ensures.keeps in
    record {
      at_work = k.at_work;
      same = (k.same.0 ∙ before.login, k.same.1 ∙ before.slots);
      goes_on = goes_on_more d.seen d.may_leave d.faults c.args.disk.now c.loop-answered.disk c.exchange.new.disk c.args.engine.now c.loop-answered.engine c.exchange.new.engine before.ready.is_open before.goes_on k.goes_on;
      rule = (k.rule.0 ∙ before.rule, k.rule.1 ∙ before.child);
    }

pub returns-in-Over-clause-served : goal.returns-in-Over-clause-served
returns-in-Over-clause-served g c base h over =
    let d = g.D.Disk in
    let side = side_of g.L.Source.left g.L.Sink.got g.L.Source.read_faults g.L.Sink.write_faults in
    let before = c.loop-answered.invariant in
    let old = c.args.disk.now in
    let disk = c.loop-answered.disk in
    let new = c.exchange.new.disk in
    let knows = is_some (d.seen old) in
    let told = before.goes_on.stays.told before.ready.is_open in
    let so_far = before.so_far base h over in
    let m : History = so_far.1 in
    let next = c.in-Over.ensures.step base m (so_far.6.over before.ready.is_open) in
    let s : Setting = setting (is_some (g.L.Source.left c.args.link.now)) knows (g.C.Clock.gives (g.C.Clock.rule c.args.clock.now)) (g.P.Spawner.gives (g.P.Spawner.rule c.args.spawner.now)) c.args.login.now c.args.runner.now.slots c.args.engine.now.log.limit base in
    let x : AccountSide = account_side m (told_size (d.seen disk) c.loop-answered.engine) (d.faults disk) (d.moment disk) (g.C.Clock.asked c.loop-answered.clock) (tasks_of (g.P.Spawner.seen c.loop-answered.spawner)) in
    let x' : AccountSide = account_side next.0 (told_size (d.seen new) c.exchange.new.engine) (d.faults new) (d.moment new) (g.C.Clock.asked c.exchange.new.clock) (tasks_of (g.P.Spawner.seen c.exchange.new.spawner)) in
    let here = stepped_here g.C.Clock.gives g.P.Spawner.gives c.args.login.now base (d.left_since new) (d.may_leave new) _ _ knows (is_some (d.seen disk)) _ _ _ _ _ _ _ _ (still_heard _ _ _ so_far.2.source) told before.rule before.child before.slots (before.goes_on.stays.limit before.ready.is_open)
    (side c.loop-answered.link) x (step.Over c.in-Over.end) (side c.exchange.new.link) x' next.1 in
    let moves = moves_more d.seen d.moment d.left_since old disk new c.loop-answered.engine c.exchange.new.engine base h m next.0 told so_far.6 next.2 in (
      next.0,
      served_over s (d.left_since new) c.args.most _ refl so_far.0 _ c.in-Over.end _ (record { none = so_far.4; few = omega (arith, so_far.5) }) so_far.2
          (stand_kept s (d.left_since new) (d.left_since disk) (d.moment disk) m (λ is. goes_from d.moment d.left_since disk new base m next.0 (next.2.any_moment (told ∙ is))) h (told_time knows (d.moment old)) so_far.0 (told_time knows (d.moment disk)) (not_later knows (d.moment disk)) so_far.2.history so_far.3) here.1 here.0,
      here.2,
      moves,
    )

-- the end is that over any history that the disk stands for, of which there is one
pub returns-in-Over-clause-complete : goal.returns-in-Over-clause-complete
returns-in-Over-clause-complete g c =
    let o = some_over (g.D.Disk.seen c.args.disk.now) c.args.engine.now c.requires.work.ready.is_open c.requires.work.ready.serves in
    served_by_fault _ _ _ _ c.in-Over.end _ (returns-in-Over-clause-served g c o.0 o.1 o.2).1

pub returns-in-Over-clause-keeps : goal.returns-in-Over-clause-keeps
returns-in-Over-clause-keeps g c =
    let d = g.D.Disk in
    let before = c.loop-answered.invariant in
    let k = c.in-Over.ensures.keeps in
    record {
      at_work = k.at_work;
      same = (k.same.0 ∙ before.login, k.same.1 ∙ before.slots);
      goes_on = goes_on_more d.seen d.may_leave d.faults c.args.disk.now c.loop-answered.disk c.exchange.new.disk c.args.engine.now c.loop-answered.engine c.exchange.new.engine before.ready.is_open before.goes_on k.goes_on;
      rule = (k.rule.0 ∙ before.rule, k.rule.1 ∙ before.child);
    }

pub returns-clause-served : goal.returns-clause-served
returns-clause-served g c base h over =
    let d = g.D.Disk in
    let before = c.loop-answered.invariant in
    let so_far = before.so_far base h over in
    let all : c.loop-answered._answered ≡ c.args.most = omega arith in
    let told = before.goes_on.stays.told before.ready.is_open in (
      so_far.1,
      served_many _ (d.left_since c.loop-answered.disk) c.args.most _ refl so_far.0 _ so_far.4 so_far.2 so_far.3 (so_far.5 ∙ all),
      (λ is. images_open d.seen d.may_leave c.loop-answered.disk c.loop-answered.engine base so_far.1 before.goes_on.stands before.ready.is_open (so_far.6.over before.ready.is_open) (told ∙ is)),
      so_far.6,
    )

pub returns-clause-keeps : goal.returns-clause-keeps
returns-clause-keeps g c =
    let i = c.loop-answered.invariant in
    record { at_work = i.at_work; same = (i.login, i.slots); goes_on = i.goes_on; rule = (i.rule, i.child) }
