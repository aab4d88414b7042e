-- Turns went on, one after another.
use Rattle.std.proofs.Common.{◌∙◌, [], refl, sym, arith}
use Rattle.std.specs.Prelude.{is_some}
use Rattle.mt_opening.specs.Current.{told_size}
use Rattle.mt_runner.specs.Account.{account_side, tasks_of, told_time}
use Rattle.mt_runner.proofs.Crashes.{all_of, unmoved}
use Rattle.mt_runner.proofs.Drains.{Took, at_setting, goes_on_more, led_none, open_more, so_ends, so_more}
use Rattle.mt_runner.proofs.LivedOn.{lived_at, lived_more, lived_none, lived_on}
use Rattle.mt_runner.proofs.runner.Runner.drain.Goals as goal

pub turns-init : goal.turns-init
turns-init g c =
    let d = g.D.Disk in
    record {
      so_far = λ base h over. (
        h,
        [],
        led_none _ _,
        omega arith,
        over,
        all_of h,
        (λ kn. unmoved d.seen d.may_leave d.moment d.left_since c.args.disk.now c.args.engine.now base h (g.met.D.Disk.only_now c.args.disk.now) c.requires.ready.stands c.requires.ready.is_open over kn),
      );
      lived = λ base h i. lived_none d.seen d.may_leave d.moment d.left_since c.args.self.now.login (g.P.Spawner.gives (g.P.Spawner.rule c.args.spawner.now)) c.args.disk.now c.args.engine.now base h c.args.self.now.kept (g.met.D.Disk.only_now c.args.disk.now) c.requires.ready i;
      ready = c.requires.ready;
      at_work = c.requires.at_work;
      told = refl;
      limit = refl;
      slots = refl;
      login = refl;
      children = refl;
      moments = refl;
      faults = omega arith;
      some = c.requires.some;
    }

pub turns-preserved : goal.turns-preserved
turns-preserved g c =
    let d = g.D.Disk in
    let p = g.P.Spawner in
    let k = g.C.Clock in
    let i = c.turns.invariant in
    let e = c.turn-turn.ensures in
    let new = c.turn-turn.new in
    let still = open_more c.turn-turn.result new.engine.log.closed (grind arith) e.open in
    record {
      so_far = λ base h over.
          let s = i.so_far base h over in
          so_more d.seen d.may_leave d.moment d.left_since (is_some (d.seen c.args.disk.now)) _ c.args.most c.turns.left c.args.disk.now c.turns.disk new.disk c.turns.engine new.engine base h _
          (λ m. account_side m (told_size (d.seen c.turns.disk) c.turns.engine) (d.faults c.turns.disk) (told_time (is_some (d.seen c.args.disk.now)) (d.moment c.turns.disk)) (k.asked c.turns.clock) (tasks_of (p.seen c.turns.spawner)))
          (λ m. account_side m (told_size (d.seen new.disk) new.engine) (d.faults new.disk) (told_time (is_some (d.seen c.args.disk.now)) (d.moment new.disk)) (k.asked new.clock) (tasks_of (p.seen new.spawner)))
          c.turn-turn.result (grind arith) still i.some _ (omega arith) s
          (at_setting k.gives p.gives base
          (λ b w. Took d.seen d.may_leave d.moment d.left_since b w c.turns.disk new.disk new.engine c.turn-turn.result base s.0
          (account_side s.0 (told_size (d.seen c.turns.disk) c.turns.engine) (d.faults c.turns.disk) (told_time b (d.moment c.turns.disk)) (k.asked c.turns.clock) (tasks_of (p.seen c.turns.spawner)))
          (λ m. account_side m (told_size (d.seen new.disk) new.engine) (d.faults new.disk) (told_time b (d.moment new.disk)) (k.asked new.clock) (tasks_of (p.seen new.spawner))))
          _ _ _ _ _ _ _ _ _ _ _ _ i.told i.moments i.children i.login i.slots i.limit (e.takes base s.0 s.4));
      lived = λ base h now.
          let a = i.lived base h now in
          lived_on d.seen d.may_leave d.moment d.left_since c.args.self.now.login (p.gives (p.rule c.args.spawner.now)) c.args.disk.now c.turns.disk new.disk c.turns.engine new.engine base h
          c.args.self.now.kept c.turns.self.kept new.self.kept a c.turn-turn.result (grind arith)
          (lived_at d.seen d.may_leave d.moment d.left_since p.gives (p.rule c.args.spawner.now) (p.rule c.turns.spawner) c.args.self.now.login c.turns.self.login c.turns.disk new.disk new.engine c.turn-turn.result base a.whole c.turns.self.kept new.self.kept i.children i.login
          (e.lives base a.whole (a.current i.ready.is_open)));
      ready = record { stands = e.goes_on.stands; is_open = still; version = e.goes_on.stays.version still ∙ i.ready.version; serves = e.goes_on.serves };
      at_work = e.at_work;
      told = e.goes_on.stays.told still ∙ i.told;
      limit = e.goes_on.stays.limit still ∙ i.limit;
      slots = e.same.0 ∙ i.slots;
      login = e.same.1 ∙ i.login;
      children = e.rule.0 ∙ i.children;
      moments = e.rule.1 ∙ i.moments;
      faults = let x = e.goes_on.stays.faults in let y = i.faults in omega (arith, x, y);
      some = grind arith;
    }

pub returns-then-left-eq0-clause-takes : goal.returns-then-left-eq0-clause-takes
returns-then-left-eq0-clause-takes g c base h over =
    let d = g.D.Disk in
    let p = g.P.Spawner in
    let k = g.C.Clock in
    let i = c.turns.invariant in
    let e = c.turn-turn.ensures in
    let new = c.turn-turn.new in
    let s = i.so_far base h over in
    so_ends d.seen d.may_leave d.moment d.left_since (is_some (d.seen c.args.disk.now)) _ c.args.most c.turns.left c.args.disk.now c.turns.disk new.disk c.turns.engine new.engine base h _
    (λ m. account_side m (told_size (d.seen c.turns.disk) c.turns.engine) (d.faults c.turns.disk) (told_time (is_some (d.seen c.args.disk.now)) (d.moment c.turns.disk)) (k.asked c.turns.clock) (tasks_of (p.seen c.turns.spawner)))
    (λ m. account_side m (told_size (d.seen new.disk) new.engine) (d.faults new.disk) (told_time (is_some (d.seen c.args.disk.now)) (d.moment new.disk)) (k.asked new.clock) (tasks_of (p.seen new.spawner)))
    c.turn-turn.result i.some (λ is. grind arith) s
    (at_setting k.gives p.gives base
    (λ b w. Took d.seen d.may_leave d.moment d.left_since b w c.turns.disk new.disk new.engine c.turn-turn.result base s.0
    (account_side s.0 (told_size (d.seen c.turns.disk) c.turns.engine) (d.faults c.turns.disk) (told_time b (d.moment c.turns.disk)) (k.asked c.turns.clock) (tasks_of (p.seen c.turns.spawner)))
    (λ m. account_side m (told_size (d.seen new.disk) new.engine) (d.faults new.disk) (told_time b (d.moment new.disk)) (k.asked new.clock) (tasks_of (p.seen new.spawner))))
    _ _ _ _ _ _ _ _ _ _ _ _ i.told i.moments i.children i.login i.slots i.limit (e.takes base s.0 s.4))

pub returns-then-left-eq0-clause-lives : goal.returns-then-left-eq0-clause-lives
returns-then-left-eq0-clause-lives g c base h now =
    let d = g.D.Disk in
    let p = g.P.Spawner in
    let i = c.turns.invariant in
    let e = c.turn-turn.ensures in
    let new = c.turn-turn.new in
    let a = i.lived base h now in
    lived_more d.seen d.may_leave d.moment d.left_since c.args.self.now.login (p.gives (p.rule c.args.spawner.now)) c.args.disk.now c.turns.disk new.disk c.turns.engine new.engine base h
    c.args.self.now.kept c.turns.self.kept new.self.kept a c.turn-turn.result
    (lived_at d.seen d.may_leave d.moment d.left_since p.gives (p.rule c.args.spawner.now) (p.rule c.turns.spawner) c.args.self.now.login c.turns.self.login c.turns.disk new.disk new.engine c.turn-turn.result base a.whole c.turns.self.kept new.self.kept i.children i.login
    (e.lives base a.whole (a.current i.ready.is_open)))

pub returns-then-left-eq0-clause-goes_on : goal.returns-then-left-eq0-clause-goes_on
returns-then-left-eq0-clause-goes_on g c =
    let d = g.D.Disk in
    let i = c.turns.invariant in
    goes_on_more d.seen d.may_leave d.faults c.args.disk.now c.turns.disk c.turn-turn.new.disk c.args.engine.now c.turns.engine c.turn-turn.new.engine i.told (i.ready.version ∙ sym c.requires.ready.version) i.limit i.faults c.turn-turn.ensures.goes_on

pub returns-then-left-eq0-clause-disk : goal.returns-then-left-eq0-clause-disk
returns-then-left-eq0-clause-disk g c is = let x = c.turn-turn.ensures.disk is in let y = c.turns.invariant.faults in omega (arith, x, y)
