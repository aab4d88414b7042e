-- The events so far, and then one more, or the end.
use Rattle.std.proofs.Common.{◌≡◌, ◌<◌, Bool, false, ◌∷◌, [], ◌++◌, refl, sym, subst, ◌∙◌, arith}
use Rattle.std.specs.Prelude.{is_some}
use Rattle.std.proofs.lemmas.Bool.{ltb-false, ltb-true}
use Rattle.mt_opening.specs.Current.{told_size}
use Rattle.mt_runner.specs.Account.{account_side, tasks_of, told_time}
use Rattle.mt_runner.proofs.Drains.{goes_on_more}
use Rattle.mt_connection.specs.Sides.{side_of}
use Rattle.mt_connection.specs.Transcript.{Setting, setting}
use Rattle.mt_connection.proofs.Completeness.{some_over}
use Rattle.mt_connection.proofs.Crashes.{images_open, moves_more, moves_none}
use Rattle.mt_server.specs.Events.{door_side}
use Rattle.mt_server.specs.Guarantees.{shop}
use Rattle.mt_server.specs.Statuses.{ByDisk, ByDoor, BySpawner, StaysOpen}
use Rattle.mt_server.specs.Visiting.{Happens, ServesLinks}
use Rattle.mt_server.specs.declared.came.Happened.TheVariants as happened
use Rattle.mt_server.specs.declared.status.ServeEnd.{ServeEnd}
use Rattle.mt_server.specs.declared.status.Status.TheVariants as status
use Rattle.mt_server.proofs.Going.{break_is, broke_door, broke_spawner, counted_more, going_event, going_nothing, going_same, last_is, no_disk, no_link_no_disk, served_ends, serves_broke, serves_open, spent_no_disk}
use Rattle.mt_server.proofs.Later.{goes_by}
use Rattle.mt_server.proofs.Overs.{in_setting, timed}
use Rattle.mt_server.proofs.Turns.{broke_disk, broke_open, one_at_most, served_disk_by, served_door_by, served_open_by, served_spawn_by, within}
use Rattle.mt_server.proofs.serve.serve_links.Goals as goal

pub events-init : goal.events-init
events-init g c =
    let d = g.D.Disk in
    let ready = c.requires.work.ready in
    record {
      so_far = λ base h over. (
        h,
        [],
        going_nothing _ _ _ _ _,
        record { all_is = refl; firsts_is = refl; lasts_is = refl },
        moves_none d.seen d.may_leave d.moment d.left_since c.args.disk.now c.args.engine.now base h (g.met.D.Disk.only_now c.args.disk.now) ready.stands ready.is_open over,
      );
      ready = ready;
      at_work = c.requires.work.at_work;
      told = refl;
      limit = refl;
      version = refl;
      rule = refl;
      children = refl;
      login = c.requires.work.same_login;
      slots = refl;
      counted = omega arith;
      spawned = omega arith;
      few = omega arith;
      left = c.requires.some;
      taken = omega arith;
      over = omega arith;
      failed = omega arith;
      back = c.requires.door.back;
    }

pub event-requires-clause-work : goal.event-requires-clause-work
event-requires-clause-work g c =
    let i = c.events.invariant in
    record { ready = i.ready; at_work = i.at_work; same_login = i.login }

pub event-requires-clause-back : goal.event-requires-clause-back
event-requires-clause-back g c = c.events.invariant.back

pub event-requires-clause-some : goal.event-requires-clause-some
event-requires-clause-some g c stale =
    let i = c.events.invariant in
    let all = ltb-false c.events.taken c.args.connections stale in
    omega (arith, all, i.left, i.taken, i.over, i.back, c.requires.door.back)

pub events-preserved : goal.events-preserved
events-preserved g c =
    let before = c.events.invariant in
    let w = c.in-Went in
    let went = c.event.ensures.keeps.goes_on in
    let is_open = w.ensures.live in
    let counts = w.ensures.counts in
    let taken_is = c.add-taken.ensures in
    let over_is = c.add-over.ensures in
    record {
      so_far = λ base h over.
          let d = g.D.Disk in
          let p = g.P.Spawner in
          let k = g.C.Clock in
          let link = g.W.Link in
          let side = side_of link.Source.left link.Sink.got link.Source.read_faults link.Sink.write_faults in
          let before = c.events.invariant in
          let old = c.args.disk.now in
          let mid = c.events.disk in
          let e = c.event in
          let new = e.new.disk in
          let knows = is_some (d.seen old) in
          let so_far = before.so_far base h over in
          let turn = c.in-Went.ensures.happens base so_far.0 (so_far.4.over before.ready.is_open) in
          let first = account_side h (told_size (d.seen old) c.args.engine.now) (d.faults old) (told_time knows (d.moment old)) (k.asked c.args.clock.now) (tasks_of (p.seen c.args.spawner.now)) in
          let at = account_side so_far.0 (told_size (d.seen mid) c.events.engine) (d.faults mid) (d.moment mid) (k.asked c.events.clock) (tasks_of (p.seen c.events.spawner)) in
          let behind = account_side turn.0 (told_size (d.seen new) e.new.engine) (d.faults new) (d.moment new) (k.asked e.new.clock) (tasks_of (p.seen e.new.spawner)) in
          let door = door_side (g.W.Door.waiting c.args.door.now) (g.W.Door.given_back c.args.door.now) (g.W.Door.taken c.args.door.now) (g.W.Door.over c.args.door.now) (g.W.Door.door_faults c.args.door.now) in
          let door1 = door_side (g.W.Door.waiting c.events.door) (g.W.Door.given_back c.events.door) (g.W.Door.taken c.events.door) (g.W.Door.over c.events.door) (g.W.Door.door_faults c.events.door) in
          let door2 = door_side (g.W.Door.waiting e.new.door) (g.W.Door.given_back e.new.door) (g.W.Door.taken e.new.door) (g.W.Door.over e.new.door) (g.W.Door.door_faults e.new.door) in
          let s = setting false knows (k.gives (k.rule c.args.clock.now)) (p.gives (p.rule c.args.spawner.now)) c.args.login.now c.args.runner.now.slots c.args.engine.now.log.limit base in
          let happens = in_setting k.gives p.gives base (λ (b : Bool) (s : Setting). Happens side link.Both.stays s (d.left_since new) (d.may_leave new) (shop (timed b at) door1) (happened.Went c.in-Went.first c.in-Went.one c.in-Went.last) (shop (timed b behind) door2))
          knows (is_some (d.seen mid)) (k.rule c.args.clock.now) (k.rule c.events.clock) (p.rule c.args.spawner.now) (p.rule c.events.spawner) c.args.login.now c.args.login.now c.args.runner.now.slots c.events.runner.slots
          c.args.engine.now.log.limit c.events.engine.log.limit false before.told before.rule before.children refl before.slots before.limit turn.1 in
          let moves = moves_more d.seen d.moment d.left_since old mid new c.events.engine e.new.engine base h so_far.0 turn.0 before.told so_far.4 turn.2 in
          let carries = goes_by d.moment d.left_since mid new base so_far.0 turn.0 knows (λ is. turn.2.any_moment (before.told ∙ is)) in (
            turn.0,
            so_far.1 ++ happens.0 ∷ [],
            going_event side link.Both.stays s (d.left_since mid) (d.left_since new) (shop first door) so_far.1 (shop (timed knows at) door1) happens.0 (shop (timed knows behind) door2) carries so_far.2 happens.2 happens.6 happens.7,
            counted_more so_far.1 happens.0 c.in-Went.first c.in-Went.one _ _ _ _ _ so_far.3 happens.4 happens.5 c.add-taken.ensures c.add-over.ensures,
            moves,
          );
      ready = record { stands = went.stands; is_open = is_open; version = went.stays.version is_open ∙ before.ready.version; serves = went.serves };
      at_work = c.event.ensures.keeps.at_work;
      told = went.stays.told is_open ∙ before.told;
      limit = went.stays.limit is_open ∙ before.limit;
      version = went.stays.version is_open ∙ before.version;
      rule = c.event.ensures.keeps.rule.0 ∙ before.rule;
      children = c.event.ensures.keeps.rule.1 ∙ before.children;
      login = c.event.ensures.keeps.same.0 ∙ before.login;
      slots = c.event.ensures.keeps.same.1 ∙ before.slots;
      counted = let more = went.stays.faults in omega (arith, before.counted, more);
      spawned = let more = c.event.ensures.spawn_faults in omega (arith, before.spawned, more);
      few = within w.first _ c.events.taken _ c.args.connections before.few taken_is w.ensures.asked_for (ltb-true c.events.taken c.args.connections);
      left = let small = one_at_most w.one in omega (arith, before.left, over_is, small);
      taken = omega (arith, before.taken, counts.0, taken_is);
      over = omega (arith, before.over, counts.1, over_is);
      failed = omega (arith, before.failed, counts.2);
      back = c.event.ensures.back;
    }

pub returns-then-over-connections-clause-served : goal.returns-then-over-connections-clause-served
returns-then-over-connections-clause-served g c base h over =
    let d = g.D.Disk in
    let p = g.P.Spawner in
    let k = g.C.Clock in
    let link = g.W.Link in
    let side = side_of link.Source.left link.Sink.got link.Source.read_faults link.Sink.write_faults in
    let before = c.events.invariant in
    let old = c.args.disk.now in
    let mid = c.events.disk in
    let e = c.event in
    let new = e.new.disk in
    let knows = is_some (d.seen old) in
    let so_far = before.so_far base h over in
    let turn = c.in-Went.ensures.happens base so_far.0 (so_far.4.over before.ready.is_open) in
    let first = account_side h (told_size (d.seen old) c.args.engine.now) (d.faults old) (told_time knows (d.moment old)) (k.asked c.args.clock.now) (tasks_of (p.seen c.args.spawner.now)) in
    let at = account_side so_far.0 (told_size (d.seen mid) c.events.engine) (d.faults mid) (d.moment mid) (k.asked c.events.clock) (tasks_of (p.seen c.events.spawner)) in
    let behind = account_side turn.0 (told_size (d.seen new) e.new.engine) (d.faults new) (d.moment new) (k.asked e.new.clock) (tasks_of (p.seen e.new.spawner)) in
    let door = door_side (g.W.Door.waiting c.args.door.now) (g.W.Door.given_back c.args.door.now) (g.W.Door.taken c.args.door.now) (g.W.Door.over c.args.door.now) (g.W.Door.door_faults c.args.door.now) in
    let door1 = door_side (g.W.Door.waiting c.events.door) (g.W.Door.given_back c.events.door) (g.W.Door.taken c.events.door) (g.W.Door.over c.events.door) (g.W.Door.door_faults c.events.door) in
    let door2 = door_side (g.W.Door.waiting e.new.door) (g.W.Door.given_back e.new.door) (g.W.Door.taken e.new.door) (g.W.Door.over e.new.door) (g.W.Door.door_faults e.new.door) in
    let s = setting false knows (k.gives (k.rule c.args.clock.now)) (p.gives (p.rule c.args.spawner.now)) c.args.login.now c.args.runner.now.slots c.args.engine.now.log.limit base in
    let happens = in_setting k.gives p.gives base (λ (b : Bool) (s : Setting). Happens side link.Both.stays s (d.left_since new) (d.may_leave new) (shop (timed b at) door1) (happened.Went c.in-Went.first c.in-Went.one c.in-Went.last) (shop (timed b behind) door2))
    knows (is_some (d.seen mid)) (k.rule c.args.clock.now) (k.rule c.events.clock) (p.rule c.args.spawner.now) (p.rule c.events.spawner) c.args.login.now c.args.login.now c.args.runner.now.slots c.events.runner.slots
    c.args.engine.now.log.limit c.events.engine.log.limit false before.told before.rule before.children refl before.slots before.limit turn.1 in
    let moves = moves_more d.seen d.moment d.left_since old mid new c.events.engine e.new.engine base h so_far.0 turn.0 before.told so_far.4 turn.2 in
    let carries = goes_by d.moment d.left_since mid new base so_far.0 turn.0 knows (λ is. turn.2.any_moment (before.told ∙ is)) in
    let is_open = c.in-Went.ensures.live in
    let all = so_far.1 ++ happens.0 ∷ [] in
    let going = going_event side link.Both.stays s (d.left_since mid) (d.left_since new) (shop first door) so_far.1 (shop (timed knows at) door1) happens.0 (shop (timed knows behind) door2) carries so_far.2 happens.2 happens.6 happens.7 in
    let counted = counted_more so_far.1 happens.0 c.in-Went.first c.in-Went.one _ _ _ c.add-taken.result c.add-over.result so_far.3 happens.4 happens.5 c.add-taken.ensures c.add-over.ensures in
    let over_all : c.add-over.result ≡ c.args.connections = omega arith in
    let few = within c.in-Went.first _ c.events.taken _ c.args.connections c.events.invariant.few c.add-taken.ensures c.in-Went.ensures.asked_for (ltb-true c.events.taken c.args.connections) in
    let went_counts = c.in-Went.ensures.counts in
    let taken_all : c.add-taken.result ≡ c.args.connections =
    omega (arith, few, c.events.invariant.taken, c.events.invariant.over, went_counts.0, went_counts.1, c.add-taken.ensures, c.add-over.ensures, c.event.ensures.back, c.requires.door.back, c.requires.door.none_kept) in
    let ends = served_ends c.args.connections all c.in-Went.last door door2 (going.none, counted.firsts_is ∙ taken_all, counted.lasts_is ∙ over_all) (last_is so_far.1 happens.0 ∙ happens.1) happens.3 in (
      turn.0,
      subst (λ (end : ServeEnd). ServesLinks side link.Both.stays s (d.left_since new) (d.may_leave new) c.args.connections (shop first door) end (shop (timed knows behind) door2)) (sym c.served_by.ensures)
          (serves_open side link.Both.stays s (d.left_since new) (d.may_leave new) (shop first door) (shop (timed knows behind) door2) all c.args.connections _ going ends (no_disk c.in-Went.last)
          (λ is. images_open d.seen d.may_leave new e.new.engine base turn.0 e.ensures.keeps.goes_on.stands is_open (moves.over is_open) (e.ensures.keeps.goes_on.stays.told is_open ∙ (before.told ∙ is)))),
      moves,
    )

pub returns-then-over-connections-clause-live : goal.returns-then-over-connections-clause-live
returns-then-over-connections-clause-live g c = subst (λ (end : ServeEnd). StaysOpen (status.Serve end) c.event.new.engine.log.closed) (sym c.served_by.ensures) (served_open_by c.in-Went.last _ c.in-Went.ensures.live)

pub returns-then-over-connections-clause-cause : goal.returns-then-over-connections-clause-cause
returns-then-over-connections-clause-cause g c =
    let before = c.events.invariant in
    let counts = c.in-Went.ensures.counts in
    let taken_is = c.add-taken.ensures in
    let few = within c.in-Went.first _ c.events.taken _ c.args.connections before.few taken_is c.in-Went.ensures.asked_for (ltb-true c.events.taken c.args.connections) in
    let taken_all : c.add-taken.result ≡ c.args.connections =
    omega (arith, few, before.taken, before.over, counts.0, counts.1, c.add-taken.ensures, c.add-over.ensures, c.event.ensures.back, c.requires.door.back, c.requires.door.none_kept) in
    record {
      by_disk = subst (λ (end : ServeEnd). ByDisk (status.Serve end) (g.D.Disk.faults c.args.disk.now) (g.D.Disk.faults c.event.new.disk)) (sym c.served_by.ensures) (served_disk_by c.in-Went.last _ _);
      by_spawner = subst (λ (end : ServeEnd). BySpawner (status.Serve end) (g.P.Spawner.seen c.args.spawner.now).faults (g.P.Spawner.seen c.event.new.spawner).faults) (sym c.served_by.ensures)
          (served_spawn_by c.in-Went.first c.in-Went.one c.in-Went.last _ _ _ _ _ before.spawned c.in-Went.ensures.faults);
      by_door = subst (λ (end : ServeEnd). ByDoor (status.Serve end) c.args.connections (g.W.Door.taken c.args.door.now) (g.W.Door.door_faults c.args.door.now) (g.W.Door.taken c.event.new.door) (g.W.Door.door_faults c.event.new.door)) (sym c.served_by.ensures)
          (served_door_by c.in-Went.last _ _ _ _ _ (omega (arith, before.taken, counts.0, taken_is, taken_all)));
    }

pub returns-then-over-connections-clause-keeps : goal.returns-then-over-connections-clause-keeps
returns-then-over-connections-clause-keeps g c =
    let d = g.D.Disk in
    let before = c.events.invariant in
    let k = c.event.ensures.keeps in
    record {
      at_work = k.at_work;
      same = (k.same.0 ∙ (before.login ∙ sym c.requires.work.same_login), k.same.1 ∙ before.slots);
      goes_on = goes_on_more d.seen d.may_leave d.faults c.args.disk.now c.events.disk c.event.new.disk c.args.engine.now c.events.engine c.event.new.engine before.told before.version before.limit before.counted k.goes_on;
      rule = (k.rule.0 ∙ before.rule, k.rule.1 ∙ before.children);
    }

pub returns-then-over-connections-clause-spawn_faults : goal.returns-then-over-connections-clause-spawn_faults
returns-then-over-connections-clause-spawn_faults g c = let more = c.event.ensures.spawn_faults in let was = c.events.invariant.spawned in omega (arith, more, was)

pub returns-in-Broke-clause-served : goal.returns-in-Broke-clause-served
returns-in-Broke-clause-served g c base h over =
    let d = g.D.Disk in
    let p = g.P.Spawner in
    let k = g.C.Clock in
    let link = g.W.Link in
    let side = side_of link.Source.left link.Sink.got link.Source.read_faults link.Sink.write_faults in
    let before = c.events.invariant in
    let old = c.args.disk.now in
    let mid = c.events.disk in
    let e = c.event in
    let new = e.new.disk in
    let knows = is_some (d.seen old) in
    let so_far = before.so_far base h over in
    let turn = c.in-Broke.ensures.happens base so_far.0 (so_far.4.over before.ready.is_open) in
    let first = account_side h (told_size (d.seen old) c.args.engine.now) (d.faults old) (told_time knows (d.moment old)) (k.asked c.args.clock.now) (tasks_of (p.seen c.args.spawner.now)) in
    let at = account_side so_far.0 (told_size (d.seen mid) c.events.engine) (d.faults mid) (d.moment mid) (k.asked c.events.clock) (tasks_of (p.seen c.events.spawner)) in
    let behind = account_side turn.0 (told_size (d.seen new) e.new.engine) (d.faults new) (d.moment new) (k.asked e.new.clock) (tasks_of (p.seen e.new.spawner)) in
    let door = door_side (g.W.Door.waiting c.args.door.now) (g.W.Door.given_back c.args.door.now) (g.W.Door.taken c.args.door.now) (g.W.Door.over c.args.door.now) (g.W.Door.door_faults c.args.door.now) in
    let door1 = door_side (g.W.Door.waiting c.events.door) (g.W.Door.given_back c.events.door) (g.W.Door.taken c.events.door) (g.W.Door.over c.events.door) (g.W.Door.door_faults c.events.door) in
    let door2 = door_side (g.W.Door.waiting e.new.door) (g.W.Door.given_back e.new.door) (g.W.Door.taken e.new.door) (g.W.Door.over e.new.door) (g.W.Door.door_faults e.new.door) in
    let s = setting false knows (k.gives (k.rule c.args.clock.now)) (p.gives (p.rule c.args.spawner.now)) c.args.login.now c.args.runner.now.slots c.args.engine.now.log.limit base in
    let happens = in_setting k.gives p.gives base (λ (b : Bool) (s : Setting). Happens side link.Both.stays s (d.left_since new) (d.may_leave new) (shop (timed b at) door1) (happened.Broke c.in-Broke.end) (shop (timed b behind) door2))
    knows (is_some (d.seen mid)) (k.rule c.args.clock.now) (k.rule c.events.clock) (p.rule c.args.spawner.now) (p.rule c.events.spawner) c.args.login.now c.args.login.now c.args.runner.now.slots c.events.runner.slots
    c.args.engine.now.log.limit c.events.engine.log.limit false before.told before.rule before.children refl before.slots before.limit turn.1 in
    let moves = moves_more d.seen d.moment d.left_since old mid new c.events.engine e.new.engine base h so_far.0 turn.0 before.told so_far.4 turn.2 in
    let carries = goes_by d.moment d.left_since mid new base so_far.0 turn.0 knows (λ is. turn.2.any_moment (before.told ∙ is)) in (
      turn.0,
      serves_broke side link.Both.stays s (d.left_since mid) (d.left_since new) (d.may_leave new) (shop first door) so_far.1 (shop (timed knows at) door1) happens.0 c.in-Broke.end (shop (timed knows behind) door2) c.args.connections carries so_far.2 happens.1 happens.2 happens.3 happens.4,
      moves,
    )

pub returns-in-Broke-clause-live : goal.returns-in-Broke-clause-live
returns-in-Broke-clause-live g c = broke_open c.in-Broke.end _ c.in-Broke.ensures.live

pub returns-in-Broke-clause-cause : goal.returns-in-Broke-clause-cause
returns-in-Broke-clause-cause g c =
    let before = c.events.invariant in
    let o = some_over _ _ before.ready.is_open before.ready.serves in
    let turn = c.in-Broke.ensures.happens o.0 o.1 o.2 in
    let breaks = break_is turn.1.0 c.in-Broke.end turn.1.1 in
    record {
      by_disk = broke_disk c.in-Broke.end _ _ _ _ _ before.counted c.in-Broke.ensures.faults;
      by_spawner = broke_spawner c.in-Broke.end breaks _ _;
      by_door = broke_door c.in-Broke.end breaks _ _ _ _ _;
    }

pub returns-in-Broke-clause-keeps : goal.returns-in-Broke-clause-keeps
returns-in-Broke-clause-keeps g c =
    let d = g.D.Disk in
    let before = c.events.invariant in
    let k = c.event.ensures.keeps in
    record {
      at_work = k.at_work;
      same = (k.same.0 ∙ (before.login ∙ sym c.requires.work.same_login), k.same.1 ∙ before.slots);
      goes_on = goes_on_more d.seen d.may_leave d.faults c.args.disk.now c.events.disk c.event.new.disk c.args.engine.now c.events.engine c.event.new.engine before.told before.version before.limit before.counted k.goes_on;
      rule = (k.rule.0 ∙ before.rule, k.rule.1 ∙ before.children);
    }

pub returns-in-Broke-clause-spawn_faults : goal.returns-in-Broke-clause-spawn_faults
returns-in-Broke-clause-spawn_faults g c = let more = c.event.ensures.spawn_faults in let was = c.events.invariant.spawned in omega (arith, more, was)

pub returns-in-NoLink-clause-served : goal.returns-in-NoLink-clause-served
returns-in-NoLink-clause-served g c base h over =
    let d = g.D.Disk in
    let p = g.P.Spawner in
    let k = g.C.Clock in
    let link = g.W.Link in
    let side = side_of link.Source.left link.Sink.got link.Source.read_faults link.Sink.write_faults in
    let before = c.events.invariant in
    let old = c.args.disk.now in
    let mid = c.events.disk in
    let e = c.event in
    let new = e.new.disk in
    let knows = is_some (d.seen old) in
    let so_far = before.so_far base h over in
    let turn = c.in-NoLink.ensures.happens base so_far.0 (so_far.4.over before.ready.is_open) in
    let first = account_side h (told_size (d.seen old) c.args.engine.now) (d.faults old) (told_time knows (d.moment old)) (k.asked c.args.clock.now) (tasks_of (p.seen c.args.spawner.now)) in
    let at = account_side so_far.0 (told_size (d.seen mid) c.events.engine) (d.faults mid) (d.moment mid) (k.asked c.events.clock) (tasks_of (p.seen c.events.spawner)) in
    let behind = account_side turn.0 (told_size (d.seen new) e.new.engine) (d.faults new) (d.moment new) (k.asked e.new.clock) (tasks_of (p.seen e.new.spawner)) in
    let door = door_side (g.W.Door.waiting c.args.door.now) (g.W.Door.given_back c.args.door.now) (g.W.Door.taken c.args.door.now) (g.W.Door.over c.args.door.now) (g.W.Door.door_faults c.args.door.now) in
    let door1 = door_side (g.W.Door.waiting c.events.door) (g.W.Door.given_back c.events.door) (g.W.Door.taken c.events.door) (g.W.Door.over c.events.door) (g.W.Door.door_faults c.events.door) in
    let door2 = door_side (g.W.Door.waiting e.new.door) (g.W.Door.given_back e.new.door) (g.W.Door.taken e.new.door) (g.W.Door.over e.new.door) (g.W.Door.door_faults e.new.door) in
    let s = setting false knows (k.gives (k.rule c.args.clock.now)) (p.gives (p.rule c.args.spawner.now)) c.args.login.now c.args.runner.now.slots c.args.engine.now.log.limit base in
    let happens = in_setting k.gives p.gives base (λ (b : Bool) (s : Setting). Happens side link.Both.stays s (d.left_since new) (d.may_leave new) (shop (timed b at) door1) (happened.NoLink) (shop (timed b behind) door2))
    knows (is_some (d.seen mid)) (k.rule c.args.clock.now) (k.rule c.events.clock) (p.rule c.args.spawner.now) (p.rule c.events.spawner) c.args.login.now c.args.login.now c.args.runner.now.slots c.events.runner.slots
    c.args.engine.now.log.limit c.events.engine.log.limit false before.told before.rule before.children refl before.slots before.limit turn.1 in
    let moves = moves_more d.seen d.moment d.left_since old mid new c.events.engine e.new.engine base h so_far.0 turn.0 before.told so_far.4 turn.2 in
    let carries = goes_by d.moment d.left_since mid new base so_far.0 turn.0 knows (λ is. turn.2.any_moment (before.told ∙ is)) in
    let is_open = c.in-NoLink.ensures.live in
    let few = ltb-true c.events.taken c.args.connections c.in-NoLink.ensures.asked_for in
    let rose = happens.2 in
    let going = going_same side link.Both.stays s (d.left_since mid) (d.left_since new) (shop first door) so_far.1 (shop (timed knows at) door1) (shop (timed knows behind) door2) carries so_far.2 happens.0 happens.1 in (
      turn.0,
      serves_open side link.Both.stays s (d.left_since new) (d.may_leave new) (shop first door) (shop (timed knows behind) door2) so_far.1 c.args.connections _ going
          (so_far.2.none, subst (λ n. n < c.args.connections) (sym so_far.3.firsts_is) few, omega (arith, before.failed, rose)) no_link_no_disk
          (λ is. images_open d.seen d.may_leave new e.new.engine base turn.0 e.ensures.keeps.goes_on.stands is_open (moves.over is_open) (e.ensures.keeps.goes_on.stays.told is_open ∙ (before.told ∙ is))),
      moves,
    )

pub returns-in-NoLink-clause-cause : goal.returns-in-NoLink-clause-cause
returns-in-NoLink-clause-cause g c =
    let before = c.events.invariant in
    let counts = c.in-NoLink.ensures.counts in
    let few = ltb-true c.events.taken c.args.connections c.in-NoLink.ensures.asked_for in
    record { by_disk = tt; by_spawner = tt; by_door = (omega (arith, before.taken, counts.0, few), omega (arith, before.failed, counts.1)) }

pub returns-in-NoLink-clause-keeps : goal.returns-in-NoLink-clause-keeps
returns-in-NoLink-clause-keeps g c =
    let d = g.D.Disk in
    let before = c.events.invariant in
    let k = c.event.ensures.keeps in
    record {
      at_work = k.at_work;
      same = (k.same.0 ∙ (before.login ∙ sym c.requires.work.same_login), k.same.1 ∙ before.slots);
      goes_on = goes_on_more d.seen d.may_leave d.faults c.args.disk.now c.events.disk c.event.new.disk c.args.engine.now c.events.engine c.event.new.engine before.told before.version before.limit before.counted k.goes_on;
      rule = (k.rule.0 ∙ before.rule, k.rule.1 ∙ before.children);
    }

pub returns-in-NoLink-clause-spawn_faults : goal.returns-in-NoLink-clause-spawn_faults
returns-in-NoLink-clause-spawn_faults g c = let more = c.event.ensures.spawn_faults in let was = c.events.invariant.spawned in omega (arith, more, was)

pub returns-clause-served : goal.returns-clause-served
returns-clause-served g c base h over =
    let d = g.D.Disk in
    let before = c.events.invariant in
    let so_far = before.so_far base h over in
    let all : c.events._event ≡ 18446744073709551615 = omega arith in (
      so_far.0,
      serves_open _ _ _ _ _ _ _ so_far.1 _ _ so_far.2 (so_far.2.none, so_far.3.all_is ∙ all) spent_no_disk
          (λ is. images_open d.seen d.may_leave c.events.disk c.events.engine base so_far.0 before.ready.stands before.ready.is_open (so_far.4.over before.ready.is_open) (before.told ∙ is)),
      so_far.4,
    )

pub returns-clause-keeps : goal.returns-clause-keeps
returns-clause-keeps g c =
    let before = c.events.invariant in
    record {
      at_work = before.at_work;
      same = (before.login ∙ sym c.requires.work.same_login, before.slots);
      goes_on = record { stays = record { told = λ is. before.told; version = λ is. before.version; limit = λ is. before.limit; faults = before.counted }; stands = before.ready.stands; serves = before.ready.serves };
      rule = (before.rule, before.children);
    }

pub returns-clause-cause : goal.returns-clause-cause
returns-clause-cause g c = record { by_disk = tt; by_spawner = tt; by_door = tt }

pub returns-clause-live : goal.returns-clause-live
returns-clause-live g c = c.events.invariant.ready.is_open

pub returns-clause-spawn_faults : goal.returns-clause-spawn_faults
returns-clause-spawn_faults g c = c.events.invariant.spawned
