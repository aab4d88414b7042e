-- A call at the door, and the drain behind it.
use Rattle.std.proofs.Common.{Bool, false, inl, refl, sym, subst, ◌∙◌, arith}
use Rattle.std.specs.Prelude.{is_some}
use Rattle.std.proofs.lemmas.Option.{none-some}
use Rattle.mt_opening.specs.Current.{told_size}
use Rattle.mt_opening.specs.History.{History}
use Rattle.mt_runner.specs.Account.{AccountSide, account_side, tasks_of, told_time}
use Rattle.mt_runner.specs.Turning.{Drained, Working, most_turns}
use Rattle.mt_runner.proofs.Drains.{Ended, at_setting}
use Rattle.mt_connection.specs.Sides.{side_of}
use Rattle.mt_connection.specs.Steps.{MovesOn}
use Rattle.mt_connection.specs.Transcript.{setting, working}
use Rattle.mt_connection.proofs.Completeness.{some_over}
use Rattle.mt_connection.proofs.Crashes.{goes_on_more, moves_more}
use Rattle.mt_server.specs.Events.{door_side}
use Rattle.mt_server.specs.Guarantees.{shop}
use Rattle.mt_server.specs.Visiting.{EventFaults, Happens}
use Rattle.mt_server.specs.declared.came.Happened.{Happened}
use Rattle.mt_server.proofs.Draining.{drained_counts, fault_by}
use Rattle.mt_server.proofs.Happening.{broke_here, had_here, woke_here}
use Rattle.mt_server.proofs.Later.{goes_by}
use Rattle.mt_server.proofs.Overs.{no_break}
use Rattle.mt_server.proofs.Turns.{drained_faults}
use Rattle.mt_server.proofs.serve.event.Goals as goal

pub drain-last-requires-clause-ready : goal.drain-last-requires-clause-ready
drain-last-requires-clause-ready g c =
    let no = no_break c.in-Had.end (sym c.end_breaks.ensures ∙ c.in_default.is) in
    let is_open = c.in-Had.ensures.live no.0 no.1 in
    let went = c.in-Had.ensures.keeps.goes_on in
    record { stands = went.stands; is_open = is_open; version = went.stays.version is_open ∙ c.requires.work.ready.version; serves = went.serves }

pub drain-last-requires-clause-at_work : goal.drain-last-requires-clause-at_work
drain-last-requires-clause-at_work g c = c.visit.ensures.keeps.at_work

pub drain-last-requires-in-Woke-clause-ready : goal.drain-last-requires-in-Woke-clause-ready
drain-last-requires-in-Woke-clause-ready g c =
    let is_open = c.in-Woke.ensures.live (none-some _) (none-some _) in
    let went = c.in-Woke.ensures.keeps.goes_on in
    record { stands = went.stands; is_open = is_open; version = went.stays.version is_open ∙ c.requires.work.ready.version; serves = went.serves }

pub drain-last-requires-in-Woke-clause-at_work : goal.drain-last-requires-in-Woke-clause-at_work
drain-last-requires-in-Woke-clause-at_work g c = c.visit.ensures.keeps.at_work

pub returns-in-Some-clause-happens : goal.returns-in-Some-clause-happens
returns-in-Some-clause-happens g c base h over =
    let d = g.D.Disk in
    let p = g.P.Spawner in
    let k = g.C.Clock in
    let link = g.W.Link in
    let side = side_of link.Source.left link.Sink.got link.Source.read_faults link.Sink.write_faults in
    let old = c.args.disk.now in
    let new = c.visit.new.disk in
    let knows = is_some (d.seen old) in
    let v = c.in-Had.ensures.visit base h over in
    let before = account_side h (told_size (d.seen old) c.args.engine.now) (d.faults old) (told_time knows (d.moment old)) (k.asked c.args.clock.now) (tasks_of (p.seen c.args.spawner.now)) in
    let behind = account_side v.0 (told_size (d.seen new) c.visit.new.engine) (d.faults new) (told_time knows (d.moment new)) (k.asked c.visit.new.clock) (tasks_of (p.seen c.visit.new.spawner)) in
    let s = setting false knows (k.gives (k.rule c.args.clock.now)) (p.gives (p.rule c.args.spawner.now)) c.args.login.now c.args.runner.now.slots c.args.engine.now.log.limit base in
    let door = door_side (g.W.Door.waiting c.args.door.now) (g.W.Door.given_back c.args.door.now) (g.W.Door.taken c.args.door.now) (g.W.Door.over c.args.door.now) (g.W.Door.door_faults c.args.door.now) in
    let door2 = door_side (g.W.Door.waiting c.visit.new.door) (g.W.Door.given_back c.visit.new.door) (g.W.Door.taken c.visit.new.door) (g.W.Door.over c.visit.new.door) (g.W.Door.door_faults c.visit.new.door) in (
      v.0,
      broke_here side link.Both.stays s (d.left_since new) (d.may_leave new) (shop before door) (shop behind door2) (d.left_since new) (shop behind door2) v.1.0 c.in-Had.end v.1.3 v.1.4 (λ knows t c le left. inl left)
          c.in-Some.end (sym c.end_breaks.ensures ∙ c.in-Some.is) refl v.1.5 v.1.6,
      v.2,
    )

pub returns-in-Had-clause-happens : goal.returns-in-Had-clause-happens
returns-in-Had-clause-happens g c base h over =
    let d = g.D.Disk in
    let p = g.P.Spawner in
    let k = g.C.Clock in
    let link = g.W.Link in
    let side = side_of link.Source.left link.Sink.got link.Source.read_faults link.Sink.write_faults in
    let old = c.args.disk.now in
    let mid = c.visit.new.disk in
    let new = c.drain-last.new.disk in
    let knows = is_some (d.seen old) in
    let v = c.in-Had.ensures.visit base h over in
    let none = sym c.end_breaks.ensures ∙ c.in_default.is in
    let no = no_break c.in-Had.end none in
    let is_open = c.in-Had.ensures.live no.0 no.1 in
    let told = c.in-Had.ensures.keeps.goes_on.stays.told is_open in
    let before = account_side h (told_size (d.seen old) c.args.engine.now) (d.faults old) (told_time knows (d.moment old)) (k.asked c.args.clock.now) (tasks_of (p.seen c.args.spawner.now)) in
    let at = λ (b : Bool). account_side v.0 (told_size (d.seen mid) c.visit.new.engine) (d.faults mid) (told_time b (d.moment mid)) (k.asked c.visit.new.clock) (tasks_of (p.seen c.visit.new.spawner)) in
    let behind = λ (b : Bool) (n : History). account_side n (told_size (d.seen new) c.drain-last.new.engine) (d.faults new) (told_time b (d.moment new)) (k.asked c.drain-last.new.clock) (tasks_of (p.seen c.drain-last.new.spawner)) in
    let t = at_setting k.gives p.gives base (λ (b : Bool) (w : Working). Ended d.seen d.may_leave d.moment d.left_since b w most_turns mid new c.drain-last.new.engine c.drain-last.result base v.0 (at b) (behind b))
    knows (is_some (d.seen mid)) (k.rule c.args.clock.now) (k.rule c.visit.new.clock) (p.rule c.args.spawner.now) (p.rule c.visit.new.spawner) c.args.login.now c.visit.new.runner.login c.args.runner.now.slots c.visit.new.runner.slots
    c.args.engine.now.log.limit c.visit.new.engine.log.limit told c.visit.ensures.keeps.rule.0 c.visit.ensures.keeps.rule.1 (c.visit.ensures.keeps.same.0 ∙ c.requires.work.same_login) c.visit.ensures.keeps.same.1 (c.in-Had.ensures.keeps.goes_on.stays.limit is_open)
    (c.drain-last.ensures.takes base v.0 (v.2.over is_open)) in
    let moves : MovesOn d.seen d.moment d.left_since mid new c.drain-last.new.engine base v.0 t.0 = record { over = t.2; front = t.3; any_moment = λ is. t.5 (sym told ∙ is) } in
    let s = setting false knows (k.gives (k.rule c.args.clock.now)) (p.gives (p.rule c.args.spawner.now)) c.args.login.now c.args.runner.now.slots c.args.engine.now.log.limit base in
    let door = door_side (g.W.Door.waiting c.args.door.now) (g.W.Door.given_back c.args.door.now) (g.W.Door.taken c.args.door.now) (g.W.Door.over c.args.door.now) (g.W.Door.door_faults c.args.door.now) in
    let door2 = door_side (g.W.Door.waiting c.visit.new.door) (g.W.Door.given_back c.visit.new.door) (g.W.Door.taken c.visit.new.door) (g.W.Door.over c.visit.new.door) (g.W.Door.door_faults c.visit.new.door) in
    let happens = had_here side link.Both.stays s (d.left_since new) (d.may_leave new) (shop before door) (shop (behind knows t.0) door2) (d.left_since mid) (shop (at knows) door2) v.1.0 c.in-Had.end v.1.3 v.1.4
    (goes_by d.moment d.left_since mid new base v.0 t.0 knows t.5) c.in-Had.first c.in-Had.over v.1.1 v.1.2 none c.drain-last.result t.1 v.1.5 t.4 in (
      t.0,
      subst (λ (r : Happened). Happens side link.Both.stays s (d.left_since new) (d.may_leave new) (shop before door) r (shop (behind knows t.0) door2)) (sym c.happened_by.ensures) happens,
      moves_more d.seen d.moment d.left_since old mid new c.visit.new.engine c.drain-last.new.engine base h v.0 t.0 told v.2 moves,
    )

pub returns-in-Had-clause-faults : goal.returns-in-Had-clause-faults
returns-in-Had-clause-faults g c =
    let d = g.D.Disk in
    let none = sym c.end_breaks.ensures ∙ c.in_default.is in
    let no = no_break c.in-Had.end none in
    let is_open = c.in-Had.ensures.live no.0 no.1 in
    let o = some_over _ _ is_open c.in-Had.ensures.keeps.goes_on.serves in
    let t = c.drain-last.ensures.takes o.0 o.1 o.2 in
    let disk = c.in-Had.ensures.keeps.goes_on.stays.faults in
    let spawn = c.in-Had.ensures.spawn_faults in
    subst (λ (r : Happened). EventFaults r (d.faults c.args.disk.now) (g.P.Spawner.seen c.args.spawner.now).faults (d.faults c.drain-last.new.disk) (g.P.Spawner.seen c.drain-last.new.spawner).faults) (sym c.happened_by.ensures)
    (drained_faults _ _ c.drain-last.result _ _ _ _ (λ is. (let rose = c.drain-last.ensures.disk is in omega (arith, disk, rose))) (λ is. (let rose = fault_by _ _ _ _ _ is t.1 in omega (arith, spawn, rose))))

pub returns-in-Had-clause-spawn_faults : goal.returns-in-Had-clause-spawn_faults
returns-in-Had-clause-spawn_faults g c =
    let none = sym c.end_breaks.ensures ∙ c.in_default.is in
    let no = no_break c.in-Had.end none in
    let is_open = c.in-Had.ensures.live no.0 no.1 in
    let o = some_over _ _ is_open c.in-Had.ensures.keeps.goes_on.serves in
    let t = c.drain-last.ensures.takes o.0 o.1 o.2 in
    let counts = drained_counts _ _ _ _ _ t.1 in
    let spawn = c.in-Had.ensures.spawn_faults in
    let more = counts.spawn in
    omega (arith, spawn, more)

pub returns-in-Woke-clause-happens : goal.returns-in-Woke-clause-happens
returns-in-Woke-clause-happens g c base h over =
    let d = g.D.Disk in
    let p = g.P.Spawner in
    let k = g.C.Clock in
    let link = g.W.Link in
    let side = side_of link.Source.left link.Sink.got link.Source.read_faults link.Sink.write_faults in
    let old = c.args.disk.now in
    let mid = c.visit.new.disk in
    let new = c.drain-last-in-Woke.new.disk in
    let knows = is_some (d.seen old) in
    let v = c.in-Woke.ensures.visit base h over in
    let is_open = c.in-Woke.ensures.live (none-some _) (none-some _) in
    let told = c.in-Woke.ensures.keeps.goes_on.stays.told is_open in
    let before = account_side h (told_size (d.seen old) c.args.engine.now) (d.faults old) (told_time knows (d.moment old)) (k.asked c.args.clock.now) (tasks_of (p.seen c.args.spawner.now)) in
    let at = λ (b : Bool). account_side v.0 (told_size (d.seen mid) c.visit.new.engine) (d.faults mid) (told_time b (d.moment mid)) (k.asked c.visit.new.clock) (tasks_of (p.seen c.visit.new.spawner)) in
    let behind = λ (b : Bool) (n : History). account_side n (told_size (d.seen new) c.drain-last-in-Woke.new.engine) (d.faults new) (told_time b (d.moment new)) (k.asked c.drain-last-in-Woke.new.clock) (tasks_of (p.seen c.drain-last-in-Woke.new.spawner)) in
    let t = at_setting k.gives p.gives base (λ (b : Bool) (w : Working). Ended d.seen d.may_leave d.moment d.left_since b w most_turns mid new c.drain-last-in-Woke.new.engine c.drain-last-in-Woke.result base v.0 (at b) (behind b))
    knows (is_some (d.seen mid)) (k.rule c.args.clock.now) (k.rule c.visit.new.clock) (p.rule c.args.spawner.now) (p.rule c.visit.new.spawner) c.args.login.now c.visit.new.runner.login c.args.runner.now.slots c.visit.new.runner.slots
    c.args.engine.now.log.limit c.visit.new.engine.log.limit told c.visit.ensures.keeps.rule.0 c.visit.ensures.keeps.rule.1 (c.visit.ensures.keeps.same.0 ∙ c.requires.work.same_login) c.visit.ensures.keeps.same.1 (c.in-Woke.ensures.keeps.goes_on.stays.limit is_open)
    (c.drain-last-in-Woke.ensures.takes base v.0 (v.2.over is_open)) in
    let moves : MovesOn d.seen d.moment d.left_since mid new c.drain-last-in-Woke.new.engine base v.0 t.0 = record { over = t.2; front = t.3; any_moment = λ is. t.5 (sym told ∙ is) } in
    let s = setting false knows (k.gives (k.rule c.args.clock.now)) (p.gives (p.rule c.args.spawner.now)) c.args.login.now c.args.runner.now.slots c.args.engine.now.log.limit base in
    let door = door_side (g.W.Door.waiting c.args.door.now) (g.W.Door.given_back c.args.door.now) (g.W.Door.taken c.args.door.now) (g.W.Door.over c.args.door.now) (g.W.Door.door_faults c.args.door.now) in
    let door2 = door_side (g.W.Door.waiting c.visit.new.door) (g.W.Door.given_back c.visit.new.door) (g.W.Door.taken c.visit.new.door) (g.W.Door.over c.visit.new.door) (g.W.Door.door_faults c.visit.new.door) in
    let happens = woke_here side link.Both.stays s (d.left_since new) (d.may_leave new) (shop before door) (shop (behind knows t.0) door2) c.drain-last-in-Woke.result
    (subst (λ (a : AccountSide). Drained (working s) most_turns a c.drain-last-in-Woke.result (behind knows t.0)) v.1.0 t.1) (v.1.1 c.drain-last-in-Woke.result) t.4 in (
      t.0,
      subst (λ (r : Happened). Happens side link.Both.stays s (d.left_since new) (d.may_leave new) (shop before door) r (shop (behind knows t.0) door2)) (sym c.happened_by-in-Woke.ensures) happens,
      moves_more d.seen d.moment d.left_since old mid new c.visit.new.engine c.drain-last-in-Woke.new.engine base h v.0 t.0 told v.2 moves,
    )

pub returns-in-Woke-clause-faults : goal.returns-in-Woke-clause-faults
returns-in-Woke-clause-faults g c =
    let d = g.D.Disk in
    let is_open = c.in-Woke.ensures.live (none-some _) (none-some _) in
    let o = some_over _ _ is_open c.in-Woke.ensures.keeps.goes_on.serves in
    let t = c.drain-last-in-Woke.ensures.takes o.0 o.1 o.2 in
    let disk = c.in-Woke.ensures.keeps.goes_on.stays.faults in
    let spawn = c.in-Woke.ensures.spawn_faults in
    subst (λ (r : Happened). EventFaults r (d.faults c.args.disk.now) (g.P.Spawner.seen c.args.spawner.now).faults (d.faults c.drain-last-in-Woke.new.disk) (g.P.Spawner.seen c.drain-last-in-Woke.new.spawner).faults) (sym c.happened_by-in-Woke.ensures)
    (drained_faults _ _ c.drain-last-in-Woke.result _ _ _ _ (λ is. (let rose = c.drain-last-in-Woke.ensures.disk is in omega (arith, disk, rose))) (λ is. (let rose = fault_by _ _ _ _ _ is t.1 in omega (arith, spawn, rose))))

pub returns-in-Woke-clause-spawn_faults : goal.returns-in-Woke-clause-spawn_faults
returns-in-Woke-clause-spawn_faults g c =
    let is_open = c.in-Woke.ensures.live (none-some _) (none-some _) in
    let o = some_over _ _ is_open c.in-Woke.ensures.keeps.goes_on.serves in
    let t = c.drain-last-in-Woke.ensures.takes o.0 o.1 o.2 in
    let counts = drained_counts _ _ _ _ _ t.1 in
    let spawn = c.in-Woke.ensures.spawn_faults in
    let more = counts.spawn in
    omega (arith, spawn, more)

pub returns-in-Some-clause-keeps : goal.returns-in-Some-clause-keeps
returns-in-Some-clause-keeps g c = c.visit.ensures.keeps

pub returns-in-Had-clause-keeps : goal.returns-in-Had-clause-keeps
returns-in-Had-clause-keeps g c =
    let d = g.D.Disk in
    let no = no_break c.in-Had.end (sym c.end_breaks.ensures ∙ c.in_default.is) in
    let is_open = c.in-Had.ensures.live no.0 no.1 in
    let v = c.visit.ensures.keeps in
    let t = c.drain-last.ensures in
    record {
      at_work = t.at_work;
      same = (t.same.1 ∙ v.same.0, t.same.0 ∙ v.same.1);
      goes_on = goes_on_more d.seen d.may_leave d.faults c.args.disk.now c.visit.new.disk c.drain-last.new.disk c.args.engine.now c.visit.new.engine c.drain-last.new.engine is_open v.goes_on t.goes_on;
      rule = (t.rule.1 ∙ v.rule.0, t.rule.0 ∙ v.rule.1);
    }

pub returns-in-Woke-clause-keeps : goal.returns-in-Woke-clause-keeps
returns-in-Woke-clause-keeps g c =
    let d = g.D.Disk in
    let is_open = c.in-Woke.ensures.live (none-some _) (none-some _) in
    let v = c.visit.ensures.keeps in
    let t = c.drain-last-in-Woke.ensures in
    record {
      at_work = t.at_work;
      same = (t.same.1 ∙ v.same.0, t.same.0 ∙ v.same.1);
      goes_on = goes_on_more d.seen d.may_leave d.faults c.args.disk.now c.visit.new.disk c.drain-last-in-Woke.new.disk c.args.engine.now c.visit.new.engine c.drain-last-in-Woke.new.engine is_open v.goes_on t.goes_on;
      rule = (t.rule.1 ∙ v.rule.0, t.rule.0 ∙ v.rule.1);
    }

pub returns-in-NoLink-clause-keeps : goal.returns-in-NoLink-clause-keeps
returns-in-NoLink-clause-keeps g c = c.visit.ensures.keeps
