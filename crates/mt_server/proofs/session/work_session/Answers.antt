-- One connection, of which the source and the sink are the two sides, and a drain where it ended well.
use Rattle.std.proofs.Common.{◌≡◌, Bool, refl, sym, ◌∙◌, rules}
use Rattle.std.specs.Prelude.{is_some}
use Rattle.mt_opening.specs.Current.{told_size}
use Rattle.mt_opening.specs.History.{History}
use Rattle.mt_runner.specs.Account.{account_side, tasks_of, told_time}
use Rattle.mt_runner.specs.Turning.{Working, most_turns}
use Rattle.mt_runner.proofs.Drains.{Ended, at_setting}
use Rattle.mt_connection.specs.Sides.{joined, link_side}
use Rattle.mt_connection.specs.Steps.{MovesOn}
use Rattle.mt_connection.specs.Transcript.{setting}
use Rattle.mt_connection.proofs.Completeness.{some_over}
use Rattle.mt_connection.proofs.Crashes.{goes_on_more, moves_more}
use Rattle.mt_server.proofs.Connecting.{durable, durable_drained, served_disk, served_link, served_counts}
use Rattle.mt_server.proofs.Later.{goes_by}
use Rattle.mt_server.proofs.Worked.{disk_of_drain, drained_open, ended_is, session_begun, session_bytes, session_open, spawner_of_drain, worked_drained, worked_served}
use Rattle.mt_server.proofs.session.work_session.Goals as goal

pub returns-then-not-is_ended-clause-worked : goal.returns-then-not-is_ended-clause-worked
returns-then-not-is_ended-clause-worked g c base h over =
    let same_source : c.source-1.given.0 ≡ c.serve_connection-end.new.link.source.now = search rules in
    let same_sink : c.sink-1.given.0 ≡ c.serve_connection-end.new.link.sink.now = search rules in
    let x = c.serve_connection-end.ensures.served base h over in
    rw (same_source, same_sink) (x.0, worked_served _ _ _ c.serve_connection-end.result _ (sym c.is_ended.ensures ∙ c.if-not-is_ended.true) x.1, (λ knows. durable c.serve_connection-end.result base x.0 _ (x.2 knows)), x.3)

pub returns-then-not-is_ended-clause-of_session : goal.returns-then-not-is_ended-clause-of_session
returns-then-not-is_ended-clause-of_session g c = session_begun c.serve_connection-end.result (sym c.is_ended.ensures ∙ c.if-not-is_ended.true)

pub returns-then-not-is_ended-clause-cause : goal.returns-then-not-is_ended-clause-cause
returns-then-not-is_ended-clause-cause g c =
    let same_source : c.source-1.given.0 ≡ c.serve_connection-end.new.link.source.now = search rules in
    let same_sink : c.sink-1.given.0 ≡ c.serve_connection-end.new.link.sink.now = search rules in
    let o = some_over _ _ c.requires.work.ready.is_open c.requires.work.ready.serves in
    let x = c.serve_connection-end.ensures.served o.0 o.1 o.2 in
    record { by_bytes = x.1.by_bytes; by_link = rw (same_source, same_sink) (served_link _ _ _ _ _ _ x.1); by_disk = served_disk _ _ _ _ _ _ x.1; by_spawner = tt }

pub returns-then-not-is_ended-clause-live : goal.returns-then-not-is_ended-clause-live
returns-then-not-is_ended-clause-live g c = session_open c.serve_connection-end.result _ c.serve_connection-end.ensures.live

pub returns-then-not-is_ended-clause-source_stays : goal.returns-then-not-is_ended-clause-source_stays
returns-then-not-is_ended-clause-source_stays g c =
    let same : c.source-1.given.0 ≡ c.serve_connection-end.new.link.source.now = search rules in
    rw same (c.serve_connection-end.ensures.stays.2 _ (g.met.S.Source.source_same _))

pub returns-then-not-is_ended-clause-sink_stays : goal.returns-then-not-is_ended-clause-sink_stays
returns-then-not-is_ended-clause-sink_stays g c =
    let same : c.sink-1.given.0 ≡ c.serve_connection-end.new.link.sink.now = search rules in
    rw same (c.serve_connection-end.ensures.stays.3 _ (g.met.K.Sink.sink_same _))

pub returns-then-not-is_ended-clause-keeps : goal.returns-then-not-is_ended-clause-keeps
returns-then-not-is_ended-clause-keeps g c = c.serve_connection-end.ensures.keeps

pub drain-last-requires-clause-ready : goal.drain-last-requires-clause-ready
drain-last-requires-clause-ready g c =
    let went = c.serve_connection-end.ensures.keeps.goes_on in
    let is_open = ended_is c.serve_connection-end.result _ (sym c.is_ended.ensures ∙ c.if-not-is_ended.false) c.serve_connection-end.ensures.live in
    record { stands = went.stands; is_open = is_open; version = went.stays.version is_open ∙ c.requires.work.ready.version; serves = went.serves }

pub drain-last-requires-clause-at_work : goal.drain-last-requires-clause-at_work
drain-last-requires-clause-at_work g c = c.serve_connection-end.ensures.keeps.at_work

pub returns-clause-worked : goal.returns-clause-worked
returns-clause-worked g c base h over =
    let d = g.D.Disk in
    let p = g.P.Spawner in
    let k = g.C.Clock in
    let j = c.serve_connection-end in
    let l = j.new.link in
    let same_source : c.source-1.given.0 ≡ l.source.now = search rules in
    let same_sink : c.sink-1.given.0 ≡ l.sink.now = search rules in
    let old = c.args.disk.now in
    let mid = j.new.disk in
    let new = c.drain-last.new.disk in
    let knows = is_some (d.seen old) in
    let x = j.ensures.served base h over in
    let is_ended = sym c.is_ended.ensures ∙ c.if-not-is_ended.false in
    let is_open = ended_is j.result _ is_ended j.ensures.live in
    let told = j.ensures.keeps.goes_on.stays.told is_open in
    let link = link_side (g.S.Source.left l.source.now) (g.K.Sink.got l.sink.now) (g.S.Source.read_faults l.source.now) (g.K.Sink.write_faults l.sink.now) in
    let at = λ (b : Bool). account_side x.0 (told_size (d.seen mid) j.new.engine) (d.faults mid) (told_time b (d.moment mid)) (k.asked j.new.clock) (tasks_of (p.seen j.new.spawner)) in
    let behind = λ (b : Bool) (n : History). account_side n (told_size (d.seen new) c.drain-last.new.engine) (d.faults new) (told_time b (d.moment new)) (k.asked c.drain-last.new.clock) (tasks_of (p.seen c.drain-last.new.spawner)) in
    let t = at_setting k.gives p.gives base (λ (b : Bool) (w : Working). Ended d.seen d.may_leave d.moment d.left_since b w most_turns mid new c.drain-last.new.engine c.drain-last.result base x.0 (at b) (behind b))
    knows (is_some (d.seen mid)) (k.rule c.args.clock.now) (k.rule j.new.clock) (p.rule c.args.spawner.now) (p.rule j.new.spawner) c.args.login.now j.new.runner.login c.args.runner.now.slots j.new.runner.slots
    c.args.engine.now.log.limit j.new.engine.log.limit told j.ensures.keeps.rule.0 j.ensures.keeps.rule.1 (j.ensures.keeps.same.0 ∙ c.requires.work.same_login) j.ensures.keeps.same.1 (j.ensures.keeps.goes_on.stays.limit is_open) (c.drain-last.ensures.takes base x.0 (x.3.over is_open)) in
    let moves : MovesOn d.seen d.moment d.left_since mid new c.drain-last.new.engine base x.0 t.0 = record { over = t.2; front = t.3; any_moment = λ is. t.5 (sym told ∙ is) } in
    let s = setting (is_some (g.S.Source.left c.args.source.now)) knows (k.gives (k.rule c.args.clock.now)) (p.gives (p.rule c.args.spawner.now)) c.args.login.now c.args.runner.now.slots c.args.engine.now.log.limit base in
    rw (same_source, same_sink) (
      t.0,
      worked_drained s (d.left_since mid) (d.left_since new) _ (joined link (at knows)) (joined link (behind knows t.0)) j.result c.drain-last.result is_ended (goes_by d.moment d.left_since mid new base x.0 t.0 knows t.5) x.1 t.1 refl,
      (λ is. durable_drained c.drain-last.result base t.0 _ (t.4 is)),
      moves_more d.seen d.moment d.left_since old mid new j.new.engine c.drain-last.new.engine base h x.0 t.0 told x.3 moves,
    )

pub returns-clause-cause : goal.returns-clause-cause
returns-clause-cause g c =
    let is_ended = sym c.is_ended.ensures ∙ c.if-not-is_ended.false in
    let went = c.serve_connection-end.ensures.keeps.goes_on in
    let is_open = ended_is c.serve_connection-end.result _ is_ended c.serve_connection-end.ensures.live in
    let o = some_over _ _ is_open went.serves in
    let first = some_over _ _ c.requires.work.ready.is_open c.requires.work.ready.serves in
    let x = c.serve_connection-end.ensures.served first.0 first.1 first.2 in
    let counts = served_counts _ _ _ _ _ _ x.1 in
    record {
      by_bytes = session_bytes _ c.serve_connection-end.result c.drain-last.result is_ended x.1.by_bytes;
      by_link = tt;
      by_disk = disk_of_drain c.drain-last.result _ _ _ went.stays.faults c.drain-last.ensures.disk;
      by_spawner = spawner_of_drain _ _ _ _ c.drain-last.result _ counts.spawn (c.drain-last.ensures.takes o.0 o.1 o.2).1;
    }

pub returns-clause-keeps : goal.returns-clause-keeps
returns-clause-keeps g c =
    let d = g.D.Disk in
    let j = c.serve_connection-end in
    let is_open = ended_is j.result _ (sym c.is_ended.ensures ∙ c.if-not-is_ended.false) j.ensures.live in
    let t = c.drain-last.ensures in
    record {
      at_work = t.at_work;
      same = (t.same.1 ∙ j.ensures.keeps.same.0, t.same.0 ∙ j.ensures.keeps.same.1);
      goes_on = goes_on_more d.seen d.may_leave d.faults c.args.disk.now j.new.disk c.drain-last.new.disk c.args.engine.now j.new.engine c.drain-last.new.engine is_open j.ensures.keeps.goes_on t.goes_on;
      rule = (t.rule.1 ∙ j.ensures.keeps.rule.0, t.rule.0 ∙ j.ensures.keeps.rule.1);
    }

pub returns-clause-live : goal.returns-clause-live
returns-clause-live g c = drained_open c.drain-last.result _ c.drain-last.ensures.open

pub returns-clause-source_stays : goal.returns-clause-source_stays
returns-clause-source_stays g c =
    let same : c.source-1.given.0 ≡ c.serve_connection-end.new.link.source.now = search rules in
    rw same (c.serve_connection-end.ensures.stays.2 _ (g.met.S.Source.source_same _))

pub returns-clause-sink_stays : goal.returns-clause-sink_stays
returns-clause-sink_stays g c =
    let same : c.sink-1.given.0 ≡ c.serve_connection-end.new.link.sink.now = search rules in
    rw same (c.serve_connection-end.ensures.stays.3 _ (g.met.K.Sink.sink_same _))
