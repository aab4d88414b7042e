-- The connection is served over the history at entry, or the store was not opened and nothing was read.
use Rattle.std.proofs.Common.{◌≡◌, ℕ, Bool, refl, ap, subst, ◌∙◌}
use Rattle.std.specs.Prelude.{Err, is_some}
use Rattle.mt_disk.proofs.Moments.{leaves_now}
use Rattle.mt_opening.specs.Current.{IsBetween, told_size}
use Rattle.mt_log.specs.LogImage.{SameLog}
use Rattle.mt_runner.specs.Account.{account_side, tasks_of, told_time}
use Rattle.mt_connection.proofs.Crashes.{between_first, told_later}
use Rattle.mt_connection.specs.Sides.{LinkSide, joined, link_side}
use Rattle.mt_connection.specs.Transcript.{Setting, setting}
use Rattle.mt_server.specs.Events.{size_of}
use Rattle.mt_server.specs.Guarantees.{IsStopped, Worked}
use Rattle.mt_server.specs.Statuses.{IsBegun}
use Rattle.mt_server.specs.declared.status.Status.{Status}
use Rattle.mt_server.proofs.Connecting.{is_stood, leaves, size_told, sized}
use Rattle.mt_server.proofs.Opened.{crash_from_entry, kept_size, opening_holds, over_opened, some_files}
use Rattle.mt_server.proofs.Overs.{at_work_idle, in_setting, timed}
use Rattle.mt_server.proofs.Serves.{not_begun, said_why, silent_unopened, unopened_serve}
use Rattle.mt_server.proofs.Sessions.{has_run, unserved_run, worked_earlier}
use Rattle.mt_server.proofs.Settling.{ready_begun, ready_open, ready_refused, ready_unopened}
use Rattle.mt_server.proofs.Unopened.{later_disk, later_spawner, some_bytes, unopened_link, unopened_session, unopened_spawner}
use Rattle.mt_server.proofs.session.session.Goals as goal

pub open_store-requires-clause-rest : goal.open_store-requires-clause-rest
open_store-requires-clause-rest g c = c.requires.begin.outside.rest

pub open_store-requires-clause-fit : goal.open_store-requires-clause-fit
open_store-requires-clause-fit g c = c.requires.begin.outside.fit

pub work_session-status-requires : goal.work_session-status-requires
work_session-status-requires g c =
    let p = g.P.Spawner in
    let spawner = c.args.spawner.now in
    record {
      work = record {
        ready = c.in-Ok.ensures.ready;
        at_work = at_work_idle (p.may (p.rule spawner)) (p.gives (p.rule spawner)) (p.seen spawner) (p.held spawner) c.args.runner.now (g.D.Disk.seen c.open_store.new.disk) c.in-Ok.engine c.requires.begin.nothing_kept c.requires.begin.outside.idle c.requires.begin.outside.free;
        same_login = c.requires.begin.same_login;
      };
    }

pub stop-requires : goal.stop-requires
stop-requires g c = record { paired = c.work_session-status.ensures.keeps.at_work.paired }

pub returns-in-Ok-clause-run : goal.returns-in-Ok-clause-run
returns-in-Ok-clause-run g c base h has =
    let d = g.D.Disk in
    let p = g.P.Spawner in
    let k = g.C.Clock in
    let source = c.args.source.now in
    let old = c.args.disk.now in
    let mid = c.open_store.new.disk in
    let w = c.work_session-status in
    let new = w.new.disk in
    let knows = is_some (d.seen old) in
    let ready = c.in-Ok.ensures.ready in
    let tells = c.in-Ok.ensures.tells in
    let opening = c.open_store.ensures.any_moment in
    let fewer = c.open_store.ensures.faults in
    let x = w.ensures.worked base h (over_opened _ _ _ base h tells c.in-Ok.ensures.current has) in
    let tasks = tasks_of (p.seen c.args.spawner.now) in
    let tasks' = tasks_of (p.seen w.new.spawner) in
    let link = link_side (g.S.Source.left source) (g.K.Sink.got c.args.sink.now) (g.S.Source.read_faults source) (g.K.Sink.write_faults c.args.sink.now) in
    let link' = link_side (g.S.Source.left source) (g.K.Sink.got c.open_store.new.sink) (g.S.Source.read_faults source) (g.K.Sink.write_faults c.open_store.new.sink) in
    let link2 = link_side (g.S.Source.left w.new.source) (g.K.Sink.got w.new.sink) (g.S.Source.read_faults w.new.source) (g.K.Sink.write_faults w.new.sink) in
    let before = account_side h (told_size (d.seen mid) c.in-Ok.engine) (d.faults mid) (d.moment mid) (k.asked c.args.clock.now) tasks in
    let behind = account_side x.0 (told_size (d.seen new) w.new.engine) (d.faults new) (d.moment new) (k.asked w.new.clock) tasks' in
    let same_size = size_told d.seen d.may_leave mid c.in-Ok.engine ready.stands ready.is_open
    ∙ kept_size _ _ tells (λ files is now now_is. leaves_now d.moment d.left_since d.may_leave _ _ (SameLog files) (opening files is) (g.met.D.Disk.counts_now mid) now (g.met.D.Disk.seen_is_left mid now now_is)) in
    let same_link : link' ≡ link = ap (λ (k : g.row.K.Denot). link_side (g.S.Source.left source) (g.K.Sink.got k) (g.S.Source.read_faults source) (g.K.Sink.write_faults k)) c.in-Ok.ensures.opened.0 in
    let here = in_setting k.gives p.gives base (λ (b : Bool) (s : Setting). Worked s (d.left_since new) (joined link' (timed b before)) w.result (joined link2 (timed b behind)))
    knows (is_some (d.seen mid)) (k.rule c.args.clock.now) (k.rule c.args.clock.now) (p.rule c.args.spawner.now) (p.rule c.args.spawner.now) c.args.login.now c.args.login.now c.args.runner.now.slots c.args.runner.now.slots c.args.limit c.in-Ok.engine.log.limit
    (is_some (g.S.Source.left source)) tells refl refl refl refl c.in-Ok.ensures.limit x.1 in
    let s = setting (is_some (g.S.Source.left source)) knows (k.gives (k.rule c.args.clock.now)) (p.gives (p.rule c.args.spawner.now)) c.args.login.now c.args.runner.now.slots c.args.limit base in
    let there = subst (λ (l : LinkSide). Worked s (d.left_since new) (joined l (account_side h (size_of (d.seen old)) (d.faults mid) (told_time knows (d.moment mid)) (k.asked c.args.clock.now) tasks)) w.result (joined link2 (timed knows behind))) same_link
    (subst (λ (n : ℕ). Worked s (d.left_since new) (joined link' (account_side h n (d.faults mid) (told_time knows (d.moment mid)) (k.asked c.args.clock.now) tasks)) w.result (joined link2 (timed knows behind))) same_size here) in
    let early = told_later knows (d.moment old) (d.moment mid) (λ knows. let there = some_files (d.seen old) knows in (opening there.0 there.1).later) in
    let first = worked_earlier s (d.left_since new) link h _ (d.faults mid) (d.faults old) (told_time knows (d.moment mid)) (told_time knows (d.moment old)) (k.asked c.args.clock.now) tasks (joined link2 (timed knows behind)) fewer early w.result there in
    let stopped : IsStopped (timed knows behind) (timed knows (account_side x.0 (told_size (d.seen new) w.new.engine) (d.faults new) (d.moment new) (k.asked w.new.clock) (tasks_of (p.seen c.stop.new.spawner)))) =
    record { history = refl; used = refl; disk_faults = refl; time = refl; asked = refl; waits = c.stop.ensures.counts.waits; company = c.stop.ensures.counts.company; faults = c.stop.ensures.faults } in (
      x.0,
      _,
      has_run s (λ h used asked t may. may) _ (joined link2 (timed knows behind)) w.result _ first refl stopped
          (λ knows. let there = some_files (d.seen old) knows in is_stood base h there.0 (has there.0 there.1))
          (λ knows. x.2 (tells ∙ knows))
          (λ knows. sized w.result w.new.engine.log.closed _ _ w.ensures.of_session.1 w.ensures.live (size_told d.seen d.may_leave new w.new.engine w.ensures.keeps.goes_on.stands))
          (leaves d.moment d.left_since old new (IsBetween base h x.0) _ (λ knows. let there = some_files (d.seen old) knows in crash_from_entry d.may_leave d.moment d.left_since old mid new there.0 base h x.0 (has there.0 there.1) (opening there.0 there.1) (x.3.any_moment (tells ∙ knows)) (λ c has. between_first base h x.0 c x.3.front has))),
    )

pub returns-in-Ok-clause-store : goal.returns-in-Ok-clause-store
returns-in-Ok-clause-store g c =
    let w = c.work_session-status in
    let begun = w.ensures.of_session.1 in
    record {
      begun = λ is. c.in-Ok.ensures.opened.1;
      untouched = λ is. absurd (not_begun w.result is begun);
      unopened = λ is. absurd (not_begun w.result is begun);
      silent = λ is. absurd (not_begun w.result (silent_unopened w.result is) begun);
      refused = λ why is. absurd (subst (λ (s : Status). IsBegun s) is begun);
    }

pub returns-in-Ok-clause-cause : goal.returns-in-Ok-clause-cause
returns-in-Ok-clause-cause g c =
    let w = c.work_session-status in
    record {
      by_bytes = w.ensures.cause.by_bytes;
      by_link = rw c.in-Ok.ensures.opened.0 at (w.ensures.cause.by_link);
      by_disk = later_disk w.result _ _ _ c.open_store.ensures.faults w.ensures.cause.by_disk;
      by_spawner = later_spawner w.result _ _ _ w.ensures.cause.by_spawner c.stop.ensures.faults;
    }

pub returns-in-Ok-clause-outside : goal.returns-in-Ok-clause-outside
returns-in-Ok-clause-outside g c =
    let d = g.D.Disk in
    let w = c.work_session-status in
    let k = w.ensures.keeps in
    record {
      no_child_left = (c.stop.ensures.none, c.stop.ensures.held ∙ k.at_work.free);
      rest = ready_begun w.result w.new.engine.log.closed _ _ w.ensures.of_session.1 w.ensures.live (λ is_open. ready_open d.seen d.may_leave w.new.disk w.new.engine.log k.goes_on.stands is_open);
      stays = (w.ensures.source_stays, g.met.K.Sink.sink_joined _ _ _ c.open_store.ensures.stays w.ensures.sink_stays);
      rule = (k.rule.0, c.stop.ensures.rule ∙ k.rule.1);
    }

pub returns-in-Err-clause-run : goal.returns-in-Err-clause-run
returns-in-Err-clause-run g c base h has =
    let d = g.D.Disk in
    let new = c.open_store.new.disk in
    let closed = c.in-Err.ensures.unopened in (
      h,
      _,
      unserved_run _ _ _ c.in-Err.status closed.0 (record { history = refl; used = refl; left = refl; ends = closed.1 })
          (opening_holds d.seen d.may_leave d.moment d.left_since c.args.disk.now new (g.met.D.Disk.counts_now new) (g.met.D.Disk.seen_is_left new) _ h _ _ _ _ c.in-Err.status _ _ _ _ refl has c.open_store.ensures.any_moment closed.0 closed.1 c.open_store.ensures.faults
          (λ why is files seen_is. (c.open_store.ensures.refused why (c.in-Err.is ∙ ap (λ e. Err e) is) files seen_is).1)),
    )

pub returns-in-Err-clause-of_session : goal.returns-in-Err-clause-of_session
returns-in-Err-clause-of_session g c = unopened_session c.in-Err.status _ _ _ _ _ _ c.in-Err.ensures.unopened.1

pub returns-in-Err-clause-store : goal.returns-in-Err-clause-store
returns-in-Err-clause-store g c = record {
  begun = λ begun. absurd (not_begun c.in-Err.status c.in-Err.ensures.unopened.0 begun);
  untouched = λ is. (refl, refl);
  unopened = λ is. c.open_store.ensures.any_moment;
  silent = c.in-Err.ensures.silent;
  refused = λ why is. (said_why c.in-Err.status _ _ _ _ _ _ c.in-Err.ensures.unopened.1 why is, c.open_store.ensures.refused why (c.in-Err.is ∙ ap (λ e. Err e) is));
}

pub returns-in-Err-clause-cause : goal.returns-in-Err-clause-cause
returns-in-Err-clause-cause g c =
    let closed = c.in-Err.ensures.unopened in
    record {
      by_bytes = some_bytes _ c.in-Err.status closed.0;
      by_link = unopened_link c.in-Err.status _ _ _ _ closed.0;
      by_disk = (unopened_serve c.in-Err.status _ _ _ _ _ _ closed.1).1;
      by_spawner = unopened_spawner c.in-Err.status _ _ closed.0;
    }

pub returns-in-Err-clause-outside : goal.returns-in-Err-clause-outside
returns-in-Err-clause-outside g c =
    let d = g.D.Disk in
    let new = c.open_store.new.disk in
    record {
      no_child_left = (c.requires.begin.outside.idle, c.requires.begin.outside.free);
      rest = ready_unopened c.in-Err.status _ _ _ _ _ _ _ _ c.in-Err.ensures.unopened.1
          (λ why is knows. ready_refused d.seen d.may_leave d.moment d.left_since c.args.disk.now new why knows (c.open_store.ensures.refused why (c.in-Err.is ∙ ap (λ e. Err e) is)) c.open_store.ensures.any_moment (g.met.D.Disk.counts_now new) (g.met.D.Disk.seen_is_left new));
      stays = (g.met.S.Source.source_same _, c.open_store.ensures.stays);
      rule = (refl, refl);
    }
