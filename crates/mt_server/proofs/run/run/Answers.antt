-- Nothing is done, or what the words ask for.
use Rattle.std.proofs.Common.{ℕ, refl, ap, subst, ◌∙◌, arith}
use Rattle.mt_runner.specs.Attempts.{RunnerState}
use Rattle.mt_settings.specs.declared.settings.Settings.{Settings}
use Rattle.mt_server.specs.Statuses.{ByDoor, IsOfServe}
use Rattle.mt_server.specs.declared.status.Status.{Status}
use Rattle.mt_server.specs.declared.status.Status.TheVariants as status
use Rattle.mt_server.proofs.Following.{passed_nothing}
use Rattle.mt_server.proofs.Opened.{opening_holds}
use Rattle.mt_server.proofs.Rest.{rest_same}
use Rattle.mt_server.proofs.Serves.{unserved_serve}
use Rattle.mt_server.proofs.Sessions.{unserved_run}
use Rattle.mt_server.proofs.Unopened.{serve_link, serve_some, some_bytes}
use Rattle.mt_server.proofs.Wanted.{same_number, same_settings}
use Rattle.mt_server.proofs.run.run.Goals as goal

pub session-requires : goal.session-requires
session-requires g c = record {
  begin = record {
    outside = c.requires.outside;
    same_login = ap (λ (r : RunnerState). r.login) c.in-Ok-new.ensures;
    nothing_kept = ap (λ (r : RunnerState). r.kept) c.in-Ok-new.ensures;
  };
}

pub serve-requires-clause-begin : goal.serve-requires-clause-begin
serve-requires-clause-begin g c = record {
  outside = c.requires.outside;
  same_login = ap (λ (r : RunnerState). r.login) c.in-Ok-new.ensures;
  nothing_kept = ap (λ (r : RunnerState). r.kept) c.in-Ok-new.ensures;
}

pub returns-in-Err-Usage-clause-store : goal.returns-in-Err-Usage-clause-store
returns-in-Err-Usage-clause-store g c =
    let d = g.D.Disk in
    record {
      begun = λ begun. absurd begun;
      untouched = λ closed. (refl, refl, refl);
      unopened = λ closed. rest_same d.seen d.may_leave d.moment d.left_since c.args.disk.now c.requires.outside.rest (g.met.D.Disk.only_now c.args.disk.now) c.requires.outside.fit;
      silent = λ silent. absurd silent;
      refused = λ why is. absurd (cc);
    }

pub returns-in-Err-Usage-clause-cause : goal.returns-in-Err-Usage-clause-cause
returns-in-Err-Usage-clause-cause g c = record { by_bytes = some_bytes _ status.Usage tt; by_link = tt; by_disk = tt; by_spawner = tt }

pub returns-in-Err-Usage-clause-outside : goal.returns-in-Err-Usage-clause-outside
returns-in-Err-Usage-clause-outside g c = record { no_child_left = (c.requires.outside.idle, c.requires.outside.free); rest = (c.requires.outside.rest, c.requires.outside.fit); stays = (g.met.S.Source.source_same _, c.say.ensures.stays); rule = (refl, refl) }

pub returns-in-Err-Memory-clause-store : goal.returns-in-Err-Memory-clause-store
returns-in-Err-Memory-clause-store g c =
    let d = g.D.Disk in
    record {
      begun = λ begun. absurd begun;
      untouched = λ closed. (refl, refl, refl);
      unopened = λ closed. rest_same d.seen d.may_leave d.moment d.left_since c.args.disk.now c.requires.outside.rest (g.met.D.Disk.only_now c.args.disk.now) c.requires.outside.fit;
      silent = λ silent. refl;
      refused = λ why is. absurd (cc);
    }

pub returns-in-Err-Memory-clause-cause : goal.returns-in-Err-Memory-clause-cause
returns-in-Err-Memory-clause-cause g c = record { by_bytes = some_bytes _ status.OutOfMemory tt; by_link = tt; by_disk = tt; by_spawner = tt }

pub returns-in-Err-Memory-clause-outside : goal.returns-in-Err-Memory-clause-outside
returns-in-Err-Memory-clause-outside g c = record { no_child_left = (c.requires.outside.idle, c.requires.outside.free); rest = tt; stays = (g.met.S.Source.source_same _, g.met.K.Sink.sink_same _); rule = (refl, refl) }

pub returns-in-Err-Memory-clause-session : goal.returns-in-Err-Memory-clause-session
returns-in-Err-Memory-clause-session g c settings wants base h has =
    let d = g.D.Disk in
    let disk = c.args.disk.now in
    let got = g.K.Sink.got c.args.sink.now in
    let w = g.K.Sink.write_faults c.args.sink.now in (
      h,
      _,
      unserved_run _ _ _ status.OutOfMemory tt (record { history = refl; used = refl; left = refl; ends = (refl, refl) })
          (opening_holds d.seen d.may_leave d.moment d.left_since disk disk (g.met.D.Disk.counts_now disk) (g.met.D.Disk.seen_is_left disk) _ h _ _ _ _ status.OutOfMemory got w got w refl has
          (rest_same d.seen d.may_leave d.moment d.left_since disk c.requires.outside.rest (g.met.D.Disk.only_now disk) c.requires.outside.fit) tt (refl, refl) (omega arith) (λ why is. absurd (cc))),
    )

pub returns-in-Err-Memory-clause-serve : goal.returns-in-Err-Memory-clause-serve
returns-in-Err-Memory-clause-serve g c settings connections wants base h has =
    let d = g.D.Disk in
    let disk = c.args.disk.now in
    let got = g.K.Sink.got c.args.sink.now in
    let w = g.K.Sink.write_faults c.args.sink.now in (
      h,
      _,
      unserved_serve _ _ _ _ _ _ status.OutOfMemory tt tt (passed_nothing _) refl refl
          (opening_holds d.seen d.may_leave d.moment d.left_since disk disk (g.met.D.Disk.counts_now disk) (g.met.D.Disk.seen_is_left disk) _ h _ _ _ _ status.OutOfMemory got w got w refl has
          (rest_same d.seen d.may_leave d.moment d.left_since disk c.requires.outside.rest (g.met.D.Disk.only_now disk) c.requires.outside.fit) tt (refl, refl) (omega arith) (λ why is. absurd (cc))),
    )

pub returns-in-Err-clause-store : goal.returns-in-Err-clause-store
returns-in-Err-clause-store g c =
    let d = g.D.Disk in
    record {
      begun = λ begun. absurd begun;
      untouched = λ closed. (refl, refl, refl);
      unopened = λ closed. rest_same d.seen d.may_leave d.moment d.left_since c.args.disk.now c.requires.outside.rest (g.met.D.Disk.only_now c.args.disk.now) c.requires.outside.fit;
      silent = λ silent. refl;
      refused = λ why is. absurd (cc);
    }

pub returns-in-Err-clause-cause : goal.returns-in-Err-clause-cause
returns-in-Err-clause-cause g c = record { by_bytes = some_bytes _ status.OutOfMemory tt; by_link = tt; by_disk = tt; by_spawner = tt }

pub returns-in-Err-clause-outside : goal.returns-in-Err-clause-outside
returns-in-Err-clause-outside g c = record { no_child_left = (c.requires.outside.idle, c.requires.outside.free); rest = tt; stays = (g.met.S.Source.source_same _, g.met.K.Sink.sink_same _); rule = (refl, refl) }

pub returns-in-Err-clause-session : goal.returns-in-Err-clause-session
returns-in-Err-clause-session g c settings wants base h has =
    let d = g.D.Disk in
    let disk = c.args.disk.now in
    let got = g.K.Sink.got c.args.sink.now in
    let w = g.K.Sink.write_faults c.args.sink.now in (
      h,
      _,
      unserved_run _ _ _ status.OutOfMemory tt (record { history = refl; used = refl; left = refl; ends = (refl, refl) })
          (opening_holds d.seen d.may_leave d.moment d.left_since disk disk (g.met.D.Disk.counts_now disk) (g.met.D.Disk.seen_is_left disk) _ h _ _ _ _ status.OutOfMemory got w got w refl has
          (rest_same d.seen d.may_leave d.moment d.left_since disk c.requires.outside.rest (g.met.D.Disk.only_now disk) c.requires.outside.fit) tt (refl, refl) (omega arith) (λ why is. absurd (cc))),
    )

pub returns-in-Err-clause-serve : goal.returns-in-Err-clause-serve
returns-in-Err-clause-serve g c settings connections wants base h has =
    let d = g.D.Disk in
    let disk = c.args.disk.now in
    let got = g.K.Sink.got c.args.sink.now in
    let w = g.K.Sink.write_faults c.args.sink.now in (
      h,
      _,
      unserved_serve _ _ _ _ _ _ status.OutOfMemory tt tt (passed_nothing _) refl refl
          (opening_holds d.seen d.may_leave d.moment d.left_since disk disk (g.met.D.Disk.counts_now disk) (g.met.D.Disk.seen_is_left disk) _ h _ _ _ _ status.OutOfMemory got w got w refl has
          (rest_same d.seen d.may_leave d.moment d.left_since disk c.requires.outside.rest (g.met.D.Disk.only_now disk) c.requires.outside.fit) tt (refl, refl) (omega arith) (λ why is. absurd (cc))),
    )

pub returns-clause-serve : goal.returns-clause-serve
returns-clause-serve g c settings connections wants base h has =
    let same = same_settings _ c.in-Ok.settings settings c.in-Ok.ensures.ok wants.1 in
    let number = same_number _ c.in-Ok.settings settings c.in-Serve.connections connections _ _ c.in-Ok.ensures.ok wants.1 c.in-Serve.is wants.2 in
    let slots = ap (λ (r : RunnerState). r.slots) c.in-Ok-new.ensures ∙ ap (λ (s : Settings). s.slots) same in
    rw (c.as_str-login.ensures ∙ ap (λ (s : Settings). s.login) same, slots, ap (λ (s : Settings). s.log_limit) same, number) at (c.serve.ensures.served base h has)

pub returns-in-Session-clause-session : goal.returns-in-Session-clause-session
returns-in-Session-clause-session g c settings wants base h has =
    let same = same_settings _ c.in-Ok.settings settings c.in-Ok.ensures.ok wants.0 in
    let slots = ap (λ (r : RunnerState). r.slots) c.in-Ok-new.ensures ∙ ap (λ (s : Settings). s.slots) same in
    rw (c.as_str-login.ensures ∙ ap (λ (s : Settings). s.login) same, slots, ap (λ (s : Settings). s.log_limit) same) at (c.session.ensures.run base h has)

-- ---- what a session says

pub returns-in-Session-clause-store : goal.returns-in-Session-clause-store
returns-in-Session-clause-store g c =
    let says = c.session.ensures.store in
    record {
      begun = says.begun;
      untouched = λ closed. (let kept = says.untouched closed in (kept.0, refl, kept.1));
      unopened = says.unopened;
      silent = says.silent;
      refused = says.refused;
    }

pub returns-in-Session-clause-cause : goal.returns-in-Session-clause-cause
returns-in-Session-clause-cause g c = c.session.ensures.cause

pub returns-in-Session-clause-outside : goal.returns-in-Session-clause-outside
returns-in-Session-clause-outside g c = c.session.ensures.outside

-- ---- what a serve says

pub returns-clause-of_serve : goal.returns-clause-of_serve
returns-clause-of_serve g c settings connections wants = (c.serve.ensures.of_serve.0, refl, c.serve.ensures.of_serve.1)

pub returns-clause-usage : goal.returns-clause-usage
returns-clause-usage g c is = absurd (subst (λ (s : Status). IsOfServe s) is c.serve.ensures.of_serve.0)

pub returns-clause-by_door : goal.returns-clause-by_door
returns-clause-by_door g c settings connections wants =
    let number = same_number _ c.in-Ok.settings settings c.in-Serve.connections connections _ _ c.in-Ok.ensures.ok wants.1 c.in-Serve.is wants.2 in
    subst (λ (n : ℕ). ByDoor c.serve.result n (g.W.Door.taken c.args.door.now) (g.W.Door.door_faults c.args.door.now) (g.W.Door.taken c.serve.new.door) (g.W.Door.door_faults c.serve.new.door)) number c.serve.ensures.cause.by_door

pub returns-clause-no_link : goal.returns-clause-no_link
returns-clause-no_link g c is = (subst (λ (s : Status). ByDoor s c.in-Serve.connections (g.W.Door.taken c.args.door.now) (g.W.Door.door_faults c.args.door.now) (g.W.Door.taken c.serve.new.door) (g.W.Door.door_faults c.serve.new.door)) is c.serve.ensures.cause.by_door).1

pub returns-clause-store : goal.returns-clause-store
returns-clause-store g c =
    let says = c.serve.ensures.store in
    record {
      begun = says.begun;
      untouched = λ closed. (let kept = says.untouched closed in (refl, kept.0, kept.1));
      unopened = says.unopened;
      silent = says.silent;
      refused = says.refused;
    }

pub returns-clause-cause : goal.returns-clause-cause
returns-clause-cause g c =
    let cause = c.serve.ensures.cause in
    let of = c.serve.ensures.of_serve.0 in
    record { by_bytes = serve_some _ c.serve.result of; by_link = serve_link c.serve.result _ _ _ _ of; by_disk = cause.by_disk; by_spawner = cause.by_spawner }

pub returns-clause-outside : goal.returns-clause-outside
returns-clause-outside g c =
    let behind = c.serve.ensures.outside in
    record { no_child_left = behind.no_child_left; rest = behind.rest; stays = (g.met.S.Source.source_same _, behind.stays); rule = behind.rule }
