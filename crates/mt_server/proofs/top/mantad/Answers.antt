-- The run, by its status.
use Rattle.std.proofs.Common.{◌≡◌, ◌⊎◌, ℕ, inl, inr, ap, subst, sym, ◌∙◌}
use Rattle.std.specs.Prelude.{IfSome, false, is_some, map, string_bytes}
use Rattle.mt_opening.specs.History.{HasHistory}
use Rattle.mt_connection.specs.Transcript.{setting}
use Rattle.mt_server.proofs.Complete.{SessionEnds, serve_ends, session_ends}
use Rattle.mt_server.proofs.Connecting.{is_stood}
use Rattle.mt_server.proofs.Done.{only_files, serve_done, session_done}
use Rattle.mt_server.proofs.Finishing.{finished_by}
use Rattle.mt_opening.proofs.Openings.{not_both}
use Rattle.mt_server.specs.Statuses.{ByBytes, IsAnswered, IsSilent, IsUnopened, code_of}
use Rattle.mt_server.specs.declared.status.Status.{Status}
use Rattle.mt_server.proofs.Settling.{ready_by}
use Rattle.mt_server.proofs.Tops.{IsServeNumber, all_links, asked_of, disk_rose, fewer_links, is_drained, is_many, is_no_link, is_refused, is_silent, is_truncated, is_unopened, is_unreadable, is_usage, not_usage, read_rose, serve_numbers, serve_silent, spawn_rose, unopened_numbers, write_rose}
use Rattle.mt_server.proofs.top.mantad.Goals as goal

pub run-requires-clause-outside : goal.run-requires-clause-outside
run-requires-clause-outside g c = record { rest = c.requires.rest; fit = c.requires.fit; idle = c.requires.idle; free = c.requires.free }

pub run-requires-clause-door : goal.run-requires-clause-door
run-requires-clause-door g c = record { back = c.requires.door; none_kept = c.requires.none_kept }

pub returns-clause-run : goal.returns-clause-run
returns-clause-run g c settings wants base h has = let x = c.run.ensures.session settings wants base h has in (c.run.result, c.code.ensures, x.0, x.1, x.2)

pub returns-clause-served : goal.returns-clause-served
returns-clause-served g c settings connections wants base h has = let x = c.run.ensures.serve settings connections wants base h has in (c.run.result, c.code.ensures, x.0, x.1, x.2)

pub returns-clause-early_usage : goal.returns-clause-early_usage
returns-clause-early_usage g c is = let u = c.run.ensures.usage (is_usage c.run.result (sym c.code.ensures ∙ is)) in (u.1, u.2, u.3, u.5)

pub returns-clause-early_unreadable : goal.returns-clause-early_unreadable
returns-clause-early_unreadable g c settings wants is =
    let end = is_unreadable c.run.result (sym c.code.ensures ∙ is) in
    let facts = c.run.ensures.store.refused end.0 end.1 in
    let kept = c.run.ensures.store.untouched (subst (λ (s : Status). IsUnopened s) (sym end.1) tt) in
    (kept.0, kept.1, (end.0, facts.0, facts.1))

-- what is refused can't be read, so nothing was begun
pub returns-clause-untouched : goal.returns-clause-untouched
returns-clause-untouched g c settings wants files seen_is why refused =
    let closed = is_unopened c.run.result (λ begun. not_both files why refused (c.run.ensures.store.begun begun files seen_is)) in
    let no_usage = not_usage (map string_bytes c.args.words.now) settings wants c.run.result (λ is. (c.run.ensures.usage is).0) in
    let kept = c.run.ensures.store.untouched closed in
    (kept.0, kept.1, kept.2, (λ no_line. c.run.ensures.store.silent (is_silent c.run.result closed no_usage (λ e. no_line (c.code.ensures ∙ e)))), c.run.ensures.store.unopened closed files seen_is)

pub returns-clause-outside : goal.returns-clause-outside
returns-clause-outside g c = let behind = c.run.ensures.outside in (behind.stays.0, behind.stays.1, behind.rule.0, behind.rule.1)

pub returns-clause-no_child_left : goal.returns-clause-no_child_left
returns-clause-no_child_left g c = c.run.ensures.outside.no_child_left

pub returns-clause-outside_session : goal.returns-clause-outside_session
returns-clause-outside_session g c settings wants = (c.run.ensures.of_session settings wants).1

pub returns-clause-outside_serve : goal.returns-clause-outside_serve
returns-clause-outside_serve g c settings connections wants =
    let of = c.run.ensures.of_serve settings connections wants in (
      of.1,
      (λ no_line. elim (serve_silent c.run.result of.0 (λ e. no_line (c.code.ensures ∙ e))) [ inl begun ↦ of.2 begun | inr silent ↦ c.run.ensures.store.silent silent ]),
    )

pub returns-clause-one : goal.returns-clause-one
returns-clause-one g c is = (c.run.ensures.usage (is_usage c.run.result (sym c.code.ensures ∙ is))).0

pub returns-clause-one_exactly : goal.returns-clause-one_exactly
returns-clause-one_exactly g c fault is =
    let facts = c.run.ensures.words fault is in (
      (elim facts.0 [ inl usage ↦ inl (c.code.ensures ∙ ap code_of usage) | inr memory ↦ inr (c.code.ensures ∙ ap code_of memory) ]),
      facts.1,
      facts.2,
      facts.3,
      (elim facts.0 [ inl usage ↦ inr (c.code.ensures ∙ ap code_of usage) | inr memory ↦ inl (c.run.ensures.store.silent (subst (λ (s : Status). IsSilent s) (sym memory) tt)) ]),
      facts.4,
    )

pub returns-clause-two_exactly : goal.returns-clause-two_exactly
returns-clause-two_exactly g c settings wants files seen_is why refused =
    let closed = is_unopened c.run.result (λ begun. not_both files why refused (c.run.ensures.store.begun begun files seen_is)) in
    let no_usage = not_usage (map string_bytes c.args.words.now) settings wants c.run.result (λ is. (c.run.ensures.usage is).0) in
    subst (λ (r : ℕ). (r ≡ 2) ⊎ (r ≡ 5) ⊎ (r ≡ 8)) (sym c.code.ensures) (unopened_numbers c.run.result closed no_usage)

pub returns-clause-three : goal.returns-clause-three
returns-clause-three g c is = read_rose c.run.result _ _ _ _ (sym c.code.ensures ∙ is) c.run.ensures.cause.by_link

pub returns-clause-four : goal.returns-clause-four
returns-clause-four g c is = write_rose c.run.result _ _ _ _ (sym c.code.ensures ∙ is) c.run.ensures.cause.by_link

pub returns-clause-five : goal.returns-clause-five
returns-clause-five g c is = disk_rose c.run.result _ _ (sym c.code.ensures ∙ is) c.run.ensures.cause.by_disk

pub returns-clause-of_serve : goal.returns-clause-of_serve
returns-clause-of_serve g c settings connections wants =
    subst (λ (r : ℕ). IsServeNumber r) (sym c.code.ensures) (serve_numbers c.run.result (c.run.ensures.of_serve settings connections wants).0)

pub returns-clause-ten : goal.returns-clause-ten
returns-clause-ten g c is =
    let end = is_no_link c.run.result (sym c.code.ensures ∙ is) in
    (c.run.ensures.no_link end, (λ settings connections wants. (fewer_links c.run.result _ _ _ _ _ end (c.run.ensures.by_door settings connections wants))))

pub returns-clause-links : goal.returns-clause-links
returns-clause-links g c settings connections wants is =
    all_links c.run.result (c.run.ensures.of_serve settings connections wants).0 (subst (λ (r : ℕ). IsAnswered r) c.code.ensures is) _ _ _ _ _ (c.run.ensures.by_door settings connections wants)

pub returns-clause-zero : goal.returns-clause-zero
returns-clause-zero g c settings wants is =
    let end = is_drained c.run.result (c.run.ensures.of_session settings wants).0 (subst (λ (r : ℕ). IsAnswered r) c.code.ensures is) in
    subst (λ (s : Status). IfSome (g.S.Source.left c.args.source.now) (λ bytes. ByBytes bytes s)) end.1 c.run.ensures.cause.by_bytes

pub returns-clause-six : goal.returns-clause-six
returns-clause-six g c is = spawn_rose c.run.result _ _ (sym c.code.ensures ∙ is) c.run.ensures.cause.by_spawner

-- a status of words or of a log comes before anything is started
pub returns-clause-started_nothing : goal.returns-clause-started_nothing
returns-clause-started_nothing g c is =
    elim is [
      | inl one ↦ let u = c.run.ensures.usage (is_usage c.run.result (sym c.code.ensures ∙ one)) in u.4
      | inr two ↦
          let end = is_unreadable c.run.result (sym c.code.ensures ∙ two) in
          (c.run.ensures.store.untouched (subst (λ (s : Status). IsUnopened s) (sym end.1) tt)).2
    ]

pub returns-clause-eleven : goal.returns-clause-eleven
returns-clause-eleven g c settings wants is = subst (λ (s : Status). IfSome (g.S.Source.left c.args.source.now) (λ bytes. ByBytes bytes s)) (is_truncated c.run.result (sym c.code.ensures ∙ is)) c.run.ensures.cause.by_bytes

pub returns-clause-twelve : goal.returns-clause-twelve
returns-clause-twelve g c settings wants is = subst (λ (s : Status). IfSome (g.S.Source.left c.args.source.now) (λ bytes. ByBytes bytes s)) (is_refused c.run.result (sym c.code.ensures ∙ is)) c.run.ensures.cause.by_bytes

pub returns-clause-thirteen : goal.returns-clause-thirteen
returns-clause-thirteen g c settings wants is = subst (λ (s : Status). IfSome (g.S.Source.left c.args.source.now) (λ bytes. ByBytes bytes s)) (is_many c.run.result (sym c.code.ensures ∙ is)) c.run.ensures.cause.by_bytes

pub returns-clause-by_bytes : goal.returns-clause-by_bytes
returns-clause-by_bytes g c settings wants = asked_of _ c.run.result _ c.code.ensures (c.run.ensures.of_session settings wants).0 c.run.ensures.cause.by_bytes

pub returns-clause-rest : goal.returns-clause-rest
returns-clause-rest g c no_fault no_want tells = ready_by c.run.result _ _ (λ e. no_fault (c.code.ensures ∙ e)) (λ e. no_want (c.code.ensures ∙ e)) (λ e. tells (c.code.ensures ∙ e)) c.run.ensures.outside.rest

-- ---- jobs

pub returns-clause-finished : goal.returns-clause-finished
returns-clause-finished g c settings wants files seen_is base h has earlier led before =
    let d = g.D.Disk in
    let p = g.P.Spawner in
    let k = g.C.Clock in
    let old = c.args.disk.now in
    let runs = p.gives (p.rule c.args.spawner.now) in
    let there = only_files (d.seen old) files (HasHistory base h) seen_is has in
    let stood = is_stood base h files has in
    let knows = ap is_some seen_is in
    elim wants [
      | inl session ↦
          let x = c.run.ensures.session settings session base h there in
          finished_by d.moment d.left_since old c.run.new.disk (setting (is_some (g.S.Source.left c.args.source.now)) (is_some (d.seen old)) (k.gives (k.rule c.args.clock.now)) runs settings.login settings.slots settings.log_limit base)
          h x.2.holds.added x.0 knows stood x.2.holds.grew x.2.holds.honest x.2.holds.crash_prefix earlier led before
      | inr serve ↦
          let x = c.run.ensures.serve settings serve.0 serve.1 base h there in
          finished_by d.moment d.left_since old c.run.new.disk (setting false (is_some (d.seen old)) (k.gives (k.rule c.args.clock.now)) runs settings.login settings.slots settings.log_limit base)
          h x.2.holds.added x.0 knows stood x.2.holds.grew x.2.holds.honest x.2.holds.crash_prefix earlier led before
    ]

pub returns-clause-zero_is_done : goal.returns-clause-zero_is_done
returns-clause-zero_is_done g c settings wants is files seen_is base h has image left m also =
    let d = g.D.Disk in
    let there = only_files (d.seen c.args.disk.now) files (HasHistory base h) seen_is has in
    let knows = ap is_some seen_is in
    elim wants [
      | inl session ↦
          let x = c.run.ensures.session settings session base h there in
          session_done _ _ c.run.result _ knows (sym c.code.ensures ∙ is) x.2 image left m also
      | inr serve ↦
          let x = c.run.ensures.serve settings serve.0 serve.1 base h there in
          serve_done _ _ _ _ _ c.run.result _ knows (sym c.code.ensures ∙ is) x.2 image left m also
    ]

pub returns-clause-session_complete : goal.returns-clause-session_complete
returns-clause-session_complete g c settings wants files seen_is readable no_read no_write no_disk =
    subst (λ (r : ℕ). SessionEnds (g.S.Source.left c.args.source.now) r) (sym c.code.ensures)
    (session_ends files readable _ _ _ _ _ _ _ no_read no_write no_disk c.run.result (c.run.ensures.of_session settings wants).0 (λ why is. ((c.run.ensures.store.refused why is).1 files seen_is).0) c.run.ensures.cause.by_link c.run.ensures.cause.by_disk c.run.ensures.cause.by_bytes)

pub returns-clause-serve_complete : goal.returns-clause-serve_complete
returns-clause-serve_complete g c settings connections wants files seen_is readable no_disk no_door =
    subst (λ (r : ℕ). IsAnswered r ⊎ (r ≡ 8) ⊎ (r ≡ 9)) (sym c.code.ensures)
    (serve_ends files readable _ _ _ _ _ _ _ no_disk no_door c.run.result (c.run.ensures.of_serve settings connections wants).0 (λ why is. ((c.run.ensures.store.refused why is).1 files seen_is).0) c.run.ensures.cause.by_disk (c.run.ensures.by_door settings connections wants))
