-- A run without a record is ended by nothing; another is finished.
use Rattle.std.proofs.Common.{◌≡◌, [], ℕ, List, refl, ap, subst, sym, ◌∙◌}
use Rattle.std.proofs.lemmas.Option.{same_Some}
use Rattle.std.specs.Result.{result_unwrap_or}
use Rattle.mt_disk.specs.Files.{Files}
use Rattle.mt_disk.specs.CrashModel.{Only}
use Rattle.mt_log.specs.LogImage.{IsLogOf, payloads_of}
use Rattle.mt_log.specs.LogState.{LogState, OthersStay}
use Rattle.mt_log.specs.RunState.{RunState}
use Rattle.mt_log.specs.Stage.{KeepsFront, Laying}
use Rattle.mt_log.proofs.Others.{others_same}
use Rattle.mt_log.proofs.Running.{run_idle, told_more, told_none}
use Rattle.mt_log.proofs.Told.{some_of}
use Rattle.mt_log.proofs.log.Log.end_run.Goals as goal

pub returns-then-next-self-clause-added : goal.returns-then-next-self-clause-added
returns-then-next-self-clause-added g c records had =
    told_none (g.D.Disk.seen c.args.disk.now) c.args.self.now c.args.run records
    (sym (ap (λ (r : RunState). r.next) c.run.view_is) ∙ c.if-next-self.true ∙ ap (λ (s : LogState). s.gate) c.self.view_is) had

pub returns-then-next-self-clause-stands : goal.returns-then-next-self-clause-stands
returns-then-next-self-clause-stands g c is_open files is =
    let running = c.requires.running is_open files is in
    (running.rest (sym (ap (λ (r : RunState). r.next) c.run.view_is) ∙ c.if-next-self.true ∙ ap (λ (s : LogState). s.gate) c.self.view_is), running.laying.log)

pub returns-then-next-self-clause-any_moment : goal.returns-then-next-self-clause-any_moment
returns-then-next-self-clause-any_moment g c is_open files is records laying =
    let d = g.D.Disk in
    run_idle d.seen d.may_leave d.moment d.left_since c.args.disk.now files c.args.self.now c.args.run records (c.requires.running is_open files is) (g.met.D.Disk.only_now c.args.disk.now)

pub finish-requires-clause-front : goal.finish-requires-clause-front
finish-requires-clause-front g c files is f left =
    let is_open = sym (ap (λ (s : LogState). s.closed) c.self.view_is) ∙ c.if-self.false in
    subst (λ (s : LogState). KeepsFront files s.file s.gate f) (sym c.self.view_is) ((c.requires.running is_open files is).images f left)

pub finish-requires-clause-laying : goal.finish-requires-clause-laying
finish-requires-clause-laying g c files is =
    let is_open = sym (ap (λ (s : LogState). s.closed) c.self.view_is) ∙ c.if-self.false in
    let running = c.requires.running is_open files is in (
      c.self.inside.is_old,
      running.records,
      subst (λ (r : RunState). Laying files c.self.inside.file c.self.inside.gate r.next c.self.inside.is_old running.records) (sym c.run.view_is)
          (subst (λ (s : LogState). Laying files s.file s.gate c.args.run.next s.is_old running.records) (sym c.self.view_is) running.laying),
    )

inside : (files : Files) (log log' : LogState) (run run' : RunState) (records : List (List ℕ)) → log ≡ log' → run ≡ run' → Laying files log'.file log'.gate run'.next log'.is_old records → Laying files log.file log.gate run.next log.is_old records
inside files log log' run run' records same_log same_run laying =
    subst (λ (r : RunState). Laying files log.file log.gate r.next log.is_old records) (sym same_run) (subst (λ (s : LogState). Laying files s.file s.gate run'.next s.is_old records) (sym same_log) laying)

pub returns-in-Ok-clause-added : goal.returns-in-Ok-clause-added
returns-in-Ok-clause-added g c records had =
    let d = g.D.Disk in
    told_more (d.seen c.args.disk.now) (d.seen c.finish.new.disk) records c.in-Ok.ensures.told (λ files now was is.
    let tells = c.in-Ok.ensures.added files was c.self.inside.is_old records (inside files _ _ _ _ records c.self.view_is c.run.view_is (had files was)) in
    ap (λ f. payloads_of f) (same_Some _ _ (sym is ∙ tells.seen_is)) ∙ ap (λ r. result_unwrap_or r []) tells.is)

pub returns-in-Ok-clause-stands : goal.returns-in-Ok-clause-stands
returns-in-Ok-clause-stands g c is_open files is =
    let d = g.D.Disk in
    let was = some_of (d.seen c.args.disk.now) (d.seen c.finish.new.disk) files c.in-Ok.ensures.told is in
    let open_before = sym (ap (λ (s : LogState). s.closed) c.self.view_is) ∙ c.if-self.false in
    let running = c.requires.running open_before was.0 was.1 in
    let tells = c.in-Ok.ensures.added was.0 was.1 c.self.inside.is_old running.records (inside was.0 _ _ _ _ running.records c.self.view_is c.run.view_is running.laying) in
    let same = same_Some _ _ (sym tells.seen_is ∙ is) in
    (subst (λ f. Only f (d.may_leave c.finish.new.disk)) same tells.durable, subst (λ f. IsLogOf f c.self.inside.file c.run.inside.next c.self.inside.is_old) same tells.log)

pub returns-in-Ok-clause-any_moment : goal.returns-in-Ok-clause-any_moment
returns-in-Ok-clause-any_moment g c is_open files is records laying =
    c.finish.ensures.any_moment files is c.self.inside.is_old records (inside files _ _ _ _ records c.self.view_is c.run.view_is laying)

pub returns-in-Err-clause-any_moment : goal.returns-in-Err-clause-any_moment
returns-in-Err-clause-any_moment g c is_open files is records laying =
    c.finish.ensures.any_moment files is c.self.inside.is_old records (inside files _ _ _ _ records c.self.view_is c.run.view_is laying)

pub returns-then-next-self-clause-others : goal.returns-then-next-self-clause-others
returns-then-next-self-clause-others g c = others_same c.args.self.now.file (g.D.Disk.seen c.args.disk.now) (g.D.Disk.seen c.args.disk.now) refl

pub returns-in-Ok-clause-others : goal.returns-in-Ok-clause-others
returns-in-Ok-clause-others g c =
    let d = g.D.Disk in
    subst (λ (s : LogState). OthersStay s.file (d.seen c.args.disk.now) (d.seen c.finish.new.disk)) c.self.view_is c.in-Ok.ensures.others
