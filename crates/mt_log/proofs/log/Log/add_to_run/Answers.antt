-- A record more behind the closed gate leaves the list as it was.
use Rattle.std.proofs.Common.{◌+◌, ◌++◌, ◌∷◌, [], length, ap, arith, subst, sym, ◌∙◌}
use Rattle.std.proofs.lemmas.Option.{same_Some}
use Rattle.mt_disk.specs.Files.{Files}
use Rattle.mt_disk.specs.CrashModel.{LeavesOnly}
use Rattle.mt_log.specs.LogState.{LogState, OthersStay}
use Rattle.mt_log.specs.RunState.{RunState}
use Rattle.mt_log.specs.Stage.{KeepsFront, Laying}
use Rattle.mt_log.proofs.Running.{run_before, run_end, run_idle, run_list, running_on, told_same}
use Rattle.mt_log.proofs.Told.{some_of}
use Rattle.mt_log.proofs.log.Log.add_to_run.Goals as goal

pub lay-requires-clause-front : goal.lay-requires-clause-front
lay-requires-clause-front g c files is f left =
    let is_open = sym (ap (λ (s : LogState). s.closed) c.self.view_is) ∙ c.if-self.false in
    subst (λ (s : LogState). KeepsFront files s.file s.gate f) (sym c.self.view_is) ((c.requires.running is_open files is).images f left)

pub lay-requires-clause-laying : goal.lay-requires-clause-laying
lay-requires-clause-laying g c files is =
    let is_open = sym (ap (λ (s : LogState). s.closed) c.self.view_is) ∙ c.if-self.false in
    let running = c.requires.running is_open files is in (
      c.self.inside.is_old,
      running.records,
      subst (λ (r : RunState). Laying files c.self.inside.file c.self.inside.gate r.next c.self.inside.is_old running.records) (sym c.run.view_is)
          (subst (λ (s : LogState). Laying files s.file s.gate c.args.run.now.next s.is_old running.records) (sym c.self.view_is) running.laying),
    )

pub returns-in-Ok-clause-taken : goal.returns-in-Ok-clause-taken
returns-in-Ok-clause-taken g c records had files is =
    subst (λ (s : LogState). Laying files s.file s.gate (c.run.inside.next + 21 + length c.args.payload.now) s.is_old (records ++ c.args.payload.now ∷ [])) c.self.view_is
    (c.in-Ok.ensures.taken c.self.inside.is_old records
    (λ f was. subst (λ (r : RunState). Laying f c.self.inside.file c.self.inside.gate r.next c.self.inside.is_old records) (sym c.run.view_is)
    (subst (λ (s : LogState). Laying f s.file s.gate c.args.run.now.next s.is_old records) (sym c.self.view_is) (had f was)))
    files is)

pub returns-in-Ok-clause-running : goal.returns-in-Ok-clause-running
returns-in-Ok-clause-running g c is_open files is =
    let d = g.D.Disk in
    let was = some_of (d.seen c.args.disk.now) (d.seen c.lay.new.disk) files c.in-Ok.ensures.told is in
    let running = c.requires.running is_open was.0 was.1 in
    let any = subst (λ (s : LogState). LeavesOnly d.moment d.left_since c.args.disk.now c.lay.new.disk (KeepsFront was.0 s.file s.gate)) c.self.view_is (c.lay.ensures.any_moment was.0 was.1) in
    running_on d.seen d.may_leave d.moment d.left_since _ _ was.0 files c.args.self.now _ (running.records ++ c.args.payload.now ∷ []) any (g.met.D.Disk.counts_now c.lay.new.disk) (g.met.D.Disk.seen_is_left c.lay.new.disk files is)
    (returns-in-Ok-clause-taken g c running.records (λ f at. subst (λ (x : Files). Laying x c.args.self.now.file c.args.self.now.gate c.args.run.now.next c.args.self.now.is_old running.records) (same_Some _ _ (sym was.1 ∙ at)) running.laying) files is)
    (omega (arith, c.requires.order is_open, ap (λ (r : RunState). r.next) c.run.view_is))

pub returns-in-Ok-clause-any_moment : goal.returns-in-Ok-clause-any_moment
returns-in-Ok-clause-any_moment g c is_open files is =
    let d = g.D.Disk in
    let any = subst (λ (s : LogState). LeavesOnly d.moment d.left_since c.args.disk.now c.lay.new.disk (KeepsFront files s.file s.gate)) c.self.view_is (c.lay.ensures.any_moment files is) in
    run_before d.seen d.may_leave d.moment d.left_since _ _ files c.args.self.now c.args.run.now [] (c.requires.running is_open files is) any

pub returns-in-Err-clause-any_moment : goal.returns-in-Err-clause-any_moment
returns-in-Err-clause-any_moment g c is_open files is =
    let d = g.D.Disk in
    let any = subst (λ (s : LogState). LeavesOnly d.moment d.left_since c.args.disk.now c.lay.new.disk (KeepsFront files s.file s.gate)) c.self.view_is (c.lay.ensures.any_moment files is) in
    run_before d.seen d.may_leave d.moment d.left_since _ _ files c.args.self.now c.args.run.now [] (c.requires.running is_open files is) any

pub returns-in-Ok-clause-same : goal.returns-in-Ok-clause-same
returns-in-Ok-clause-same g c =
    let d = g.D.Disk in
    let is_open = sym (ap (λ (s : LogState). s.closed) c.self.view_is) ∙ c.if-self.false in
    told_same (d.seen c.args.disk.now) (d.seen c.lay.new.disk) c.in-Ok.ensures.told (λ files now was is.
    let any = subst (λ (s : LogState). LeavesOnly d.moment d.left_since c.args.disk.now c.lay.new.disk (KeepsFront files s.file s.gate)) c.self.view_is (c.lay.ensures.any_moment files was) in
    run_list d.seen d.may_leave d.moment d.left_since _ _ files now c.args.self.now c.args.run.now (c.requires.running is_open files was) any (g.met.D.Disk.counts_now c.lay.new.disk) (g.met.D.Disk.seen_is_left c.lay.new.disk now is))

pub returns-then-not-has_room_in_run-clause-any_moment : goal.returns-then-not-has_room_in_run-clause-any_moment
returns-then-not-has_room_in_run-clause-any_moment g c is_open files is =
    let d = g.D.Disk in
    run_idle d.seen d.may_leave d.moment d.left_since c.args.disk.now files c.args.self.now c.args.run.now [] (c.requires.running is_open files is) (g.met.D.Disk.only_now c.args.disk.now)

pub returns-in-Ok-clause-at_end : goal.returns-in-Ok-clause-at_end
returns-in-Ok-clause-at_end g c ps is records had =
    ap (λ (r : RunState). r.next) c.run.view_is ∙ run_end (g.D.Disk.seen c.args.disk.now) c.args.self.now c.args.run.now ps records is had

pub returns-in-Ok-clause-others : goal.returns-in-Ok-clause-others
returns-in-Ok-clause-others g c =
    let d = g.D.Disk in
    subst (λ (s : LogState). OthersStay s.file (d.seen c.args.disk.now) (d.seen c.lay.new.disk)) c.self.view_is c.in-Ok.ensures.others
