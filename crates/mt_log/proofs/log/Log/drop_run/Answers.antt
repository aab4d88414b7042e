-- What was written behind the closed gate is put on the disk, where nothing reads it.
use Rattle.std.proofs.Common.{◌≡◌, [], ap, subst, sym, ◌∙◌}
use Rattle.std.proofs.lemmas.Option.{MatchOption-at_some}
use Rattle.mt_disk.specs.Files.{Files, contents, with_contents}
use Rattle.mt_disk.proofs.FileLemmas.{with-contents}
use Rattle.mt_log.specs.LogState.{LogState}
use Rattle.mt_log.specs.RunState.{RunState}
use Rattle.mt_log.proofs.Running.{run_idle, run_synced}
use Rattle.mt_log.proofs.log.Log.drop_run.Goals as goal

pub returns-then-run-self-clause-stands : goal.returns-then-run-self-clause-stands
returns-then-run-self-clause-stands g c is_open files is =
    let running = c.requires.running is_open files is in
    (running.rest (sym (ap (λ (r : RunState). r.next) c.run.view_is) ∙ c.if-run-self.true ∙ ap (λ (s : LogState). s.gate) c.self.view_is), running.laying.log)

pub returns-then-run-self-clause-any_moment : goal.returns-then-run-self-clause-any_moment
returns-then-run-self-clause-any_moment g c is_open files is =
    let d = g.D.Disk in
    run_idle d.seen d.may_leave d.moment d.left_since c.args.disk.now files c.args.self.now c.args.run [] (c.requires.running is_open files is) (g.met.D.Disk.only_now c.args.disk.now)

pub returns-in-Ok-clause-stands : goal.returns-in-Ok-clause-stands
returns-in-Ok-clause-stands g c is_open files is =
    let d = g.D.Disk in
    let was = sym c.sync.ensures.seen ∙ is in
    let running = c.requires.running is_open files was in
    let durable = subst (λ (s : LogState). (f : Files) → d.may_leave c.sync.new.self f → contents f s.file ≡ contents files s.file) c.self.view_is (MatchOption-at_some _ _ _ was c.in-Ok.ensures.durable) in (
      λ f left. (running.images f (c.sync.ensures.crash f left)).others ∙ ap (with_contents files c.args.self.now.file) (durable f left) ∙ with-contents files c.args.self.now.file,
      running.laying.log,
    )

pub returns-in-Ok-clause-any_moment : goal.returns-in-Ok-clause-any_moment
returns-in-Ok-clause-any_moment g c is_open files is =
    let d = g.D.Disk in
    run_synced d.seen d.may_leave d.moment d.left_since c.args.disk.now _ files c.args.self.now c.args.run (c.requires.running is_open files is) (g.met.D.Disk.only_now c.args.disk.now) c.sync.ensures.crash c.sync.ensures.time

pub returns-in-Err-clause-any_moment : goal.returns-in-Err-clause-any_moment
returns-in-Err-clause-any_moment g c is_open files is =
    let d = g.D.Disk in
    run_synced d.seen d.may_leave d.moment d.left_since c.args.disk.now _ files c.args.self.now c.args.run (c.requires.running is_open files is) (g.met.D.Disk.only_now c.args.disk.now) c.sync.ensures.crash c.sync.ensures.time
