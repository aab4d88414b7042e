use Rattle.std.proofs.Common.{◌≡◌, ◌∙◌, ap, sym, refl, subst, inl, inr, ℕ, List, Some, None}
use Rattle.std.specs.List.{find}
use Rattle.std.specs.Prelude.{option_map}
use Rattle.mt_types.specs.declared.body.Body.{Body}
use Rattle.mt_types.specs.declared.job.Job.{Job}
use Rattle.mt_model.specs.Tasks.{waits_finish}
use Rattle.mt_tasks.specs.Right.{IsRight}
use Rattle.mt_tasks.specs.Standing.{waiting}
use Rattle.mt_runner.specs.Attempts.{RunnerState}
use Rattle.mt_runner.specs.Attends.{Attends, Works, attempts_in, is_ready_now, ready_of, work_side}
use Rattle.mt_runner.specs.Moves.{MovesOn, end_of_job}
use Rattle.mt_runner.specs.declared.turn.Turn.{Turn}
use Rattle.mt_runner.proofs.Lists.{all_kept}
use Rattle.mt_runner.proofs.Lived.{lives_dropped, paired_kept}
use Rattle.mt_runner.proofs.Moved.{ends_at, moved_from, moved_job, rights_at}
use Rattle.mt_runner.proofs.Pairs.{are_of, are_paired, are_those}
use Rattle.mt_runner.proofs.Progressing.{progressed}
use Rattle.mt_runner.proofs.Stales.{counts_none}
use Rattle.mt_runner.proofs.Works.{attended, finished, left_ready}
use Rattle.mt_runner.proofs.runner.Runner.one_turn.Goals as goal

pub work-requires-clause-paired : goal.work-requires-clause-paired
work-requires-clause-paired g c = are_paired _ _ _ c.drop_stale.ensures.left

pub work-requires-clause-ready : goal.work-requires-clause-ready
work-requires-clause-ready g c = left_ready c.args.engine.now.state _ _ _ c.drop_stale.ensures.left

pub returns-in_default-clause-attends : goal.returns-in_default-clause-attends
returns-in_default-clause-attends g c =
    let p = g.P.Spawner in
    let d = g.D.Disk in
    let old = work_side c.args.self.now.kept (p.seen c.args.spawner.now) c.args.engine.now (d.faults c.args.disk.now) in
    let mid = work_side c.drop_stale.new.self.kept (p.seen c.drop_stale.new.spawner) c.args.engine.now (d.faults c.args.disk.now) in
    let new = work_side c.work.new.self.kept (p.seen c.work.new.spawner) c.work.new.engine (d.faults c.work.new.disk) in
    let none : waiting c.args.engine.now.state ≡ None = sym (c.in_default.ensures ∙ ap (λ (js : List (Job Body)). option_map (λ (j : Job Body). j.number) (find waits_finish js)) c.jobs.ensures.jobs) in
    attended c.args.self.now.slots c.args.now old mid c.work.result new c.drop_stale.ensures.left c.drop_stale.ensures.counts c.drop_stale.ensures.faults refl refl
    (inr (none, subst (λ (n : ℕ). Works n c.args.now (attempts_in mid) mid c.work.result new) c.drop_stale.ensures.slots c.work.ensures.works))

pub returns-in_default-clause-progress : goal.returns-in_default-clause-progress
returns-in_default-clause-progress g c =
    let p = g.P.Spawner in
    let d = g.D.Disk in
    let old = work_side c.args.self.now.kept (p.seen c.args.spawner.now) c.args.engine.now (d.faults c.args.disk.now) in
    let mid = work_side c.drop_stale.new.self.kept (p.seen c.drop_stale.new.spawner) c.args.engine.now (d.faults c.args.disk.now) in
    let new = work_side c.work.new.self.kept (p.seen c.work.new.spawner) c.work.new.engine (d.faults c.work.new.disk) in
    let none : waiting c.args.engine.now.state ≡ None = sym (c.in_default.ensures ∙ ap (λ (js : List (Job Body)). option_map (λ (j : Job Body). j.number) (find waits_finish js)) c.jobs.ensures.jobs) in
    progressed c.args.self.now.slots c.args.now old c.work.result new c.jobs.ensures.lawful c.requires.engine.is_open
    (attended c.args.self.now.slots c.args.now old mid c.work.result new c.drop_stale.ensures.left c.drop_stale.ensures.counts c.drop_stale.ensures.faults refl refl
    (inr (none, subst (λ (n : ℕ). Works n c.args.now (attempts_in mid) mid c.work.result new) c.drop_stale.ensures.slots c.work.ensures.works)))

pub returns-in_default-clause-moves : goal.returns-in_default-clause-moves
returns-in_default-clause-moves g c =
    let p = g.P.Spawner in
    let d = g.D.Disk in
    let old = work_side c.args.self.now.kept (p.seen c.args.spawner.now) c.args.engine.now (d.faults c.args.disk.now) in
    let mid = work_side c.drop_stale.new.self.kept (p.seen c.drop_stale.new.spawner) c.args.engine.now (d.faults c.args.disk.now) in
    let new = work_side c.work.new.self.kept (p.seen c.work.new.spawner) c.work.new.engine (d.faults c.work.new.disk) in
    moved_from d.seen d.moment d.left_since p.gives p.may _ _ _ _ c.args.now c.args.disk.now old mid c.work.result c.work.new.disk new c.drop_stale.ensures.rule c.drop_stale.ensures.login refl
    (λ s r. rights_at _ _ _ s (ready_of c.args.engine.now.state (attempts_in old)) (attempts_in mid) (are_those _ _ _ c.drop_stale.ensures.left) (all_kept (λ x. IsRight _ _ _ s x.task x.fate) (is_ready_now c.args.engine.now.state) (attempts_in old) r))
    (λ base h i r. lives_dropped c.args.self.now.login (p.gives (p.rule c.args.spawner.now)) (p.may (p.rule c.args.spawner.now)) (d.seen c.args.disk.now) old mid c.requires.paired c.drop_stale.ensures.left c.holds.ensures.tickets c.work.result base h i r)
    c.work.ensures.moves

pub returns-clause-attends : goal.returns-clause-attends
returns-clause-attends g c =
    let p = g.P.Spawner in
    let d = g.D.Disk in
    let e = c.close_job-end.ensures in
    let old = work_side c.args.self.now.kept (p.seen c.args.spawner.now) c.args.engine.now (d.faults c.args.disk.now) in
    let mid = work_side c.drop_stale.new.self.kept (p.seen c.drop_stale.new.spawner) c.args.engine.now (d.faults c.args.disk.now) in
    let new = work_side c.drop_stale.new.self.kept (p.seen c.drop_stale.new.spawner) c.close_job-end.new.engine (d.faults c.close_job-end.new.disk) in
    let some : waiting c.args.engine.now.state ≡ Some c.in-Some.job = sym (c.in-Some.ensures ∙ ap (λ (js : List (Job Body)). option_map (λ (j : Job Body). j.number) (find waits_finish js)) c.jobs.ensures.jobs) in
    subst (λ (turn : Turn). Attends c.args.self.now.slots c.args.now old turn new) (sym c.end_of_job.ensures)
    (attended c.args.self.now.slots c.args.now old mid (end_of_job c.in-Some.job c.close_job-end.result) new c.drop_stale.ensures.left c.drop_stale.ensures.counts c.drop_stale.ensures.faults refl refl
    (inl (
      c.in-Some.job,
      some,
      finished c.in-Some.job c.args.now (attempts_in mid) mid new c.close_job-end.result e.read
          (record { are = are_of _ _ (are_paired _ _ _ c.drop_stale.ensures.left); counts = counts_none (p.seen c.drop_stale.new.spawner) }) e.state e.disk,
    )))

pub returns-clause-progress : goal.returns-clause-progress
returns-clause-progress g c =
    let p = g.P.Spawner in
    let d = g.D.Disk in
    let e = c.close_job-end.ensures in
    let old = work_side c.args.self.now.kept (p.seen c.args.spawner.now) c.args.engine.now (d.faults c.args.disk.now) in
    let mid = work_side c.drop_stale.new.self.kept (p.seen c.drop_stale.new.spawner) c.args.engine.now (d.faults c.args.disk.now) in
    let new = work_side c.drop_stale.new.self.kept (p.seen c.drop_stale.new.spawner) c.close_job-end.new.engine (d.faults c.close_job-end.new.disk) in
    let some : waiting c.args.engine.now.state ≡ Some c.in-Some.job = sym (c.in-Some.ensures ∙ ap (λ (js : List (Job Body)). option_map (λ (j : Job Body). j.number) (find waits_finish js)) c.jobs.ensures.jobs) in
    progressed c.args.self.now.slots c.args.now old c.end_of_job.result new c.jobs.ensures.lawful c.requires.engine.is_open
    (subst (λ (turn : Turn). Attends c.args.self.now.slots c.args.now old turn new) (sym c.end_of_job.ensures)
    (attended c.args.self.now.slots c.args.now old mid (end_of_job c.in-Some.job c.close_job-end.result) new c.drop_stale.ensures.left c.drop_stale.ensures.counts c.drop_stale.ensures.faults refl refl
    (inl (
      c.in-Some.job,
      some,
      finished c.in-Some.job c.args.now (attempts_in mid) mid new c.close_job-end.result e.read
          (record { are = are_of _ _ (are_paired _ _ _ c.drop_stale.ensures.left); counts = counts_none (p.seen c.drop_stale.new.spawner) }) e.state e.disk,
    ))))

pub returns-clause-moves : goal.returns-clause-moves
returns-clause-moves g c =
    let p = g.P.Spawner in
    let d = g.D.Disk in
    let e = c.close_job-end.ensures in
    let old = work_side c.args.self.now.kept (p.seen c.args.spawner.now) c.args.engine.now (d.faults c.args.disk.now) in
    let new = work_side c.drop_stale.new.self.kept (p.seen c.drop_stale.new.spawner) c.close_job-end.new.engine (d.faults c.close_job-end.new.disk) in
    let some : waiting c.args.engine.now.state ≡ Some c.in-Some.job = sym (c.in-Some.ensures ∙ ap (λ (js : List (Job Body)). option_map (λ (j : Job Body). j.number) (find waits_finish js)) c.jobs.ensures.jobs) in
    let login : c.as_str-login.result.now ≡ c.args.self.now.login = c.as_str-login.ensures ∙ (ap (λ (r : RunnerState). r.login) c.self.view_is ∙ c.drop_stale.ensures.login) in
    subst (λ (turn : Turn). MovesOn d.seen d.moment d.left_since c.args.self.now.login (p.gives (p.rule c.args.spawner.now)) (p.may (p.rule c.args.spawner.now)) c.args.now c.args.disk.now old turn c.close_job-end.new.disk new)
    (sym c.end_of_job.ensures)
    (moved_job d.seen d.may_leave d.moment d.left_since _ _ _ c.args.now c.args.disk.now old c.in-Some.job c.close_job-end.result c.close_job-end.new.disk new c.jobs.ensures.lawful some e.read
    (λ base h r. rights_at _ _ _ _ (ready_of c.args.engine.now.state (attempts_in old)) (attempts_in new) (are_those _ _ _ c.drop_stale.ensures.left) (all_kept (λ x. IsRight _ _ _ _ x.task x.fate) (is_ready_now c.args.engine.now.state) (attempts_in old) r))
    (paired_kept _ _ (are_paired _ _ _ c.drop_stale.ensures.left))
    (λ base h i r. lives_dropped c.args.self.now.login (p.gives (p.rule c.args.spawner.now)) (p.may (p.rule c.args.spawner.now)) (d.seen c.args.disk.now) old new c.requires.paired c.drop_stale.ensures.left c.holds.ensures.tickets (end_of_job c.in-Some.job c.close_job-end.result) base h i r)
    (ends_at d.seen d.moment d.left_since _ _ c.in-Some.job c.args.now c.close_job-end.result c.args.disk.now c.args.engine.now c.close_job-end.new.disk c.close_job-end.new.engine login e.takes))

pub returns-clause-paired : goal.returns-clause-paired
returns-clause-paired g c = are_paired _ _ _ c.drop_stale.ensures.left
