use Rattle.std.proofs.Common.{[], ◌∷◌, ◌++◌, ap, subst, ◌∙◌}
use Rattle.mt_log.specs.LogImage.{IsLogOf, payloads_of}
use Rattle.mt_log.specs.LogState.{LogState, told}
use Rattle.mt_log.proofs.Running.{run_leaves}
use Rattle.mt_log.proofs.Told.{mapped_some}
use Rattle.mt_engine.proofs.Runs.{same_tells}
use Rattle.mt_engine.proofs.publish.publish.Goals as goal

pub returns-in-Ok-clause-any_moment : goal.returns-in-Ok-clause-any_moment
returns-in-Ok-clause-any_moment g c files is records taken =
    let d = g.D.Disk in
    let e = c.in-Ok.ensures in
    let all = records ++ c.args.payload.now ∷ [] in
    let mid = mapped_some payloads_of (d.seen c.add_to_run.new.disk) (payloads_of files) (e.same ∙ ap told is) in
    let laid = e.taken records taken in
    let there = subst (λ (l : LogState). IsLogOf mid.0 l.file l.gate l.is_old) e.place.2 (laid mid.0 mid.1).log in
    run_leaves d.seen d.may_leave d.moment d.left_since c.args.disk.now c.add_to_run.new.disk c.end_log_run.new.disk files mid.0 c.args.log.now all (taken files is).log there mid.2
    (c.add_to_run.ensures.any_moment c.requires.is_open files is) (c.end_log_run.ensures.any_moment mid.0 mid.1 all laid)

pub returns-in-Ok-clause-told : goal.returns-in-Ok-clause-told
returns-in-Ok-clause-told g c done =
    let d = g.D.Disk in
    c.end_log_run.ensures.told done ∙ same_tells (d.seen c.args.disk.now) (d.seen c.add_to_run.new.disk) c.in-Ok.ensures.same
