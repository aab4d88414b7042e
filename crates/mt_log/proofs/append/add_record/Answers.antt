-- The record is staged behind the closed gate, and then published.
use Rattle.std.proofs.Common.{◌≡◌, ◌∷◌, [], ◌++◌, ◌+◌, List, length, ℕ, Some, true, ap, subst, ◌∙◌}
use Rattle.std.proofs.lemmas.Result.{on_ok_weaker}
use Rattle.std.specs.Result.{result_unwrap_or}
use Rattle.mt_disk.proofs.Moments.{followed, leaves_now, ran, weakens}
use Rattle.mt_log.specs.LogImage.{IsBeforeOrAfter}
use Rattle.mt_log.specs.LogState.{Tells}
use Rattle.mt_log.specs.Stage.{KeepsFront, changed, staged}
use Rattle.mt_log.proofs.Added.{before_or_after_of, front_is_before, front_same_list, front_swap}
use Rattle.mt_log.proofs.Others.{others_changed, others_on, some_changed}
use Rattle.mt_log.proofs.Staged.{staged_files, staged_laid}
use Rattle.mt_log.proofs.Told.{before}
use Rattle.mt_log.proofs.append.add_record.Goals as goal

pub returns-in_err-stage-clause-any_moment : goal.returns-in_err-stage-clause-any_moment
returns-in_err-stage-clause-any_moment g c files is =
    let d = g.D.Disk in
    let log = (c.requires.stands files is).1 in
    weakens d.moment d.left_since _ _ _ (IsBeforeOrAfter files (c.args.payload.now ∷ [])) (front_is_before files c.args.file c.args.gate log.0 log.1 (c.args.payload.now ∷ [])) (c.stage.ensures.any_moment files is)

pub publish-requires : goal.publish-requires
publish-requires g c = record {
  front = λ now is f left.
      let d = g.D.Disk in
      let from = before _ _ c.args.file (λ bytes. staged bytes c.args.gate c.args.payload.now) now c.in_ok-stage.ensures.staged is in
      let kept = leaves_now d.moment d.left_since d.may_leave _ _ (KeepsFront from.files c.args.file c.args.gate) (c.stage.ensures.any_moment from.files from.was) (g.met.D.Disk.counts_now c.stage.new.disk) in
      front_swap from.files now c.args.file c.args.gate (kept now (g.met.D.Disk.seen_is_left c.stage.new.disk now is)) f (kept f left);
}

pub returns-clause-any_moment : goal.returns-clause-any_moment
returns-clause-any_moment g c files is =
    let d = g.D.Disk in
    let file = c.args.file in
    let gate = c.args.gate in
    let p = c.args.payload.now in
    let log = (c.requires.stands files is).1 in
    let K = KeepsFront files file gate in
    let seen3 : d.seen c.stage.new.disk ≡ Some (staged_files files file gate p) = c.in_ok-stage.ensures.staged ∙ ap (λ s. changed file (λ bytes. staged bytes gate p) s) is in
    let so_far = ran d.moment d.left_since d.may_leave _ _ K (c.stage.ensures.any_moment files is) (g.met.D.Disk.counts_now c.stage.new.disk) in
    let kept = so_far.now (staged_files files file gate p) (g.met.D.Disk.seen_is_left c.stage.new.disk _ seen3) in
    let laid = staged_laid files file gate log.0 p log.1 c.requires.payload kept in
    (followed d.moment d.left_since d.may_leave _ _ _ K K (IsBeforeOrAfter (staged_files files file gate p) (p ∷ [])) (IsBeforeOrAfter files (p ∷ [])) so_far
    (c.publish.ensures.any_moment _ seen3 _ log.0 (p ∷ []) laid) (g.met.D.Disk.counts_now c.publish.new.disk)
    (front_is_before files file gate log.0 log.1 (p ∷ []))
    (before_or_after_of files (staged_files files file gate p) (p ∷ []) (front_same_list files file gate log.0 log.1 _ kept))).run

pub returns-clause-added : goal.returns-clause-added
returns-clause-added g c = on_ok_weaker c.publish.result (λ added files is old log.
    let d = g.D.Disk in
    let file = c.args.file in
    let gate = c.args.gate in
    let p = c.args.payload.now in
    let K = KeepsFront files file gate in
    let seen3 : d.seen c.stage.new.disk ≡ Some (staged_files files file gate p) = c.in_ok-stage.ensures.staged ∙ ap (λ s. changed file (λ bytes. staged bytes gate p) s) is in
    let kept = leaves_now d.moment d.left_since d.may_leave _ _ K (c.stage.ensures.any_moment files is) (g.met.D.Disk.counts_now c.stage.new.disk) (staged_files files file gate p) (g.met.D.Disk.seen_is_left c.stage.new.disk _ seen3) in
    let laid = staged_laid files file gate old p log c.requires.payload kept in
    let list = ap (λ r. result_unwrap_or r []) (front_same_list files file gate old log _ kept true) in
    subst (λ (ps : List (List ℕ)). Tells d.seen d.may_leave c.publish.new.disk file (gate + 21 + length p) old (ps ++ p ∷ [])) list (added _ seen3 _ old (p ∷ []) laid)) c.publish.ensures.added

pub returns-clause-others : goal.returns-clause-others
returns-clause-others g c = on_ok_weaker c.publish.result (λ others.
    let bytes = λ (l : List ℕ). staged l c.args.gate c.args.payload.now in
    others_on c.args.file _ _ _ (some_changed c.args.file bytes _ _ c.in_ok-stage.ensures.staged) (others_changed c.args.file bytes _ _ c.in_ok-stage.ensures.staged) others) c.publish.ensures.others
