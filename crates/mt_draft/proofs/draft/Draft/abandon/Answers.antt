-- The other file is emptied, and the log stays.
use Rattle.std.specs.Prelude.{OnOk}
use Rattle.std.proofs.Common.{◌≡◌, ap, sym, subst, ◌∙◌, option_map}
use Rattle.mt_disk.specs.CrashModel.{LeavesOnly}
use Rattle.mt_disk.proofs.Moments.{weakens}
use Rattle.mt_log.specs.LogImage.{SameLog}
use Rattle.mt_draft.specs.Drafts.{KeepsBut, KeepsLog, other_of}
use Rattle.mt_draft.specs.Steps.{with_none}
use Rattle.mt_draft.proofs.Kept.{kept_log}
use Rattle.mt_draft.proofs.draft.Draft.abandon.Goals as goal

pub empty-requires : goal.empty-requires
empty-requires g c = record {
  images = λ files is f left. subst (λ x. KeepsBut x files f) (sym (c.other-file.ensures ∙ ap other_of c.file.ensures)) ((c.requires.firm files is).images f left);
}

pub returns-clause-emptied : goal.returns-clause-emptied
returns-clause-emptied g c =
    let d = g.D.Disk in
    subst (λ f. OnOk c.empty.result (d.seen c.empty.new.disk ≡ option_map (with_none f) (d.seen c.args.disk.now))) (c.other-file.ensures ∙ ap other_of c.file.ensures) c.empty.ensures.emptied

pub returns-clause-any_moment : goal.returns-clause-any_moment
returns-clause-any_moment g c files is =
    let d = g.D.Disk in
    let log = c.args.log.now in
    let at = c.requires.firm files is in
    let run = subst (λ f. LeavesOnly d.moment d.left_since c.args.disk.now c.empty.new.disk (KeepsBut f files)) (c.other-file.ensures ∙ ap other_of c.file.ensures) (c.empty.ensures.any_moment files is) in
    weakens d.moment d.left_since _ _ (KeepsLog files log.file) (SameLog files) (kept_log files log.file at.log_is.is_chosen at.firm) run
