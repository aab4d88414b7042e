-- Head names the log's file, and then the other file is emptied.
use Rattle.std.proofs.Common.{◌≡◌, Some, [], sym, ap, subst, ◌∙◌, option_map}
use Rattle.std.specs.Option.{ForSome}
use Rattle.mt_disk.specs.Files.{Files}
use Rattle.mt_disk.specs.CrashModel.{LeavesOnly}
use Rattle.mt_log.proofs.Told.{some_of, told_same}
use Rattle.mt_draft.specs.Drafts.{DraftState, IsDrafted, KeepsBut, other_of}
use Rattle.mt_draft.specs.Steps.{IsMended, with_none}
use Rattle.mt_draft.proofs.Kept.{same_list}
use Rattle.mt_draft.proofs.Mended.{rest_started}
use Rattle.mt_draft.proofs.Opened.{begins_drafted, begins_images, begins_leave, begins_same, first_draft}
use Rattle.mt_draft.proofs.Sealing.{mapped_tells}
use Rattle.mt_draft.proofs.opening.begin.Goals as goal

pub make_firm-requires-clause-rest : goal.make_firm-requires-clause-rest
make_firm-requires-clause-rest g c files is = (c.requires.stands c.requires.is_open files is).0

pub make_firm-requires-clause-chosen : goal.make_firm-requires-clause-chosen
make_firm-requires-clause-chosen g c files is = (c.requires.stands c.requires.is_open files is).1.is_chosen ∙ ap (λ f. Some f) (sym c.file-old.ensures)

pub returns-then-limit-lt-EMPTY_LEN-clause-any_moment : goal.returns-then-limit-lt-EMPTY_LEN-clause-any_moment
returns-then-limit-lt-EMPTY_LEN-clause-any_moment g c files is =
    let d = g.D.Disk in
    let at = c.requires.stands c.requires.is_open files is in
    rest_started d.seen d.may_leave d.moment d.left_since _ files c.args.log.now.file (g.met.D.Disk.only_now c.args.disk.now) at.0 at.1.is_chosen

pub returns-in_err-held-clause-any_moment : goal.returns-in_err-held-clause-any_moment
returns-in_err-held-clause-any_moment g c files is =
    let d = g.D.Disk in
    let at = c.requires.stands c.requires.is_open files is in
    rest_started d.seen d.may_leave d.moment d.left_since _ files c.args.log.now.file (g.met.D.Disk.only_now c.args.disk.now) at.0 at.1.is_chosen

pub returns-in_err-clear-clause-any_moment : goal.returns-in_err-clear-clause-any_moment
returns-in_err-clear-clause-any_moment g c files is =
    let d = g.D.Disk in
    let log = c.args.log.now in
    let file_is = c.file-old.ensures in
    let into_is = c.other-file.ensures ∙ ap other_of file_is in
    let stands = c.requires.stands c.requires.is_open in
    let mended : ForSome (d.seen c.args.disk.now) (λ files. IsMended d.seen d.may_leave c.make_firm.new.disk files log.file) = λ files is. subst (λ f. IsMended d.seen d.may_leave c.make_firm.new.disk files f) file_is (c.in_ok-make_firm.ensures.mended files is) in
    let run : (files : Files) → ((x : Files) → d.may_leave c.make_firm.new.disk x → KeepsBut (other_of log.file) files x) → LeavesOnly d.moment d.left_since c.make_firm.new.disk c.clear.new.disk (KeepsBut (other_of log.file) files) =
    λ files here. subst (λ f. LeavesOnly d.moment d.left_since c.make_firm.new.disk c.clear.new.disk (KeepsBut f files)) into_is (c.clear.ensures.images files (λ x left. subst (λ f. KeepsBut f files x) (sym into_is) (here x left))) in
    begins_leave d.seen d.may_leave d.moment d.left_since _ _ _ log stands mended run files is (c.make_firm.ensures.any_moment files is)

pub returns-clause-any_moment : goal.returns-clause-any_moment
returns-clause-any_moment g c files is =
    let d = g.D.Disk in
    let log = c.args.log.now in
    let file_is = c.file-old.ensures in
    let into_is = c.other-file.ensures ∙ ap other_of file_is in
    let stands = c.requires.stands c.requires.is_open in
    let mended : ForSome (d.seen c.args.disk.now) (λ files. IsMended d.seen d.may_leave c.make_firm.new.disk files log.file) = λ files is. subst (λ f. IsMended d.seen d.may_leave c.make_firm.new.disk files f) file_is (c.in_ok-make_firm.ensures.mended files is) in
    let run : (files : Files) → ((x : Files) → d.may_leave c.make_firm.new.disk x → KeepsBut (other_of log.file) files x) → LeavesOnly d.moment d.left_since c.make_firm.new.disk c.clear.new.disk (KeepsBut (other_of log.file) files) =
    λ files here. subst (λ f. LeavesOnly d.moment d.left_since c.make_firm.new.disk c.clear.new.disk (KeepsBut f files)) into_is (c.clear.ensures.images files (λ x left. subst (λ f. KeepsBut f files x) (sym into_is) (here x left))) in
    begins_leave d.seen d.may_leave d.moment d.left_since _ _ _ log stands mended run files is (c.make_firm.ensures.any_moment files is)

pub returns-clause-begun : goal.returns-clause-begun
returns-clause-begun g c now now_is =
    let d = g.D.Disk in
    let log = c.args.log.now in
    let file_is = c.file-old.ensures in
    let into_is = c.other-file.ensures ∙ ap other_of file_is in
    let stands = c.requires.stands c.requires.is_open in
    let mended : ForSome (d.seen c.args.disk.now) (λ files. IsMended d.seen d.may_leave c.make_firm.new.disk files log.file) = λ files is. subst (λ f. IsMended d.seen d.may_leave c.make_firm.new.disk files f) file_is (c.in_ok-make_firm.ensures.mended files is) in
    let run : (files : Files) → ((x : Files) → d.may_leave c.make_firm.new.disk x → KeepsBut (other_of log.file) files x) → LeavesOnly d.moment d.left_since c.make_firm.new.disk c.clear.new.disk (KeepsBut (other_of log.file) files) =
    λ files here. subst (λ f. LeavesOnly d.moment d.left_since c.make_firm.new.disk c.clear.new.disk (KeepsBut f files)) into_is (c.clear.ensures.images files (λ x left. subst (λ f. KeepsBut f files x) (sym into_is) (here x left))) in
    let cleared = c.in_ok-clear.ensures.cleared ∙ ap (λ f. option_map (with_none f) (d.seen c.make_firm.new.disk)) into_is in
    let tells = mapped_tells (with_none c.other-file.result) _ _ c.in_ok-clear.ensures.cleared ∙ c.in_ok-make_firm.ensures.told in
    let made : first_draft log c.args.limit ≡ record { file = c.other-file.result; written = 0; held = c.in_ok-held.held.items; limit = c.args.limit } = λ i. record { file = sym into_is i; written = 0; held = sym c.in_ok-held.ensures i; limit = c.args.limit } in
    let from = some_of (d.seen c.args.disk.now) (d.seen c.clear.new.disk) now tells now_is in
    subst (λ (s : DraftState). IsDrafted now log s []) made (begins_drafted d.seen d.may_leave d.moment d.left_since _ _ _ log stands mended run from.0 from.1 c.args.limit now cleared now_is)

pub returns-clause-drafting : goal.returns-clause-drafting
returns-clause-drafting g c now now_is =
    let d = g.D.Disk in
    let log = c.args.log.now in
    let file_is = c.file-old.ensures in
    let into_is = c.other-file.ensures ∙ ap other_of file_is in
    let stands = c.requires.stands c.requires.is_open in
    let mended : ForSome (d.seen c.args.disk.now) (λ files. IsMended d.seen d.may_leave c.make_firm.new.disk files log.file) = λ files is. subst (λ f. IsMended d.seen d.may_leave c.make_firm.new.disk files f) file_is (c.in_ok-make_firm.ensures.mended files is) in
    let run : (files : Files) → ((x : Files) → d.may_leave c.make_firm.new.disk x → KeepsBut (other_of log.file) files x) → LeavesOnly d.moment d.left_since c.make_firm.new.disk c.clear.new.disk (KeepsBut (other_of log.file) files) =
    λ files here. subst (λ f. LeavesOnly d.moment d.left_since c.make_firm.new.disk c.clear.new.disk (KeepsBut f files)) into_is (c.clear.ensures.images files (λ x left. subst (λ f. KeepsBut f files x) (sym into_is) (here x left))) in
    let cleared = c.in_ok-clear.ensures.cleared ∙ ap (λ f. option_map (with_none f) (d.seen c.make_firm.new.disk)) into_is in
    let tells = mapped_tells (with_none c.other-file.result) _ _ c.in_ok-clear.ensures.cleared ∙ c.in_ok-make_firm.ensures.told in
    let from = some_of (d.seen c.args.disk.now) (d.seen c.clear.new.disk) now tells now_is in
    (([], returns-clause-begun g c now now_is), begins_images d.seen d.may_leave d.moment d.left_since _ _ _ log stands mended run from.0 from.1 c.args.limit now cleared now_is (g.met.D.Disk.counts_now c.clear.new.disk))

pub returns-clause-same : goal.returns-clause-same
returns-clause-same g c =
    let d = g.D.Disk in
    let log = c.args.log.now in
    let file_is = c.file-old.ensures in
    let into_is = c.other-file.ensures ∙ ap other_of file_is in
    let stands = c.requires.stands c.requires.is_open in
    let mended : ForSome (d.seen c.args.disk.now) (λ files. IsMended d.seen d.may_leave c.make_firm.new.disk files log.file) = λ files is. subst (λ f. IsMended d.seen d.may_leave c.make_firm.new.disk files f) file_is (c.in_ok-make_firm.ensures.mended files is) in
    let run : (files : Files) → ((x : Files) → d.may_leave c.make_firm.new.disk x → KeepsBut (other_of log.file) files x) → LeavesOnly d.moment d.left_since c.make_firm.new.disk c.clear.new.disk (KeepsBut (other_of log.file) files) =
    λ files here. subst (λ f. LeavesOnly d.moment d.left_since c.make_firm.new.disk c.clear.new.disk (KeepsBut f files)) into_is (c.clear.ensures.images files (λ x left. subst (λ f. KeepsBut f files x) (sym into_is) (here x left))) in
    let cleared = c.in_ok-clear.ensures.cleared ∙ ap (λ f. option_map (with_none f) (d.seen c.make_firm.new.disk)) into_is in
    let tells = mapped_tells (with_none c.other-file.result) _ _ c.in_ok-clear.ensures.cleared ∙ c.in_ok-make_firm.ensures.told in
    told_same _ _ tells (λ files is.
    let after = some_of (d.seen c.clear.new.disk) (d.seen c.args.disk.now) files (sym tells) is in
    (after.0, after.1, same_list files after.0 (begins_same d.seen d.may_leave d.moment d.left_since _ _ _ log stands mended run files is c.args.limit after.0 cleared after.1)))

pub returns-clause-draft : goal.returns-clause-draft
returns-clause-draft g c =
    let into_is = c.other-file.ensures ∙ ap other_of c.file-old.ensures in
    λ i. record { file = into_is i; written = 0; held = c.in_ok-held.ensures i; limit = c.args.limit }
