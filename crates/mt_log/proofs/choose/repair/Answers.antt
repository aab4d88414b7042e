-- Whatever byte Head gets, the log is One.
use Rattle.std.proofs.Common.{◌≡◌, Some, ap, refl, subst, sym, ◌∙◌}
use Rattle.std.proofs.Common.{option_map}
use Rattle.mt_disk.proofs.Moments.{leaves_now, weakens}
use Rattle.mt_log.specs.LogImage.{SameLog, chosen_file}
use Rattle.mt_log.specs.Stage.{IsNaming, with_one_named}
use Rattle.mt_disk.specs.declared.disk.FileNo.TheVariants.{One}
use Rattle.mt_log.proofs.Made.{missing_log}
use Rattle.mt_log.proofs.Told.{mapped_some}
use Rattle.mt_log.proofs.choose.repair.Goals as goal

pub returns-in_err-name-clause-any_moment : goal.returns-in_err-name-clause-any_moment
returns-in_err-name-clause-any_moment g c files is =
    let d = g.D.Disk in
    weakens d.moment d.left_since _ _ (IsNaming files) (SameLog files) (missing_log files (c.requires.missing files is)) (c.name.ensures.any_moment files is)

pub returns-clause-any_moment : goal.returns-clause-any_moment
returns-clause-any_moment g c files is =
    let d = g.D.Disk in
    weakens d.moment d.left_since _ _ (IsNaming files) (SameLog files) (missing_log files (c.requires.missing files is)) (c.name.ensures.any_moment files is)

pub returns-clause-settled : goal.returns-clause-settled
returns-clause-settled g c files is =
    let d = g.D.Disk in
    let now = with_one_named files in
    let seen1 : d.seen c.name.new.disk ≡ Some now = c.in_ok-name.ensures.named ∙ ap (λ s. option_map with_one_named s) is in
    let same = leaves_now d.moment d.left_since d.may_leave _ _ (SameLog files) (returns-clause-any_moment g c files is) (g.met.D.Disk.counts_now c.name.new.disk) now (g.met.D.Disk.seen_is_left c.name.new.disk now seen1) in
    record { now = now; seen_is = seen1; durable = c.in_ok-name.ensures.rest now seen1; same = same; one_is = λ other. refl; two_is = refl }

pub returns-clause-chosen : goal.returns-clause-chosen
returns-clause-chosen g c files is =
    let from = mapped_some with_one_named (g.D.Disk.seen c.args.disk.now) files (sym c.in_ok-name.ensures.named ∙ is) in
    subst (λ f. chosen_file f ≡ Some One) from.2 refl
