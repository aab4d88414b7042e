-- A part is read, and what is held is poured.
use Rattle.std.proofs.Common.{◌+◌, ◌≤◌, ◌++◌, length, take, drop, sym, ap, subst, ◌∙◌}
use Rattle.mt_disk.specs.Files.{contents}
use Rattle.mt_draft.proofs.Buts.{but_self}
use Rattle.mt_draft.proofs.Pouring.{keeps_joins, open_read, open_reads, pours_grew, pours_leave, pours_open}
use Rattle.mt_draft.proofs.Pours.{begun_with}
use Rattle.mt_draft.specs.Drafts.{other_of}
use Rattle.mt_draft.proofs.draft.Draft.add_part.Goals as goal

pub hold_part-requires-clause-within : goal.hold_part-requires-clause-within
hold_part-requires-clause-within g c files is = subst (λ f. c.args.at + c.args.count ≤ length (contents files f)) (sym c.file.ensures) (c.requires.within files is)

pub pour-requires : goal.pour-requires
pour-requires g c = record {
  at = λ files is.
      let stays = c.in_ok-hold_part.ensures.keeps in
      (begun_with files c.args.log.now c.args.self.now c.hold_part.new.self (c.requires.draft files (sym c.hold_part.ensures.read.seen_same ∙ is)).begun stays.0 stays.1).size;
}

pub returns-in_err-hold_part-clause-any_moment : goal.returns-in_err-hold_part-clause-any_moment
returns-in_err-hold_part-clause-any_moment g c files is =
    let d = g.D.Disk in
    open_reads d.seen d.may_leave d.moment d.left_since _ _ c.args.log.now c.args.self.now files c.hold_part.ensures.read (g.met.D.Disk.only_now c.args.disk.now) (c.requires.draft files is)

pub returns-in_err-pour-clause-any_moment : goal.returns-in_err-pour-clause-any_moment
returns-in_err-pour-clause-any_moment g c files is =
    let d = g.D.Disk in
    let log = c.args.log.now in
    let was = c.args.self.now in
    let read = c.hold_part.ensures.read in
    let stays = c.in_ok-hold_part.ensures.keeps in
    keeps_joins d.seen d.may_leave d.moment d.left_since _ _ _ log.file files files (but_self (other_of log.file) files)
    (open_reads d.seen d.may_leave d.moment d.left_since _ _ log was files read (g.met.D.Disk.only_now c.args.disk.now) (c.requires.draft files is))
    (pours_leave d.seen d.may_leave d.moment d.left_since _ _ log was c.hold_part.new.self c.pour.new.self (open_read d.seen d.may_leave d.moment d.left_since _ _ log was read c.requires.draft) stays.0 stays.1 c.pour.ensures.images files (read.seen_same ∙ is))

pub returns-clause-any_moment : goal.returns-clause-any_moment
returns-clause-any_moment g c files is =
    let d = g.D.Disk in
    let log = c.args.log.now in
    let was = c.args.self.now in
    let read = c.hold_part.ensures.read in
    let stays = c.in_ok-hold_part.ensures.keeps in
    keeps_joins d.seen d.may_leave d.moment d.left_since _ _ _ log.file files files (but_self (other_of log.file) files)
    (open_reads d.seen d.may_leave d.moment d.left_since _ _ log was files read (g.met.D.Disk.only_now c.args.disk.now) (c.requires.draft files is))
    (pours_leave d.seen d.may_leave d.moment d.left_since _ _ log was c.hold_part.new.self c.pour.new.self (open_read d.seen d.may_leave d.moment d.left_since _ _ log was read c.requires.draft) stays.0 stays.1 c.pour.ensures.images files (read.seen_same ∙ is))

pub returns-clause-draft : goal.returns-clause-draft
returns-clause-draft g c =
    let d = g.D.Disk in
    let log = c.args.log.now in
    let was = c.args.self.now in
    let stays = c.in_ok-hold_part.ensures.keeps in
    pours_open d.seen d.may_leave d.moment d.left_since _ _ log was c.hold_part.new.self c.pour.new.self (open_read d.seen d.may_leave d.moment d.left_since _ _ log was c.hold_part.ensures.read c.requires.draft) stays.0 stays.1
    c.pour.ensures.images (g.met.D.Disk.counts_now c.pour.new.disk) c.in_ok-pour.ensures.poured c.pour.ensures.told

pub returns-clause-grew : goal.returns-clause-grew
returns-clause-grew g c files is now now_is =
    let d = g.D.Disk in
    let log = c.args.log.now in
    let was = c.args.self.now in
    let read = c.hold_part.ensures.read in
    let stays = c.in_ok-hold_part.ensures.keeps in
    let held = c.in_ok-hold_part.ensures.held files is ∙ ap (λ f. was.held ++ take c.args.count (drop c.args.at (contents files f))) c.file.ensures in
    pours_grew d.seen d.may_leave d.moment d.left_since _ _ log was c.hold_part.new.self c.pour.new.self (open_read d.seen d.may_leave d.moment d.left_since _ _ log was read c.requires.draft) stays.0 stays.1
    c.pour.ensures.images (g.met.D.Disk.counts_now c.pour.new.disk) c.in_ok-pour.ensures.poured files (read.seen_same ∙ is) now now_is _ held
