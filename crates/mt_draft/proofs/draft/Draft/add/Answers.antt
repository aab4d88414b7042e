-- The record is held, and what is held is poured.
use Rattle.std.proofs.Common.{[], ◌∷◌, ◌++◌, ap, ◌∙◌, arith, length-append}
use Rattle.mt_log.specs.LogImage.{head_of, record_of}
use Rattle.mt_log.proofs.Records.{length-head_of}
use Rattle.mt_log.proofs.Told.{some_of}
use Rattle.mt_draft.specs.Drafts.{DraftState, next_of}
use Rattle.mt_draft.proofs.Drafted.{drafted_more, drafted_told, drafting_open, grew_record, next_end}
use Rattle.mt_draft.proofs.Pouring.{firm_after, firm_open, keeps_same, open_started, pours_grew, pours_leave, pours_open}
use Rattle.mt_draft.proofs.Pours.{begun_with}
use Rattle.mt_draft.proofs.draft.Draft.add.Goals as goal

pub pour-requires : goal.pour-requires
pour-requires g c = record {
  at = λ files is.
      let d = g.D.Disk in
      let was = c.args.self.now in
      let held = c.in_ok-hold.ensures.held in
      (begun_with files c.args.log.now was c.hold.new.self (drafting_open d.seen d.may_leave _ c.args.log.now was c.requires.drafting files is).begun (ap (λ (s : DraftState). s.file) held) (ap (λ (s : DraftState). s.written) held)).size;
}

pub returns-then-not-has_room-clause-any_moment : goal.returns-then-not-has_room-clause-any_moment
returns-then-not-has_room-clause-any_moment g c files is =
    let d = g.D.Disk in
    let was = c.args.self.now in
    let at = drafting_open d.seen d.may_leave _ c.args.log.now was c.requires.drafting files is in
    keeps_same d.seen d.may_leave d.moment d.left_since _ _ c.args.log.now was files at.begun (open_started d.seen d.may_leave d.moment d.left_since _ c.args.log.now was files (g.met.D.Disk.only_now c.args.disk.now) at)

pub returns-in_err-hold-clause-any_moment : goal.returns-in_err-hold-clause-any_moment
returns-in_err-hold-clause-any_moment g c files is =
    let d = g.D.Disk in
    let was = c.args.self.now in
    let at = drafting_open d.seen d.may_leave _ c.args.log.now was c.requires.drafting files is in
    keeps_same d.seen d.may_leave d.moment d.left_since _ _ c.args.log.now was files at.begun (open_started d.seen d.may_leave d.moment d.left_since _ c.args.log.now was files (g.met.D.Disk.only_now c.args.disk.now) at)

pub returns-in_err-pour-clause-any_moment : goal.returns-in_err-pour-clause-any_moment
returns-in_err-pour-clause-any_moment g c files is =
    let d = g.D.Disk in
    let was = c.args.self.now in
    let held = c.in_ok-hold.ensures.held in
    let opened = drafting_open d.seen d.may_leave _ c.args.log.now was c.requires.drafting in
    keeps_same d.seen d.may_leave d.moment d.left_since _ _ c.args.log.now was files (opened files is).begun
    (pours_leave d.seen d.may_leave d.moment d.left_since _ _ c.args.log.now was c.hold.new.self c.pour.new.self opened (ap (λ (s : DraftState). s.file) held) (ap (λ (s : DraftState). s.written) held) c.pour.ensures.images files is)

pub returns-clause-any_moment : goal.returns-clause-any_moment
returns-clause-any_moment g c files is =
    let d = g.D.Disk in
    let was = c.args.self.now in
    let held = c.in_ok-hold.ensures.held in
    let opened = drafting_open d.seen d.may_leave _ c.args.log.now was c.requires.drafting in
    keeps_same d.seen d.may_leave d.moment d.left_since _ _ c.args.log.now was files (opened files is).begun
    (pours_leave d.seen d.may_leave d.moment d.left_since _ _ c.args.log.now was c.hold.new.self c.pour.new.self opened (ap (λ (s : DraftState). s.file) held) (ap (λ (s : DraftState). s.written) held) c.pour.ensures.images files is)

pub returns-clause-taken : goal.returns-clause-taken
returns-clause-taken g c files is qs drafted now now_is =
    let d = g.D.Disk in
    let log = c.args.log.now in
    let was = c.args.self.now in
    let new = c.pour.new.self in
    let p = c.args.payload.now in
    let held = c.in_ok-hold.ensures.held in
    let file_is = ap (λ (s : DraftState). s.file) held in
    let written_is = ap (λ (s : DraftState). s.written) held in
    let opened = drafting_open d.seen d.may_leave _ log was c.requires.drafting in
    let counts_now = g.met.D.Disk.counts_now c.pour.new.disk in
    let grew = pours_grew d.seen d.may_leave d.moment d.left_since _ _ log was c.hold.new.self new opened file_is written_is c.pour.ensures.images counts_now c.in_ok-pour.ensures.poured files is now now_is (record_of p) (ap (λ (s : DraftState). s.held) held) in
    let after = pours_open d.seen d.may_leave d.moment d.left_since _ _ log was c.hold.new.self new opened file_is written_is c.pour.ensures.images counts_now c.in_ok-pour.ensures.poured c.pour.ensures.told now now_is in
    drafted_more files now log was new qs (p ∷ []) drafted after.begun (c.requires.payload, tt) (grew_record files now log was new p grew)

pub returns-clause-drafting : goal.returns-clause-drafting
returns-clause-drafting g c now now_is =
    let d = g.D.Disk in
    let log = c.args.log.now in
    let was = c.args.self.now in
    let held = c.in_ok-hold.ensures.held in
    let from = some_of (d.seen c.args.disk.now) (d.seen c.pour.new.disk) now c.pour.ensures.told now_is in
    let drafted = (c.requires.drafting from.0 from.1).0 in
    let after = pours_open d.seen d.may_leave d.moment d.left_since _ _ log was c.hold.new.self c.pour.new.self (drafting_open d.seen d.may_leave _ log was c.requires.drafting) (ap (λ (s : DraftState). s.file) held) (ap (λ (s : DraftState). s.written) held)
    c.pour.ensures.images (g.met.D.Disk.counts_now c.pour.new.disk) c.in_ok-pour.ensures.poured c.pour.ensures.told now now_is in
    ((drafted.0 ++ c.args.payload.now ∷ [], returns-clause-taken g c from.0 from.1 drafted.0 drafted.1 now now_is), after.images)

pub returns-clause-same : goal.returns-clause-same
returns-clause-same g c =
    let d = g.D.Disk in
    let log = c.args.log.now in
    let was = c.args.self.now in
    let held = c.in_ok-hold.ensures.held in
    drafted_told d.seen d.may_leave _ _ log was c.requires.drafting c.pour.ensures.told (λ files is now now_is.
    (pours_grew d.seen d.may_leave d.moment d.left_since _ _ log was c.hold.new.self c.pour.new.self (drafting_open d.seen d.may_leave _ log was c.requires.drafting) (ap (λ (s : DraftState). s.file) held) (ap (λ (s : DraftState). s.written) held)
    c.pour.ensures.images (g.met.D.Disk.counts_now c.pour.new.disk) c.in_ok-pour.ensures.poured files is now now_is (record_of c.args.payload.now) (ap (λ (s : DraftState). s.held) held)).others)

pub returns-clause-at_end : goal.returns-clause-at_end
returns-clause-at_end g c files is qs drafted = c.next-place.ensures ∙ next_end files c.args.log.now c.args.self.now qs drafted

pub returns-clause-next : goal.returns-clause-next
returns-clause-next g c =
    let p = c.args.payload.now in
    let stays = c.in_ok-pour.ensures.keeps in
    let held = c.in_ok-hold.ensures.held in (
      omega (arith, stays.1, ap next_of held, length-append c.args.self.now.held (record_of p), length-append (head_of p) p, length-head_of p),
      stays.0 ∙ ap (λ (s : DraftState). s.limit) held,
    )

pub returns-then-not-has_room-clause-firm : goal.returns-then-not-has_room-clause-firm
returns-then-not-has_room-clause-firm g c =
    let d = g.D.Disk in
    firm_open d.seen d.may_leave d.moment d.left_since _ c.args.log.now c.args.self.now (drafting_open d.seen d.may_leave _ c.args.log.now c.args.self.now c.requires.drafting)

pub returns-in_err-hold-clause-firm : goal.returns-in_err-hold-clause-firm
returns-in_err-hold-clause-firm g c =
    let d = g.D.Disk in
    firm_open d.seen d.may_leave d.moment d.left_since _ c.args.log.now c.args.self.now (drafting_open d.seen d.may_leave _ c.args.log.now c.args.self.now c.requires.drafting)

pub returns-in_err-pour-clause-firm : goal.returns-in_err-pour-clause-firm
returns-in_err-pour-clause-firm g c =
    let d = g.D.Disk in
    let log = c.args.log.now in
    let was = c.args.self.now in
    let held = c.in_ok-hold.ensures.held in
    let opened = drafting_open d.seen d.may_leave _ log was c.requires.drafting in
    firm_after d.seen d.may_leave d.moment d.left_since _ _ log (firm_open d.seen d.may_leave d.moment d.left_since _ log was opened) c.pour.ensures.told
    (pours_leave d.seen d.may_leave d.moment d.left_since _ _ log was c.hold.new.self c.pour.new.self opened (ap (λ (s : DraftState). s.file) held) (ap (λ (s : DraftState). s.written) held) c.pour.ensures.images)
    (g.met.D.Disk.counts_now c.pour.new.disk) (g.met.D.Disk.seen_is_left c.pour.new.disk)

pub returns-clause-firm : goal.returns-clause-firm
returns-clause-firm g c =
    let d = g.D.Disk in
    let log = c.args.log.now in
    let was = c.args.self.now in
    let held = c.in_ok-hold.ensures.held in
    let opened = drafting_open d.seen d.may_leave _ log was c.requires.drafting in
    firm_after d.seen d.may_leave d.moment d.left_since _ _ log (firm_open d.seen d.may_leave d.moment d.left_since _ log was opened) c.pour.ensures.told
    (pours_leave d.seen d.may_leave d.moment d.left_since _ _ log was c.hold.new.self c.pour.new.self opened (ap (λ (s : DraftState). s.file) held) (ap (λ (s : DraftState). s.written) held) c.pour.ensures.images)
    (g.met.D.Disk.counts_now c.pour.new.disk) (g.met.D.Disk.seen_is_left c.pour.new.disk)
