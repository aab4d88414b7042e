-- So many bytes from a place on are these records of the log.
use Rattle.std.proofs.Common.{ℕ, List, take, ap, subst, ◌∙◌}
use Rattle.mt_disk.specs.Files.{contents}
use Rattle.mt_log.specs.LogImage.{payloads_of}
use Rattle.mt_log.specs.LogState.{told}
use Rattle.mt_log.specs.Places.{from_place}
use Rattle.mt_log.proofs.Told.{some_of}
use Rattle.mt_draft.specs.Steps.{Grew}
use Rattle.mt_draft.proofs.Copied.{are_records}
use Rattle.mt_draft.proofs.Drafted.{drafted_more, drafted_told, drafting_open, next_end}
use Rattle.mt_draft.proofs.Pouring.{firm_after, firm_open, keeps_same, open_started}
use Rattle.mt_draft.proofs.draft.Draft.copy.Goals as goal

pub add_bytes-requires-clause-draft : goal.add_bytes-requires-clause-draft
add_bytes-requires-clause-draft g c = let d = g.D.Disk in drafting_open d.seen d.may_leave _ c.args.log.now c.args.self.now c.requires.drafting

pub add_bytes-requires-clause-within : goal.add_bytes-requires-clause-within
add_bytes-requires-clause-within g c files is some =
    let log = c.args.log.now in
    let begun = (c.requires.drafting files is).0.1.begun in
    let whole = c.requires.whole (payloads_of files) (ap told is) in
    (are_records log.is_old (contents files log.file) log.gate (payloads_of files) begun.log_is.holds c.args.from whole.0 c.args.size whole.1).within some

pub returns-then-not-has_room-clause-any_moment : goal.returns-then-not-has_room-clause-any_moment
returns-then-not-has_room-clause-any_moment g c files is =
    let d = g.D.Disk in
    let was = c.args.self.now in
    let at = drafting_open d.seen d.may_leave _ c.args.log.now was c.requires.drafting files is in
    keeps_same d.seen d.may_leave d.moment d.left_since _ _ c.args.log.now was files at.begun (open_started d.seen d.may_leave d.moment d.left_since _ c.args.log.now was files (g.met.D.Disk.only_now c.args.disk.now) at)

pub returns-in_err-add_bytes-clause-any_moment : goal.returns-in_err-add_bytes-clause-any_moment
returns-in_err-add_bytes-clause-any_moment g c files is =
    let d = g.D.Disk in
    keeps_same d.seen d.may_leave d.moment d.left_since _ _ c.args.log.now c.args.self.now files (c.requires.drafting files is).0.1.begun (c.add_bytes.ensures.any_moment files is)

pub returns-clause-any_moment : goal.returns-clause-any_moment
returns-clause-any_moment g c files is =
    let d = g.D.Disk in
    keeps_same d.seen d.may_leave d.moment d.left_since _ _ c.args.log.now c.args.self.now files (c.requires.drafting files is).0.1.begun (c.add_bytes.ensures.any_moment files is)

pub returns-clause-taken : goal.returns-clause-taken
returns-clause-taken g c files is qs k drafted size_is now now_is =
    let log = c.args.log.now in
    let was = c.args.self.now in
    let new = c.add_bytes.new.self in
    let are = are_records log.is_old (contents files log.file) log.gate (payloads_of files) drafted.begun.log_is.holds c.args.from k c.args.size size_is in
    drafted_more files now log was new qs (take k (from_place c.args.from (payloads_of files))) drafted (c.in_ok-add_bytes.ensures.draft now now_is).begun are.each
    (subst (λ (l : List ℕ). Grew files now log was new l) are.bytes_are (c.in_ok-add_bytes.ensures.grew files is now now_is))

pub returns-clause-drafting : goal.returns-clause-drafting
returns-clause-drafting g c now now_is =
    let d = g.D.Disk in
    let from = some_of (d.seen c.args.disk.now) (d.seen c.add_bytes.new.disk) now c.add_bytes.ensures.told now_is in
    let drafted = (c.requires.drafting from.0 from.1).0 in
    let whole = c.requires.whole (payloads_of from.0) (ap told from.1) in
    ((_, returns-clause-taken g c from.0 from.1 drafted.0 whole.0 drafted.1 whole.1 now now_is), (c.in_ok-add_bytes.ensures.draft now now_is).images)

pub returns-clause-same : goal.returns-clause-same
returns-clause-same g c =
    let d = g.D.Disk in
    drafted_told d.seen d.may_leave _ _ c.args.log.now c.args.self.now c.requires.drafting c.add_bytes.ensures.told (λ files is now now_is. (c.in_ok-add_bytes.ensures.grew files is now now_is).others)

pub returns-clause-at_end : goal.returns-clause-at_end
returns-clause-at_end g c files is qs drafted = c.next-place.ensures ∙ next_end files c.args.log.now c.args.self.now qs drafted

pub returns-then-not-has_room-clause-firm : goal.returns-then-not-has_room-clause-firm
returns-then-not-has_room-clause-firm g c =
    let d = g.D.Disk in
    firm_open d.seen d.may_leave d.moment d.left_since _ c.args.log.now c.args.self.now (drafting_open d.seen d.may_leave _ c.args.log.now c.args.self.now c.requires.drafting)

pub returns-in_err-add_bytes-clause-firm : goal.returns-in_err-add_bytes-clause-firm
returns-in_err-add_bytes-clause-firm g c =
    let d = g.D.Disk in
    let log = c.args.log.now in
    firm_after d.seen d.may_leave d.moment d.left_since _ _ log (firm_open d.seen d.may_leave d.moment d.left_since _ log c.args.self.now (drafting_open d.seen d.may_leave _ log c.args.self.now c.requires.drafting))
    c.add_bytes.ensures.told c.add_bytes.ensures.any_moment (g.met.D.Disk.counts_now c.add_bytes.new.disk) (g.met.D.Disk.seen_is_left c.add_bytes.new.disk)

pub returns-clause-firm : goal.returns-clause-firm
returns-clause-firm g c =
    let d = g.D.Disk in
    let log = c.args.log.now in
    firm_after d.seen d.may_leave d.moment d.left_since _ _ log (firm_open d.seen d.may_leave d.moment d.left_since _ log c.args.self.now (drafting_open d.seen d.may_leave _ log c.args.self.now c.requires.drafting))
    c.add_bytes.ensures.told c.add_bytes.ensures.any_moment (g.met.D.Disk.counts_now c.add_bytes.new.disk) (g.met.D.Disk.seen_is_left c.add_bytes.new.disk)
