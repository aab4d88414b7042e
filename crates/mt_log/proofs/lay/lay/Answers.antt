-- The first record of a run has no gate of its own yet.
use Rattle.std.proofs.Common.{◌+◌, ℕ, List, length, ap, arith, ◌∙◌}
use Rattle.mt_disk.specs.Files.{contents, overwritten}
use Rattle.mt_disk.proofs.Moments.{leaves_now}
use Rattle.mt_log.specs.Stage.{KeepsFront}
use Rattle.mt_log.proofs.Laying.{laid_first, laid_next, next_within}
use Rattle.mt_log.proofs.Others.{others_changed}
use Rattle.mt_log.proofs.Told.{before}
use Rattle.mt_log.proofs.lay.lay.Goals as goal

pub write_behind-requires-else-next-gate-clause-within : goal.write_behind-requires-else-next-gate-clause-within
write_behind-requires-else-next-gate-clause-within g c files is =
    let run = c.requires.laying files is in
    next_within files c.args.file c.args.gate c.args.next run.0 run.1 run.2 (omega (arith, c.requires.order, c.if-next-gate.false))

pub returns-in_ok-write_behind-clause-taken : goal.returns-in_ok-write_behind-clause-taken
returns-in_ok-write_behind-clause-taken g c old records laying now is =
    let d = g.D.Disk in
    let file = c.args.file in
    let gate = c.args.gate in
    let p = c.args.payload.now in
    let h = c.head_bytes.result in
    let from = before _ _ file (λ bytes. overwritten (overwritten bytes (gate + 1) h) (gate + 1 + length h) p) now c.in_ok-write_behind.ensures.written is in
    let kept = leaves_now d.moment d.left_since d.may_leave _ _ (KeepsFront from.files file gate) (c.write_behind.ensures.any_moment from.files from.was) (g.met.D.Disk.counts_now c.write_behind.new.disk) now (g.met.D.Disk.seen_is_left c.write_behind.new.disk now is) in
    laid_first from.files file gate c.args.next old records (laying from.files from.was) p now c.if-next-gate.true c.requires.payload kept
    (from.now ∙ ap (λ (l : List ℕ). overwritten (overwritten (contents from.files file) (gate + 1) l) (gate + 1 + length l) p) c.head_bytes.ensures)

pub returns-in_ok-write_behind-2-clause-taken : goal.returns-in_ok-write_behind-2-clause-taken
returns-in_ok-write_behind-2-clause-taken g c old records laying now is =
    let d = g.D.Disk in
    let file = c.args.file in
    let gate = c.args.gate in
    let next = c.args.next in
    let p = c.args.payload.now in
    let h = c.open_head.result in
    let disk = c.write_behind-else-next-gate.new.disk in
    let from = before _ _ file (λ bytes. overwritten (overwritten bytes next h) (next + length h) p) now c.in_ok-write_behind-2.ensures.written is in
    let kept = leaves_now d.moment d.left_since d.may_leave _ _ (KeepsFront from.files file gate) (c.write_behind-else-next-gate.ensures.any_moment from.files from.was) (g.met.D.Disk.counts_now disk) now (g.met.D.Disk.seen_is_left disk now is) in
    laid_next from.files file gate next old records (laying from.files from.was) p now (omega (arith, c.requires.order, c.if-next-gate.false)) c.requires.payload kept
    (from.now ∙ ap (λ (l : List ℕ). overwritten (overwritten (contents from.files file) next l) (next + length l) p) c.open_head.ensures)

pub returns-in_ok-write_behind-clause-others : goal.returns-in_ok-write_behind-clause-others
returns-in_ok-write_behind-clause-others g c = others_changed c.args.file (λ (l : List ℕ). overwritten (overwritten l (c.args.gate + 1) c.head_bytes.result) (c.args.gate + 1 + length c.head_bytes.result) c.args.payload.now) _ _ c.in_ok-write_behind.ensures.written

pub returns-in_ok-write_behind-2-clause-others : goal.returns-in_ok-write_behind-2-clause-others
returns-in_ok-write_behind-2-clause-others g c = others_changed c.args.file (λ (l : List ℕ). overwritten (overwritten l c.args.next c.open_head.result) (c.args.next + length c.open_head.result) c.args.payload.now) _ _ c.in_ok-write_behind-2.ensures.written
