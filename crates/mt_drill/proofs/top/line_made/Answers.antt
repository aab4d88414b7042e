-- A session, and then its line.
use Rattle.std.proofs.Common.{ℕ, subst}
use Rattle.std.proofs.lemmas.Result.{IfOk-weaker}
use Rattle.mt_server.proofs.Opened.{some_files}
use Rattle.mt_drill.specs.DrillLine.{IsLineOf}
use Rattle.mt_drill.proofs.Made.{fronts_later, history_later}
use Rattle.mt_drill.proofs.Behind.{rose_later}
use Rattle.mt_drill.proofs.top.line_made.Goals as goal

pub returns-clause-made : goal.returns-clause-made
returns-clause-made g c told =
    let d = g.D.Disk in
    let mid = c.serve_drill.new.disk in
    let s = c.in_ok-replies.ensures.served told in
    let still = c.in_ok-replies.ensures.tells told in
    let files = some_files (d.seen mid) still in
    let images = history_later d.seen d.may_leave d.moment d.left_since mid c.line_of.new.disk s.0 still s.4 (g.met.D.Disk.seen_is_left mid) c.line_of.ensures.any_moment (g.met.D.Disk.counts_now c.line_of.new.disk) in
    IfOk-weaker c.line_of.result _ _ (λ line tells. (s.0, s.1, s.3, subst (λ (n : ℕ). IsLineOf c.args.count n s.0 line.items) s.2 tells, images)) (c.line_of.ensures.tells files.0 files.1 s.0 (s.4 files.0 (g.met.D.Disk.seen_is_left mid files.0 files.1)))

pub returns-clause-any_moment : goal.returns-clause-any_moment
returns-clause-any_moment g c told =
    let d = g.D.Disk in
    let mid = c.serve_drill.new.disk in
    let s = c.in_ok-replies.ensures.served told in
    fronts_later d.seen d.may_leave d.moment d.left_since c.args.disk.now mid c.line_of.new.disk s.0 (c.in_ok-replies.ensures.tells told) s.4 (g.met.D.Disk.seen_is_left mid) (c.serve_drill.ensures.any_moment told) c.line_of.ensures.any_moment

pub returns-clause-disk : goal.returns-clause-disk
returns-clause-disk g c is = rose_later _ _ _ c.serve_drill.ensures.faults (c.line_of.ensures.disk is)
