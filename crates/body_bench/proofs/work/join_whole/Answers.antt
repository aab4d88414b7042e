use Rattle.std.proofs.Common.{[], ap, sym, subst, ◌∙◌}
use Rattle.mt_join.specs.Joining.{joined}
use Rattle.mt_log.specs.LogState.{LogState, told, with_payloads}
use Rattle.mt_log.specs.RunState.{HasTaken}
use Rattle.body_bench.proofs.Whole.{stored_whole}
use Rattle.body_bench.proofs.work.join_whole.Goals as goal

pub returns-in-Ok : goal.returns-in-Ok
returns-in-Ok g c =
    let d = g.D.Disk in
    let w = c.in-Joined.ensures.joins.0 in
    let none = c.begin_run-run.ensures.none c.requires.is_open in
    let taken = subst (λ (x : LogState). HasTaken (d.seen c.join.new.disk) x c.join.new.run w.pieces) (sym c.in-Joined.ensures.joins.1) (w.taken [] none) in
    let added = c.in-Ok.ensures.added w.pieces taken ∙ ap (with_payloads w.pieces) (c.in-Joined.ensures.same (λ e. cc e)) in
    let whole = stored_whole (told (d.seen c.args.disk.now)) (told (d.seen c.end_run.new.disk)) w.pieces c.in-Joined.whole w.bytes added (λ ps is. w.stands ps [] is none) in
    record { bytes = (c.in_ok-parts.parts.items, c.in_ok-parts.ensures.count, c.in_ok-parts.ensures.same, λ ps is qs grew. (whole qs grew).1 ∙ w.are ps is ∙ ap (joined ps) c.as_slice.ensures.value) }
