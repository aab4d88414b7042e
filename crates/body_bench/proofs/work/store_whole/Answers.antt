use Rattle.std.proofs.Common.{[], ap, sym, subst, ◌∙◌}
use Rattle.mt_log.specs.LogState.{LogState, told, with_payloads}
use Rattle.mt_log.specs.RunState.{HasTaken}
use Rattle.body_bench.proofs.Whole.{stored_whole}
use Rattle.body_bench.proofs.work.store_whole.Goals as goal

pub returns-in-Ok-clause-bytes : goal.returns-in-Ok-clause-bytes
returns-in-Ok-clause-bytes g c =
    let d = g.D.Disk in
    let w = c.in-Stored.ensures.stores.0 in
    let none = c.begin_run-run.ensures.none c.requires.is_open in
    let taken = subst (λ (x : LogState). HasTaken (d.seen c.store.new.disk) x c.store.new.run w.pieces) (sym c.in-Stored.ensures.stores.1) (w.taken [] none) in
    let added = c.in-Ok.ensures.added w.pieces taken ∙ ap (with_payloads w.pieces) (c.in-Stored.ensures.same (λ e. cc e)) in
    let whole = stored_whole (told (d.seen c.args.disk.now)) (told (d.seen c.end_run.new.disk)) w.pieces c.in-Stored.body w.bytes added (λ ps is. w.stands ps [] is none) in
    (w.bytes, w.took, λ ps is. (whole ps is).1)

pub returns-in-Ok-clause-stored : goal.returns-in-Ok-clause-stored
returns-in-Ok-clause-stored g c =
    let d = g.D.Disk in
    let w = c.in-Stored.ensures.stores.0 in
    let none = c.begin_run-run.ensures.none c.requires.is_open in
    let taken = subst (λ (x : LogState). HasTaken (d.seen c.store.new.disk) x c.store.new.run w.pieces) (sym c.in-Stored.ensures.stores.1) (w.taken [] none) in
    let added = c.in-Ok.ensures.added w.pieces taken ∙ ap (with_payloads w.pieces) (c.in-Stored.ensures.same (λ e. cc e)) in
    let whole = stored_whole (told (d.seen c.args.disk.now)) (told (d.seen c.end_run.new.disk)) w.pieces c.in-Stored.body w.bytes added (λ ps is. w.stands ps [] is none) in
    λ ps is. (whole ps is).0.pieces
