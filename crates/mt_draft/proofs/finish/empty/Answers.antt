-- The file is emptied, and then its emptiness is on the disk.
use Rattle.std.proofs.Common.{[], sym, subst, ◌∙◌}
use Rattle.std.proofs.lemmas.Option.{MatchOption-at_some}
use Rattle.mt_disk.proofs.Moments.{adds_none, leaves_now, ran}
use Rattle.mt_log.proofs.Told.{mapped_some}
use Rattle.mt_draft.specs.Drafts.{KeepsBut}
use Rattle.mt_draft.specs.Steps.{with_none}
use Rattle.mt_draft.proofs.Buts.{but_changed, but_same}
use Rattle.mt_draft.proofs.finish.empty.Goals as goal

pub returns-in_err-clear-clause-any_moment : goal.returns-in_err-clear-clause-any_moment
returns-in_err-clear-clause-any_moment g c files is =
    c.clear.ensures.images files (c.requires.images files is)

pub returns-in_err-sync-clause-any_moment : goal.returns-in_err-sync-clause-any_moment
returns-in_err-sync-clause-any_moment g c files is =
    let d = g.D.Disk in
    let K = KeepsBut c.args.file files in
    let emptying = c.clear.ensures.images files (c.requires.images files is) in
    (adds_none d.moment d.left_since d.may_leave _ _ _ K K (ran d.moment d.left_since d.may_leave _ _ K emptying (g.met.D.Disk.counts_now c.clear.new.disk)) c.sync.ensures.crash c.sync.ensures.time (λ f k. k)).run

pub returns-clause-any_moment : goal.returns-clause-any_moment
returns-clause-any_moment g c files is =
    let d = g.D.Disk in
    let K = KeepsBut c.args.file files in
    let emptying = c.clear.ensures.images files (c.requires.images files is) in
    (adds_none d.moment d.left_since d.may_leave _ _ _ K K (ran d.moment d.left_since d.may_leave _ _ K emptying (g.met.D.Disk.counts_now c.clear.new.disk)) c.sync.ensures.crash c.sync.ensures.time (λ f k. k)).run

pub returns-clause-rest : goal.returns-clause-rest
returns-clause-rest g c now now_is f left =
    let d = g.D.Disk in
    let file = c.args.file in
    let from = mapped_some (with_none file) (d.seen c.args.disk.now) now (sym c.in_ok-clear.ensures.cleared ∙ sym c.sync.ensures.seen ∙ now_is) in
    let files = from.0 in
    let emptying = c.clear.ensures.images files (c.requires.images files from.1) in
    let kept = leaves_now d.moment d.left_since d.may_leave _ _ (KeepsBut file files) emptying (g.met.D.Disk.counts_now c.clear.new.disk) f (c.sync.ensures.crash f left) in
    let durable = MatchOption-at_some _ _ _ (sym c.sync.ensures.seen ∙ now_is) c.in_ok-sync.ensures.durable in
    but_same file files now f (subst (λ x. KeepsBut file files x) from.2 (but_changed file files [])) kept (durable f left)
