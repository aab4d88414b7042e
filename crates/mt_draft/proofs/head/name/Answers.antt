-- Head has at most a byte, and the other files stay; then Head is on the disk.
use Rattle.std.proofs.Common.{ap, sym, ◌∙◌}
use Rattle.std.proofs.lemmas.Option.{MatchOption-at_some}
use Rattle.mt_disk.specs.declared.disk.FileNo.TheVariants.{Head}
use Rattle.mt_disk.specs.Files.{with_contents}
use Rattle.mt_disk.proofs.Moments.{adds_none}
use Rattle.mt_log.specs.Stage.{IsNaming}
use Rattle.mt_draft.proofs.Named.{naming_runs}
use Rattle.mt_log.proofs.Told.{mapped_some}
use Rattle.mt_draft.proofs.head.name.Goals as goal

pub returns-in_err-write_at-clause-any_moment : goal.returns-in_err-write_at-clause-any_moment
returns-in_err-write_at-clause-any_moment g c files is =
    let d = g.D.Disk in
    (naming_runs d.moment d.left_since d.may_leave c.args.disk.now _ files (g.met.D.Disk.only_now c.args.disk.now) (c.requires files is) c.write_at.ensures.crash c.write_at.ensures.time).run

pub returns-in_err-sync-clause-any_moment : goal.returns-in_err-sync-clause-any_moment
returns-in_err-sync-clause-any_moment g c files is =
    let d = g.D.Disk in
    let N = IsNaming files in
    let naming = naming_runs d.moment d.left_since d.may_leave c.args.disk.now _ files (g.met.D.Disk.only_now c.args.disk.now) (c.requires files is) c.write_at.ensures.crash c.write_at.ensures.time in
    (adds_none d.moment d.left_since d.may_leave _ _ _ N N naming c.sync.ensures.crash c.sync.ensures.time (λ f n. n)).run

pub returns-clause-rest : goal.returns-clause-rest
returns-clause-rest g c new now f left =
    let d = g.D.Disk in
    let from = mapped_some _ (d.seen c.args.disk.now) new (sym c.in_ok-write_at.ensures.written ∙ sym c.sync.ensures.seen ∙ now) in
    let files = from.0 in
    let is = from.1 in
    let naming = naming_runs d.moment d.left_since d.may_leave c.args.disk.now _ files (g.met.D.Disk.only_now c.args.disk.now) (c.requires files is) c.write_at.ensures.crash c.write_at.ensures.time in
    let durable = MatchOption-at_some _ _ _ (sym c.sync.ensures.seen ∙ now) c.in_ok-sync.ensures.durable in
    (naming.now f (c.sync.ensures.crash f left)).others ∙ ap (λ h. with_contents files Head h) (durable f left ∙ ap (λ x. x.head) (sym from.2)) ∙ from.2

pub returns-clause-any_moment : goal.returns-clause-any_moment
returns-clause-any_moment g c files is =
    let d = g.D.Disk in
    let N = IsNaming files in
    let naming = naming_runs d.moment d.left_since d.may_leave c.args.disk.now _ files (g.met.D.Disk.only_now c.args.disk.now) (c.requires files is) c.write_at.ensures.crash c.write_at.ensures.time in
    (adds_none d.moment d.left_since d.may_leave _ _ _ N N naming c.sync.ensures.crash c.sync.ensures.time (λ f n. n)).run
