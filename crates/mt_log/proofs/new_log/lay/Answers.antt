-- Head stays empty and Two as it was; then One is on the disk.
use Rattle.std.proofs.Common.{◌≡◌, Some, ap, sym, refl, ◌∙◌}
use Rattle.std.proofs.lemmas.Option.{MatchOption-at_some}
use Rattle.mt_disk.specs.declared.disk.FileNo.TheVariants.{One}
use Rattle.mt_disk.specs.Files.{overwritten}
use Rattle.mt_disk.proofs.Moments.{keeps, adds_none}
use Rattle.mt_log.specs.Stage.{IsHeadless, empty_log, with_empty_log, changed}
use Rattle.mt_log.proofs.Made.{headless_begun, headless_step, headless_laid}
use Rattle.mt_log.proofs.Told.{mapped_some, mapped_twice}
use Rattle.mt_log.proofs.new_log.lay.Goals as goal

pub returns-in_err-cut-clause-any_moment : goal.returns-in_err-cut-clause-any_moment
returns-in_err-cut-clause-any_moment g c files is =
    let d = g.D.Disk in
    let H = IsHeadless files in
    let zero = headless_begun d.moment d.left_since d.may_leave c.args.disk.now files (g.met.D.Disk.only_now c.args.disk.now) (c.requires.rest files is) (c.requires.empty files is) in
    (keeps d.moment d.left_since d.may_leave _ _ _ H _ zero c.cut.ensures.crash c.cut.ensures.time (headless_step files _)).run

pub returns-in_err-write_at-clause-any_moment : goal.returns-in_err-write_at-clause-any_moment
returns-in_err-write_at-clause-any_moment g c files is =
    let d = g.D.Disk in
    let H = IsHeadless files in
    let zero = headless_begun d.moment d.left_since d.may_leave c.args.disk.now files (g.met.D.Disk.only_now c.args.disk.now) (c.requires.rest files is) (c.requires.empty files is) in
    let cutting = keeps d.moment d.left_since d.may_leave _ _ _ H _ zero c.cut.ensures.crash c.cut.ensures.time (headless_step files _) in
    (keeps d.moment d.left_since d.may_leave _ _ _ H _ cutting c.write_at.ensures.crash c.write_at.ensures.time (headless_step files _)).run

pub returns-in_err-sync-clause-any_moment : goal.returns-in_err-sync-clause-any_moment
returns-in_err-sync-clause-any_moment g c files is =
    let d = g.D.Disk in
    let H = IsHeadless files in
    let zero = headless_begun d.moment d.left_since d.may_leave c.args.disk.now files (g.met.D.Disk.only_now c.args.disk.now) (c.requires.rest files is) (c.requires.empty files is) in
    let cutting = keeps d.moment d.left_since d.may_leave _ _ _ H _ zero c.cut.ensures.crash c.cut.ensures.time (headless_step files _) in
    let writing = keeps d.moment d.left_since d.may_leave _ _ _ H _ cutting c.write_at.ensures.crash c.write_at.ensures.time (headless_step files _) in
    (adds_none d.moment d.left_since d.may_leave _ _ _ H H writing c.sync.ensures.crash c.sync.ensures.time (λ f h. h)).run

pub returns-clause-rest : goal.returns-clause-rest
returns-clause-rest g c new now f left =
    let d = g.D.Disk in
    let laid = c.sync.ensures.seen ∙ c.in_ok-write_at.ensures.written ∙ ap (λ s. changed One (λ bytes. overwritten bytes 0 empty_log) s) c.in_ok-cut.ensures.done
    ∙ mapped_twice _ _ with_empty_log (λ x. refl) (d.seen c.args.disk.now) in
    let from = mapped_some with_empty_log (d.seen c.args.disk.now) new (sym laid ∙ now) in
    let files = from.0 in
    let is = from.1 in
    let empty = c.requires.empty files is in
    let H = IsHeadless files in
    let zero = headless_begun d.moment d.left_since d.may_leave c.args.disk.now files (g.met.D.Disk.only_now c.args.disk.now) (c.requires.rest files is) empty in
    let cutting = keeps d.moment d.left_since d.may_leave _ _ _ H _ zero c.cut.ensures.crash c.cut.ensures.time (headless_step files _) in
    let writing = keeps d.moment d.left_since d.may_leave _ _ _ H _ cutting c.write_at.ensures.crash c.write_at.ensures.time (headless_step files _) in
    let seen2 : d.seen c.write_at.new.self ≡ Some new = sym c.sync.ensures.seen ∙ now in
    let durable = MatchOption-at_some _ _ _ seen2 c.in_ok-sync.ensures.durable in
    headless_laid files empty f (writing.now f (c.sync.ensures.crash f left)) (durable f left ∙ ap (λ x. x.one) (sym from.2)) ∙ from.2

pub returns-clause-any_moment : goal.returns-clause-any_moment
returns-clause-any_moment g c files is =
    let d = g.D.Disk in
    let H = IsHeadless files in
    let zero = headless_begun d.moment d.left_since d.may_leave c.args.disk.now files (g.met.D.Disk.only_now c.args.disk.now) (c.requires.rest files is) (c.requires.empty files is) in
    let cutting = keeps d.moment d.left_since d.may_leave _ _ _ H _ zero c.cut.ensures.crash c.cut.ensures.time (headless_step files _) in
    let writing = keeps d.moment d.left_since d.may_leave _ _ _ H _ cutting c.write_at.ensures.crash c.write_at.ensures.time (headless_step files _) in
    (adds_none d.moment d.left_since d.may_leave _ _ _ H H writing c.sync.ensures.crash c.sync.ensures.time (λ f h. h)).run
