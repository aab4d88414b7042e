-- What is held is written, then the gate, and then all of it is on the disk.
use Rattle.std.proofs.Common.{◌≡◌, length, ap, sym, subst, ◌∙◌, arith}
use Rattle.std.proofs.lemmas.Option.{MatchOption-at_some}
use Rattle.mt_disk.specs.Files.{contents}
use Rattle.mt_disk.specs.CrashModel.{LeavesOnly}
use Rattle.mt_disk.proofs.Moments.{adds_none, keeps, leaves_now, ran}
use Rattle.mt_log.proofs.Told.{mapped_some, some_of}
use Rattle.mt_draft.specs.Drafts.{DraftState, KeepsBut}
use Rattle.mt_draft.specs.Steps.{sealed}
use Rattle.mt_draft.proofs.Buts.{but_changed, but_same, but_step}
use Rattle.mt_draft.proofs.Sealing.{sealed_seen}
use Rattle.mt_draft.proofs.draft.Draft.seal.Goals as goal

pub returns-in_err-write-clause-any_moment : goal.returns-in_err-write-clause-any_moment
returns-in_err-write-clause-any_moment g c files is = c.write.ensures.images files (c.requires.images files is)

pub write_at-requires : goal.write_at-requires
write_at-requires g c now is =
    let d = g.D.Disk in
    let from = some_of (d.seen c.args.disk.now) (d.seen c.write.new.disk) now c.write.ensures.told is in
    let poured = c.in_ok-write.ensures.poured from.0 from.1 now is in
    omega (arith, ap (λ (s : DraftState). s.written) c.self.view_is, poured.size, ap (λ f. length (contents now f)) poured.file, ap (λ (s : DraftState). length (contents now s.file)) c.self.view_is)

pub returns-in_err-write_at-clause-any_moment : goal.returns-in_err-write_at-clause-any_moment
returns-in_err-write_at-clause-any_moment g c files is =
    let d = g.D.Disk in
    let file = c.self.inside.file in
    let file_is = ap (λ (s : DraftState). s.file) c.self.view_is ∙ c.in_ok-write.ensures.keeps.2 in
    let K = KeepsBut file files in
    let writing = subst (λ f. LeavesOnly d.moment d.left_since c.args.disk.now c.write.new.disk (KeepsBut f files)) (sym file_is) (c.write.ensures.images files (c.requires.images files is)) in
    let gating = keeps d.moment d.left_since d.may_leave _ _ _ K _ (ran d.moment d.left_since d.may_leave _ _ K writing (g.met.D.Disk.counts_now c.write.new.disk)) c.write_at.ensures.crash c.write_at.ensures.time (λ x y k s. but_step file _ files x y k s) in
    subst (λ f. LeavesOnly d.moment d.left_since c.args.disk.now c.write_at.new.self (KeepsBut f files)) file_is gating.run

pub returns-in_err-sync-clause-any_moment : goal.returns-in_err-sync-clause-any_moment
returns-in_err-sync-clause-any_moment g c files is =
    let d = g.D.Disk in
    let file = c.self.inside.file in
    let file_is = ap (λ (s : DraftState). s.file) c.self.view_is ∙ c.in_ok-write.ensures.keeps.2 in
    let K = KeepsBut file files in
    let writing = subst (λ f. LeavesOnly d.moment d.left_since c.args.disk.now c.write.new.disk (KeepsBut f files)) (sym file_is) (c.write.ensures.images files (c.requires.images files is)) in
    let gating = keeps d.moment d.left_since d.may_leave _ _ _ K _ (ran d.moment d.left_since d.may_leave _ _ K writing (g.met.D.Disk.counts_now c.write.new.disk)) c.write_at.ensures.crash c.write_at.ensures.time (λ x y k s. but_step file _ files x y k s) in
    subst (λ f. LeavesOnly d.moment d.left_since c.args.disk.now c.sync.new.self (KeepsBut f files)) file_is (adds_none d.moment d.left_since d.may_leave _ _ _ K K gating c.sync.ensures.crash c.sync.ensures.time (λ f k. k)).run

pub returns-clause-any_moment : goal.returns-clause-any_moment
returns-clause-any_moment g c files is =
    let d = g.D.Disk in
    let file = c.self.inside.file in
    let file_is = ap (λ (s : DraftState). s.file) c.self.view_is ∙ c.in_ok-write.ensures.keeps.2 in
    let K = KeepsBut file files in
    let writing = subst (λ f. LeavesOnly d.moment d.left_since c.args.disk.now c.write.new.disk (KeepsBut f files)) (sym file_is) (c.write.ensures.images files (c.requires.images files is)) in
    let gating = keeps d.moment d.left_since d.may_leave _ _ _ K _ (ran d.moment d.left_since d.may_leave _ _ K writing (g.met.D.Disk.counts_now c.write.new.disk)) c.write_at.ensures.crash c.write_at.ensures.time (λ x y k s. but_step file _ files x y k s) in
    subst (λ f. LeavesOnly d.moment d.left_since c.args.disk.now c.sync.new.self (KeepsBut f files)) file_is (adds_none d.moment d.left_since d.may_leave _ _ _ K K gating c.sync.ensures.crash c.sync.ensures.time (λ f k. k)).run

pub returns-clause-sealed : goal.returns-clause-sealed
returns-clause-sealed g c =
    let d = g.D.Disk in
    let was = c.self.inside in
    sealed_seen (d.seen c.args.disk.now) (d.seen c.write.new.disk) (d.seen c.sync.new.self) c.args.self.now c.write.new.self was.file was.written c.write.ensures.told c.in_ok-write.ensures.poured c.in_ok-write.ensures.none_held
    (ap (λ (s : DraftState). s.file) c.self.view_is ∙ c.in_ok-write.ensures.keeps.2) (ap (λ (s : DraftState). s.written) c.self.view_is) (c.sync.ensures.seen ∙ c.in_ok-write_at.ensures.written)

pub returns-clause-rest : goal.returns-clause-rest
returns-clause-rest g c now now_is f left =
    let d = g.D.Disk in
    let draft = c.args.self.now in
    let from = mapped_some (sealed draft) (d.seen c.args.disk.now) now (sym (returns-clause-sealed g c) ∙ now_is) in
    let files = from.0 in
    let file_is = ap (λ (s : DraftState). s.file) c.self.view_is ∙ c.in_ok-write.ensures.keeps.2 in
    let kept = leaves_now d.moment d.left_since d.may_leave _ _ (KeepsBut draft.file files) (returns-clause-any_moment g c files from.1) (g.met.D.Disk.counts_now c.sync.new.self) f left in
    let durable = MatchOption-at_some _ _ _ (sym c.sync.ensures.seen ∙ now_is) c.in_ok-sync.ensures.durable f left in
    but_same draft.file files now f (subst (λ x. KeepsBut draft.file files x) from.2 (but_changed draft.file files _)) kept (subst (λ x. contents f x ≡ contents now x) file_is durable)
