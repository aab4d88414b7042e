-- After a fault the file is emptied, where a crash leaves all others as they were.
use Rattle.std.proofs.Common.{◌≡◌, ap, sym, subst, ◌∙◌}
use Rattle.mt_disk.specs.CrashModel.{LeavesOnly}
use Rattle.mt_disk.proofs.Moments.{joins, leaves_now}
use Rattle.mt_log.proofs.Told.{some_of}
use Rattle.mt_draft.specs.Drafts.{DraftState, KeepsBut}
use Rattle.mt_draft.proofs.Buts.{but_on, but_swap}
use Rattle.mt_draft.proofs.draft.Draft.seal_or_empty.Goals as goal

pub returns-in-Err-clause-any_moment : goal.returns-in-Err-clause-any_moment
returns-in-Err-clause-any_moment g c files is =
    let d = g.D.Disk in
    let file = c.args.self.now.file in
    let file_is = ap (λ (s : DraftState). s.file) c.self.view_is in
    let sealing = c.seal.ensures.any_moment files is in
    let between = some_of (d.seen c.seal.new.disk) (d.seen c.args.disk.now) files (sym c.seal.ensures.told) is in
    let now = between.0 in
    let kept = leaves_now d.moment d.left_since d.may_leave _ _ (KeepsBut file files) sealing (g.met.D.Disk.counts_now c.seal.new.disk) now (g.met.D.Disk.seen_is_left c.seal.new.disk now between.1) in
    let emptying = subst (λ f. LeavesOnly d.moment d.left_since c.seal.new.disk c.empty.new.disk (KeepsBut f now)) file_is (c.empty.ensures.any_moment now between.1) in
    joins d.moment d.left_since _ _ _ (KeepsBut file files) (KeepsBut file now) (KeepsBut file files) sealing emptying (λ f k. k) (λ f k. but_on file files now f kept k)

pub empty-requires : goal.empty-requires
empty-requires g c = record {
  images = λ now is f left.
      let d = g.D.Disk in
      let file = c.args.self.now.file in
      let file_is = ap (λ (s : DraftState). s.file) c.self.view_is in
      let from = some_of (d.seen c.args.disk.now) (d.seen c.seal.new.disk) now c.seal.ensures.told is in
      let sealing = leaves_now d.moment d.left_since d.may_leave _ _ (KeepsBut file from.0) (c.seal.ensures.any_moment from.0 from.1) (g.met.D.Disk.counts_now c.seal.new.disk) in
      subst (λ x. KeepsBut x now f) (sym file_is) (but_swap file from.0 now f (sealing now (g.met.D.Disk.seen_is_left c.seal.new.disk now is)) (sealing f left));
}
