-- The records are sealed, and then published.
use Rattle.std.proofs.Common.{◌++◌, [], List, ℕ, true, ap, subst, sym, ◌∙◌}
use Rattle.std.proofs.lemmas.Option.{same_Some}
use Rattle.std.specs.Result.{result_unwrap_or}
use Rattle.mt_disk.proofs.Moments.{followed, leaves_now, ran, weakens}
use Rattle.mt_log.specs.LogImage.{IsBeforeOrAfter}
use Rattle.mt_log.specs.LogState.{Tells}
use Rattle.mt_log.specs.Stage.{KeepsFront, Laying}
use Rattle.mt_log.proofs.Added.{before_or_after_of, front_is_before, front_same_list, front_swap}
use Rattle.std.proofs.lemmas.Result.{on_ok_weaker}
use Rattle.mt_log.proofs.Others.{others_on}
use Rattle.mt_log.proofs.Told.{some_of}
use Rattle.mt_log.proofs.lay.finish.Goals as goal

pub returns-in_err-seal-clause-any_moment : goal.returns-in_err-seal-clause-any_moment
returns-in_err-seal-clause-any_moment g c files is old records laying =
    let d = g.D.Disk in
    weakens d.moment d.left_since _ _ (KeepsFront files c.args.file c.args.gate) (IsBeforeOrAfter files records) (front_is_before files c.args.file c.args.gate old laying.log records) (c.seal.ensures.any_moment files is)

pub publish-requires : goal.publish-requires
publish-requires g c = record {
  front = λ now is f left.
      let d = g.D.Disk in
      let from = some_of (d.seen c.args.disk.now) (d.seen c.seal.new.disk) now c.in_ok-seal.ensures.told is in
      let kept = leaves_now d.moment d.left_since d.may_leave _ _ (KeepsFront from.0 c.args.file c.args.gate) (c.seal.ensures.any_moment from.0 from.1) (g.met.D.Disk.counts_now c.seal.new.disk) in
      front_swap from.0 now c.args.file c.args.gate (kept now (g.met.D.Disk.seen_is_left c.seal.new.disk now is)) f (kept f left);
}

pub returns-clause-any_moment : goal.returns-clause-any_moment
returns-clause-any_moment g c files is old records laying =
    let d = g.D.Disk in
    let file = c.args.file in
    let gate = c.args.gate in
    let K = KeepsFront files file gate in
    let now = some_of (d.seen c.seal.new.disk) (d.seen c.args.disk.now) files (sym c.in_ok-seal.ensures.told) is in
    let so_far = ran d.moment d.left_since d.may_leave _ _ K (c.seal.ensures.any_moment files is) (g.met.D.Disk.counts_now c.seal.new.disk) in
    let kept = so_far.now now.0 (g.met.D.Disk.seen_is_left c.seal.new.disk now.0 now.1) in
    let laid = c.in_ok-seal.ensures.laid old records (λ f was. subst (λ x. Laying x file gate c.args.next old records) (same_Some _ _ (sym is ∙ was)) laying) now.0 now.1 in
    (followed d.moment d.left_since d.may_leave _ _ _ K K (IsBeforeOrAfter now.0 records) (IsBeforeOrAfter files records) so_far
    (c.publish.ensures.any_moment now.0 now.1 c.args.next old records laid) (g.met.D.Disk.counts_now c.publish.new.disk)
    (front_is_before files file gate old laying.log records)
    (before_or_after_of files now.0 records (front_same_list files file gate old laying.log now.0 kept))).run

pub returns-clause-added : goal.returns-clause-added
returns-clause-added g c = on_ok_weaker c.publish.result (λ added files is old records laying.
    let d = g.D.Disk in
    let file = c.args.file in
    let gate = c.args.gate in
    let now = some_of (d.seen c.seal.new.disk) (d.seen c.args.disk.now) files (sym c.in_ok-seal.ensures.told) is in
    let kept = leaves_now d.moment d.left_since d.may_leave _ _ (KeepsFront files file gate) (c.seal.ensures.any_moment files is) (g.met.D.Disk.counts_now c.seal.new.disk) now.0 (g.met.D.Disk.seen_is_left c.seal.new.disk now.0 now.1) in
    let laid = c.in_ok-seal.ensures.laid old records (λ f was. subst (λ x. Laying x file gate c.args.next old records) (same_Some _ _ (sym is ∙ was)) laying) now.0 now.1 in
    let list = ap (λ r. result_unwrap_or r []) (front_same_list files file gate old laying.log now.0 kept true) in
    subst (λ (ps : List (List ℕ)). Tells d.seen d.may_leave c.publish.new.disk file c.args.next old (ps ++ records)) list (added now.0 now.1 c.args.next old records laid)) c.publish.ensures.added

pub returns-clause-others : goal.returns-clause-others
returns-clause-others g c = on_ok_weaker c.publish.result (λ others. others_on c.args.file _ _ _ c.in_ok-seal.ensures.told c.in_ok-seal.ensures.others others) c.publish.ensures.others
