-- Each part stands behind the one before.
use Rattle.std.proofs.Common.{◌≡◌, ℕ, ◌+◌, List, length, take, drop, sym, ap, subst, ◌∙◌, arith, refl}
use Rattle.std.proofs.lemmas.Option.{same_Some}
use Rattle.mt_disk.specs.Files.{contents}
use Rattle.mt_log.proofs.Told.{some_of}
use Rattle.mt_draft.specs.Steps.{Grew}
use Rattle.mt_draft.proofs.Copied.{gate_within}
use Rattle.mt_draft.proofs.Kept.{kept_chosen}
use Rattle.mt_draft.proofs.Pouring.{grew_part, keeps_joins, open_started}
use Rattle.mt_draft.proofs.Pours.{grew_none}
use Rattle.mt_draft.proofs.draft.Draft.add_bytes.Goals as goal

pub loop-done-init : goal.loop-done-init
loop-done-init g c =
    let d = g.D.Disk in
    record {
      few = omega arith;
      draft = c.requires.draft;
      grew = λ files is now now_is. subst (λ f. Grew files f c.args.log.now c.args.self.now c.args.self.now (take 0 (drop c.args.from (contents files c.args.log.now.file)))) (same_Some _ _ (sym is ∙ now_is)) (grew_none files c.args.log.now c.args.self.now);
      next = omega arith;
      limit = refl;
      tells = refl;
      any_moment = λ files is. open_started d.seen d.may_leave d.moment d.left_since _ c.args.log.now c.args.self.now files (g.met.D.Disk.only_now c.args.disk.now) (c.requires.draft files is);
      stays = g.met.D.Disk.same _;
      faults = omega arith;
    }

pub add_part-requires-clause-within : goal.add_part-requires-clause-within
add_part-requires-clause-within g c now now_is =
    let d = g.D.Disk in
    let log = c.args.log.now in
    let i = c.loop-done.invariant in
    let from = some_of (d.seen c.args.disk.now) (d.seen c.loop-done.disk) now i.tells now_is in
    let begun = (c.requires.draft from.0 from.1).begun in
    let same = (kept_chosen from.0 log.file begun.log_is.is_chosen begun.firm now (i.grew from.0 from.1 now now_is).others).1 in
    let within = c.requires.within from.0 from.1 (omega (arith, c.loop-done-test.true)) in
    omega (arith, ap (λ (l : List ℕ). length l) same, within, gate_within log.is_old (contents from.0 log.file) log.gate _ begun.log_is.holds, c.min-at.ensures, c.saturating_add.ensures, c.min-count.ensures, c.len-end.ensures, c.loop-done-test.true)

pub loop-done-preserved : goal.loop-done-preserved
loop-done-preserved g c =
    let d = g.D.Disk in
    let log = c.args.log.now in
    let was = c.args.self.now in
    let mid = c.loop-done.self in
    let new = c.add_part.new.self in
    let i = c.loop-done.invariant in
    record {
      few = omega (arith, c.min-count.ensures, c.loop-done-test.true);
      draft = c.in_ok-add_part.ensures.draft;
      grew = λ files is now now_is.
          let between = some_of (d.seen c.loop-done.disk) (d.seen c.add_part.new.disk) now c.add_part.ensures.told now_is in
          let begun = (c.requires.draft files is).begun in
          let within = c.requires.within files is (omega (arith, c.loop-done-test.true)) in
          grew_part files between.0 now log was mid new c.args.from c.loop-done.done c.min-count.result c.min-at.result (c.loop-done.done + c.min-count.result) begun.log_is.is_chosen begun.firm
          (i.grew files is between.0 between.1) (c.in_ok-add_part.ensures.grew between.0 between.1 now now_is)
          (omega (arith, within, c.min-at.ensures, c.saturating_add.ensures, c.len-end.ensures, c.loop-done-test.true)) (omega arith);
      next = omega (arith, i.next, c.in_ok-add_part.ensures.next.0);
      limit = c.in_ok-add_part.ensures.next.1 ∙ i.limit;
      tells = c.add_part.ensures.told ∙ i.tells;
      any_moment = λ files is.
          let between = some_of (d.seen c.loop-done.disk) (d.seen c.args.disk.now) files (sym i.tells) is in
          keeps_joins d.seen d.may_leave d.moment d.left_since _ _ _ log.file files between.0 (i.grew files is between.0 between.1).others (i.any_moment files is) (c.add_part.ensures.any_moment between.0 between.1);
      stays = g.met.D.Disk.joined _ _ _ i.stays c.add_part.ensures.stays;
      faults = omega (arith, i.faults, c.add_part.ensures.faults);
    }

pub returns-in_err-add_part-clause-any_moment : goal.returns-in_err-add_part-clause-any_moment
returns-in_err-add_part-clause-any_moment g c files is =
    let d = g.D.Disk in
    let log = c.args.log.now in
    let i = c.loop-done.invariant in
    let between = some_of (d.seen c.loop-done.disk) (d.seen c.args.disk.now) files (sym i.tells) is in
    keeps_joins d.seen d.may_leave d.moment d.left_since _ _ _ log.file files between.0 (i.grew files is between.0 between.1).others (i.any_moment files is) (c.add_part.ensures.any_moment between.0 between.1)

pub returns-clause-grew : goal.returns-clause-grew
returns-clause-grew g c files is now now_is =
    let i = c.loop-done.invariant in
    let all : c.loop-done.done ≡ c.args.size = omega (arith, i.few, c.loop-done-test.false) in
    subst (λ (n : ℕ). Grew files now c.args.log.now c.args.self.now c.loop-done.self (take n (drop c.args.from (contents files c.args.log.now.file)))) all (i.grew files is now now_is)
