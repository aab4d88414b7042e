-- What was hashed is what the window went over.
use Rattle.std.proofs.Common.{◌≡◌, ℕ, ◌+◌, ◌-◌, ◌≤◌, List, length, take, drop, ap, arith, subst, sym, ◌∙◌}
use Rattle.md5.specs.Md5.{Holds}
use Rattle.mt_disk.specs.Files.{contents}
use Rattle.mt_disk.proofs.Readings.{reads_on}
use Rattle.mt_log.specs.Scan.{IsWindow, WindowState, rest_at}
use Rattle.mt_log.proofs.Windows.{taken_more, window_front, window_skipped, window_went}
use Rattle.mt_log.proofs.window.Window.digest.Goals as goal

pub loop-left-preserved : goal.loop-left-preserved
loop-left-preserved g c =
    let d = g.D.Disk in
    let was = c.loop-left.self in
    let mid = c.fill.new.self in
    let first = c.args.self.now in
    let count = c.args.count in
    let left = c.loop-left.left in
    let part = c.min-part.result in
    let few : part ≤ length mid.held = omega (arith, c.ready.ensures) in
    record {
      few = omega arith;
      same = window_went first was mid c.skip.new.self count left part c.loop-left.invariant.same c.fill.ensures.same c.skip.ensures (omega arith) c.loop-left.invariant.few;
      window = λ files is. subst (λ (w : WindowState). IsWindow files w) (sym c.skip.ensures) (window_skipped files mid part (c.in_ok-fill.ensures.window files is) few);
      read = reads_on d.seen d.may_leave d.moment d.left_since _ _ _ c.loop-left.invariant.read c.fill.ensures.read;
      faults = omega (arith, c.loop-left.invariant.faults, c.fill.ensures.cause);
      hashed = λ files is.
          let seen0 = sym c.fill.ensures.read.seen_same ∙ is in
          let rest = rest_at files first in
          let window = c.in_ok-fill.ensures.window files is in
          let file = ap (λ (w : WindowState). w.file) c.fill.ensures.same ∙ ap (λ (w : WindowState). w.file) c.loop-left.invariant.same in
          let place : mid.at ≡ first.at + (count - left) = ap (λ (w : WindowState). w.at) c.fill.ensures.same ∙ ap (λ (w : WindowState). w.at) c.loop-left.invariant.same in
          let front : c.front.result.now ≡ take part (drop (first.at + (count - left)) (contents files first.file)) =
          c.front.ensures ∙ window_front files mid part window few ∙ (λ i. take part (drop (place i) (contents files (file i)))) in
          subst (λ (l : List ℕ). Holds c.update.new.self l) (taken_more (contents files first.file) c.front.result.now first.at (count - left) part (count - (left - part)) (omega (arith, c.loop-left.invariant.few)) front)
          (c.update.ensures _ (c.loop-left.invariant.hashed files seen0));
    }
