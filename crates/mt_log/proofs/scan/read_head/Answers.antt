use Rattle.std.proofs.Common.{ℕ, ◌≤◌, List, length, take, ap, arith, length-take, subst, sym, ◌∙◌}
use Rattle.mt_log.specs.Scan.{IsWindow, WindowState, rest_at}
use Rattle.mt_log.proofs.Scans.{head_is}
use Rattle.mt_log.proofs.Windows.{rest_same, window_front, window_skipped}
use Rattle.mt_log.proofs.scan.read_head.Goals as goal

pub returns-clause-head : goal.returns-clause-head
returns-clause-head g c files is =
    let window = c.in_ok-fill.ensures.window files (c.fill.ensures.read.seen_same ∙ is) in
    let few : 21 ≤ length c.fill.new.self.held = c.in_ok-fill.ensures.filled in
    let front = c.front-front.ensures ∙ window_front files c.fill.new.self 21 window few ∙ ap (λ (l : List ℕ). take 21 l) (rest_same files c.args.window.now c.fill.new.self c.fill.ensures.same) in
    head_is (rest_at files c.args.window.now) c.front-front.result.now c.copy_from_slice.new.self c.length_of-len.result front c.length_of-len.ensures c.copy_from_slice.ensures.after

pub returns-clause-window : goal.returns-clause-window
returns-clause-window g c files is =
    subst (λ (w : WindowState). IsWindow files w) (sym c.skip.ensures) (window_skipped files c.fill.new.self 21 (c.in_ok-fill.ensures.window files is) c.in_ok-fill.ensures.filled)

pub slice_bounds-copy_from_slice-end-2 : goal.slice_bounds-copy_from_slice-end-2
slice_bounds-copy_from_slice-end-2 g c = omega (arith, ap (λ (l : List ℕ). length l) c.front-front.ensures, length-take {A = ℕ}, c.in_ok-fill.ensures.filled)
