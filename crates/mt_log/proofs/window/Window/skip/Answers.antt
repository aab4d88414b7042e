use Rattle.std.proofs.Common.{ℕ, ◌≤◌, ◌+◌, drop, length, ap, ◌∙◌, arith, length-drop, length-take}
use Rattle.mt_log.specs.Scan.{WindowState}
use Rattle.mt_log.proofs.Windows.{part_skipped}
use Rattle.mt_log.proofs.window.Window.skip.Goals as goal

pub returns : goal.returns
returns c =
    let was = c.self.inside in
    let within : was.from + c.args.count ≤ was.to = omega (arith, c.requires, ap (λ (w : WindowState). length w.held) c.self.view_is, length-take {A = ℕ}, length-drop {A = ℕ}) in
    (λ i. record { file = was.file; end = was.end; at = was.at + c.args.count; held = part_skipped was.piece.items was.from was.to c.args.count within i })
    ∙ ap (λ (w : WindowState). record { file = w.file; end = w.end; at = w.at + c.args.count; held = drop c.args.count w.held }) c.self.view_is
