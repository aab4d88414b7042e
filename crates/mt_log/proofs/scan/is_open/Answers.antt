use Rattle.std.proofs.Common.{◌≡◌, ℕ, List, length, take, ap, arith, subst, sym, ◌∙◌}
use Rattle.std.proofs.lemmas.Option.{same_Some}
use Rattle.mt_log.specs.LogImage.{LogFault, Short}
use Rattle.mt_log.specs.Scan.{EndsWith, rest_at}
use Rattle.std.proofs.Common.{Err}
use Rattle.mt_log.proofs.Scans.{gate_is, stops_at_end}
use Rattle.mt_log.proofs.Windows.{rest_same, rest_size, window_front}
use Rattle.mt_log.proofs.scan.is_open.Goals as goal

pub returns-clause-gate : goal.returns-clause-gate
returns-clause-gate g c files is =
    let window = c.in_ok-fill.ensures.window files (c.fill.ensures.read.seen_same ∙ is) in
    let front = c.front.ensures ∙ window_front files c.fill.new.self 1 window c.in_ok-fill.ensures.filled ∙ ap (λ (l : List ℕ). take 1 l) (rest_same files c.args.window.now c.fill.new.self c.fill.ensures.same) in
    gate_is (rest_at files c.args.window.now) c.front.result.now front (omega (arith, rest_size files c.args.window.now (c.requires files is), c.left.ensures))

pub returns-then-left-eq0-clause-refused : goal.returns-then-left-eq0-clause-refused
returns-then-left-eq0-clause-refused g c files is fault named =
    let none : length (rest_at files c.args.window.now) ≡ 0 = omega (arith, rest_size files c.args.window.now (c.requires files is), c.left.ensures) in
    subst (λ (f : LogFault). EndsWith c.args.window.now.at (rest_at files c.args.window.now) (Err f)) ((ap (λ (n : ℕ). Short n 1 0) (sym c.at.ensures)) ∙ same_Some _ fault named) (stops_at_end c.args.window.now.at (rest_at files c.args.window.now) none)
