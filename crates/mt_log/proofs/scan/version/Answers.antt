use Rattle.std.proofs.Common.{ℕ, inl, inr, ⊎_elim, List, nat_eq, take, drop, ap, arith, subst, sym, ◌∙◌}
use Rattle.std.specs.Cmp.Lexicographic.{pointwise}
use Rattle.std.proofs.lemmas.Option.{same_Some}
use Rattle.mt_disk.specs.Files.{contents}
use Rattle.mt_log.specs.LogImage.{NotALog}
use Rattle.std.proofs.Common.{Err}
use Rattle.mt_log.specs.Scan.{IsWindow, WindowState}
use Rattle.mt_log.proofs.Scans.{other_magic, version_is}
use Rattle.mt_log.proofs.Windows.{rest_same, window_front, window_skipped}
use Rattle.mt_log.proofs.scan.version.Goals as goal

pub returns-clause-version : goal.returns-clause-version
returns-clause-version g c files is =
    let window = c.in_ok-fill.ensures.window files (c.fill.ensures.read.seen_same ∙ is) in
    let bytes = contents files c.args.window.now.file in
    let front = c.front-front.ensures ∙ window_front files c.fill.new.self 8 window c.in_ok-fill.ensures.filled ∙ ap (λ (l : List ℕ). take 8 l) (rest_same files c.args.window.now c.fill.new.self c.fill.ensures.same)
    ∙ ap (λ (n : ℕ). take 8 (drop n bytes)) c.requires.front in
    sym front ∙ version_is c.front-front.result.now c.eq-is_new.result c.eq-is_old.result (c.eq-is_new.ensures ∙ ap (λ (l : List ℕ). pointwise nat_eq c.front-front.result.now l) c.as_slice.ensures)
    (c.eq-is_old.ensures ∙ ap (λ (l : List ℕ). pointwise nat_eq c.front-front.result.now l) c.as_slice-2.ensures) (⊎_elim (λ p. inr p.1) (λ p. inl p) c.else-not-is_new.either)

pub returns-then-not-is_old-clause-refused : goal.returns-then-not-is_old-clause-refused
returns-then-not-is_old-clause-refused g c files is fault named any =
    let window = c.in_ok-fill.ensures.window files (c.fill.ensures.read.seen_same ∙ is) in
    let bytes = contents files c.args.window.now.file in
    let front = c.front-front.ensures ∙ window_front files c.fill.new.self 8 window c.in_ok-fill.ensures.filled ∙ ap (λ (l : List ℕ). take 8 l) (rest_same files c.args.window.now c.fill.new.self c.fill.ensures.same)
    ∙ ap (λ (n : ℕ). take 8 (drop n bytes)) c.requires.front in
    other_magic any bytes (omega (arith, c.requires.long, (c.requires.window files is).end_is))
    ((λ i. pointwise nat_eq (sym front i) (sym c.as_slice.ensures i)) ∙ sym c.eq-is_new.ensures ∙ c.if-not-is_new.true)
    ((λ i. pointwise nat_eq (sym front i) (sym c.as_slice-2.ensures i)) ∙ sym c.eq-is_old.ensures ∙ c.if-not-is_old.true)
    ∙ ap (λ f. Err f) (same_Some NotALog fault named)

pub returns-clause-window : goal.returns-clause-window
returns-clause-window g c files is =
    subst (λ (w : WindowState). IsWindow files w) (sym c.skip.ensures) (window_skipped files c.fill.new.self 8 (c.in_ok-fill.ensures.window files is) c.in_ok-fill.ensures.filled)
