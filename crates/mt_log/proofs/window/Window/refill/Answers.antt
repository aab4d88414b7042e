use Rattle.std.proofs.Common.{◌≡◌, ℕ, ◌+◌, ◌-◌, ◌≤◌, List, ◌++◌, length, take, drop, ap, arith, length-drop, length-take, subst, sym, ◌∙◌}
use Rattle.std.specs.Vec.{with_items}
use Rattle.std.proofs.lemmas.List.{with_items_is}
use Rattle.mt_disk.specs.Files.{contents}
use Rattle.mt_log.specs.Scan.{IsWindow, WindowState}
use Rattle.mt_log.proofs.Windows.{held_more}
use Rattle.mt_log.proofs.window.Window.refill.Goals as goal

pub read_behind-requires-clause-fits : goal.read_behind-requires-clause-fits
read_behind-requires-clause-fits g c files is =
    let window = subst (λ (w : WindowState). IsWindow files w) (sym c.self.view_is) (c.requires.window files is) in
    omega (arith, window.end_is)

pub returns-clause-window : goal.returns-clause-window
returns-clause-window g c files is =
    let was = c.self.inside in
    let seen0 = sym c.in_ok-read_behind.ensures.read.seen_same ∙ is in
    let window = subst (λ (w : WindowState). IsWindow files w) (sym c.self.view_is) (c.requires.window files seen0) in
    let n = was.to - was.from in
    let more = c.min-more.result in
    let bytes = contents files was.file in
    let part = take n (drop was.from was.piece.items) in
    let size : length part ≡ n = omega (arith, length-take {A = ℕ}, length-drop {A = ℕ}) in
    let fits : was.at + n + more ≤ length bytes = omega (arith, window.end_is) in
    let moved : take n c.move_front.new.bytes ≡ part = c.move_front.ensures ∙ ap (λ (l : List ℕ). take n (drop was.from l)) c.as_mut_slice.ensures.value in
    let first : (with_items was.piece c.move_front.new.bytes).items ≡ c.move_front.new.bytes = with_items_is was.piece c.move_front.new.bytes (omega (arith, c.move_front.auto.bytes)) in
    let second : (with_items (with_items was.piece c.move_front.new.bytes) c.read_behind.new.bytes).items ≡ c.read_behind.new.bytes = with_items_is (with_items was.piece c.move_front.new.bytes) c.read_behind.new.bytes (omega (arith, c.read_behind.auto.bytes)) in
    let count : n + more - 0 ≡ n + more = omega arith in
    let held : take (n + more - 0) (drop 0 (with_items (with_items was.piece c.move_front.new.bytes) c.read_behind.new.bytes).items) ≡ part ++ take more (drop (was.at + n) bytes) =
    ap (λ (l : List ℕ). take (n + more - 0) l) second ∙ ap (λ (k : ℕ). take k c.read_behind.new.bytes) count ∙ c.in_ok-read_behind.ensures.bytes files seen0
    ∙ ap (λ (l : List ℕ). l ++ take more (drop (was.at + n) bytes)) (ap (λ (l : List ℕ). take n l) (c.as_mut_slice-2.ensures.value ∙ first) ∙ moved) in
    record {
      end_is = window.end_is;
      held_is = subst (λ (l : List ℕ). l ≡ take (length l) (drop was.at bytes)) (sym held)
          (held_more bytes part was.at n more (window.held_is ∙ ap (λ (k : ℕ). take k (drop was.at bytes)) size) fits size);
    }
