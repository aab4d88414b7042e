-- A part of a file in memory.
use Rattle.std.proofs.Common.{◌≡◌, ℕ, ◌+◌, ◌-◌, ◌≤◌, List, ◌++◌, length, take, drop, sym, ◌∙◌, ap, arith, length-append, length-drop}
use Rattle.std.proofs.Math.Seq.{take-add}
use Rattle.std.proofs.lemmas.Slice.{take-put_mid}
use borrow.Rule.Slice.PartMut.{put_mid}
use Rattle.std.proofs.lemmas.List.{drop-drop, drop-take, length-take-le, take-take}
use Rattle.mt_disk.specs.Files.{Files, contents}
use Rattle.mt_log.specs.Scan.{IsWindow, WindowState, rest_at}

-- going over the first bytes of a part
pub part_skipped : (piece : List ℕ) (from to count : ℕ) → from + count ≤ to → take (to - (from + count)) (drop (from + count) piece) ≡ drop count (take (to - from) (drop from piece))
part_skipped piece from to count le =
    let size : to - from ≡ count + (to - (from + count)) = omega arith in
    sym (ap (λ (n : ℕ). drop count (take n (drop from piece))) size
    ∙ drop-take count (to - (from + count)) (drop from piece)
    ∙ ap (λ (l : List ℕ). take (to - (from + count)) l) (drop-drop count from piece))

-- the first bytes of a part
pub part_front : (piece : List ℕ) (from to count : ℕ) → from + count ≤ to → take (from + count - from) (drop from piece) ≡ take count (take (to - from) (drop from piece))
part_front piece from to count le =
    let size : from + count - from ≡ count = omega arith in
    ap (λ (n : ℕ). take n (drop from piece)) size ∙ sym (take-take count (to - from) (drop from piece) (omega arith))

-- bytes behind those that are held
pub held_more : (bytes held : List ℕ) (at n more : ℕ) → held ≡ take n (drop at bytes) → at + n + more ≤ length bytes → (size : length held ≡ n)
    → held ++ take more (drop (at + n) bytes) ≡ take (length (held ++ take more (drop (at + n) bytes))) (drop at bytes)
held_more bytes held at n more is fits size =
    let rest = drop (at + n) bytes in
    let long : length (held ++ take more rest) ≡ n + more = omega (arith, size, length-append held (take more rest), length-take-le more rest (omega (arith, length-drop (at + n) bytes, fits))) in
    ap (λ (l : List ℕ). l ++ take more rest) is
    ∙ ap (λ (l : List ℕ). take n (drop at bytes) ++ take more l) (sym (drop-drop n at bytes))
    ∙ sym (take-add n more (drop at bytes))
    ∙ ap (λ (k : ℕ). take k (drop at bytes)) (sym long)

-- a window that went over bytes is one
pub window_skipped : (files : Files) (window : WindowState) (count : ℕ) → IsWindow files window → count ≤ length window.held
    → IsWindow files (record window { at = window.at + count; held = drop count window.held })
window_skipped files window count is le =
    let rest = rest_at files window in
    let n = length (drop count window.held) in
    let size : length window.held ≡ count + n = omega (arith, length-drop count window.held) in
    record {
      end_is = is.end_is;
      held_is =
          ap (λ (l : List ℕ). drop count l) is.held_is ∙ ap (λ (k : ℕ). drop count (take k rest)) size ∙ drop-take count n rest
          ∙ ap (λ (l : List ℕ). take n l) (drop-drop count window.at (contents files window.file));
    }

-- the first bytes that are held are those of the file
pub window_front : (files : Files) (window : WindowState) (count : ℕ) → IsWindow files window → count ≤ length window.held → take count window.held ≡ take count (rest_at files window)
window_front files window count is le = ap (λ (l : List ℕ). take count l) is.held_is ∙ take-take count (length window.held) (rest_at files window) le

-- a part of a file read behind what is held in front
pub put_read : (bytes ys file : List ℕ) (held more at : ℕ) → held + more ≤ length bytes → at + more ≤ length file
    → ys ≡ take (at + length (take (held + more - held) (drop held bytes)) - at) (drop at file)
    → take (held + more) (put_mid held (held + more - held) bytes ys) ≡ take held bytes ++ take more (drop at file)
put_read bytes ys file held more at room fits read =
    let size : length (take (held + more - held) (drop held bytes)) ≡ more = omega (arith, length-take-le (held + more - held) (drop held bytes) (omega (arith, length-drop held bytes, room)), room) in
    let count : at + length (take (held + more - held) (drop held bytes)) - at ≡ more = omega (arith, size) in
    let is : ys ≡ take more (drop at file) = read ∙ ap (λ (n : ℕ). take n (drop at file)) count in
    let long : length ys ≡ more = ap length is ∙ length-take-le more (drop at file) (omega (arith, length-drop at file, fits)) in
    take-put_mid held (held + more - held) bytes ys (held + more) (omega (arith, long)) (omega (arith, room)) ∙ ap (λ (l : List ℕ). take held bytes ++ l) is

-- a window that read on and then went over bytes
pub window_went : (first was mid now : WindowState) (count left part : ℕ) → was ≡ record first { at = first.at + (count - left); held = was.held } → mid ≡ record was { held = mid.held }
    → now ≡ record mid { at = mid.at + part; held = drop part mid.held } → part ≤ left → left ≤ count → now ≡ record first { at = first.at + (count - (left - part)); held = now.held }
window_went first was mid now count left part one two three few within =
    let file = ap (λ (w : WindowState). w.file) three ∙ ap (λ (w : WindowState). w.file) two ∙ ap (λ (w : WindowState). w.file) one in
    let end = ap (λ (w : WindowState). w.end) three ∙ ap (λ (w : WindowState). w.end) two ∙ ap (λ (w : WindowState). w.end) one in
    let place : now.at ≡ first.at + (count - (left - part)) = omega (arith, ap (λ (w : WindowState). w.at) three, ap (λ (w : WindowState). w.at) two, ap (λ (w : WindowState). w.at) one) in
    λ i. record { file = file i; end = end i; at = place i; held = now.held }

-- one piece more of what was taken
pub taken_more : (bytes piece : List ℕ) (at n part m : ℕ) → m ≡ n + part → piece ≡ take part (drop (at + n) bytes) → take n (drop at bytes) ++ piece ≡ take m (drop at bytes)
taken_more bytes piece at n part m size is =
    ap (λ (l : List ℕ). take n (drop at bytes) ++ l) (is ∙ ap (λ (l : List ℕ). take part l) (sym (drop-drop n at bytes)))
    ∙ sym (take-add n part (drop at bytes)) ∙ ap (λ (k : ℕ). take k (drop at bytes)) (sym size)

-- what the window's file has from its place on
pub rest_same : (files : Files) (old new : WindowState) → new ≡ record old { held = new.held } → rest_at files new ≡ rest_at files old
rest_same files old new same = λ i. drop (ap (λ (w : WindowState). w.at) same i) (contents files (ap (λ (w : WindowState). w.file) same i))

pub rest_size : (files : Files) (window : WindowState) → IsWindow files window → length (rest_at files window) ≡ window.end - window.at
rest_size files window is = omega (arith, is.end_is, length-drop window.at (contents files window.file))

-- what is left behind what was gone over
pub rest_behind : (files : Files) (old new : WindowState) (count : ℕ) → new ≡ record old { at = old.at + count; held = new.held } → rest_at files new ≡ drop count (rest_at files old)
rest_behind files old new count same =
    (λ i. drop (ap (λ (w : WindowState). w.at) same i) (contents files (ap (λ (w : WindowState). w.file) same i))) ∙ sym (drop-drop count old.at (contents files old.file))

-- a window that went on
pub window_on : (first was mid now : WindowState) → was ≡ record first { at = was.at; held = was.held } → mid ≡ record was { held = mid.held } → now ≡ record mid { at = now.at; held = now.held }
    → now ≡ record first { at = now.at; held = now.held }
window_on first was mid now one two three =
    let file = ap (λ (w : WindowState). w.file) three ∙ ap (λ (w : WindowState). w.file) two ∙ ap (λ (w : WindowState). w.file) one in
    let end = ap (λ (w : WindowState). w.end) three ∙ ap (λ (w : WindowState). w.end) two ∙ ap (λ (w : WindowState). w.end) one in
    λ i. record { file = file i; end = end i; at = now.at; held = now.held }
