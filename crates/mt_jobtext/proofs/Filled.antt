-- A window over the pieces of a text, from a place of it on: one piece more.
use Rattle.std.proofs.Common.{◌≡◌, ℕ, ◌+◌, ◌^◌, ◌<◌, ◌≤◌, List, [], ◌++◌, length, get_or, take, drop, refl, sym, ap, ◌∙◌, arith, append_assoc, inl, length-append, length-drop}
use Rattle.std.specs.List.{flat_map}
use Rattle.std.proofs.lemmas.List.{drop-append-le, drop-drop, length-take-le, take-append-drop, take_all}
use Rattle.mt_jobtext.specs.Places.{FillsFrom, IsPlace, left_of, rest_of}
use Rattle.mt_jobtext.specs.Windows.{Puts, Seen}
use Rattle.mt_jobtext.specs.declared.fill.Place.{Place}
use Rattle.mt_jobtext.proofs.Lists.{drop_next}

-- before a piece: what a window that began so shows of what was left behind a place, of which it passes over what is not left of this piece
pub record Goes (ps : List (List ℕ)) (place : Place) (start w : Seen) (next : ℕ) : Type 0 where
  pub at_in : w.skip ≤ length (get_or ps next [])
  pub goes : left_of ps place ≡ w.got ++ drop w.skip (rest_of ps next)
  pub some : 0 < w.room
  pub filled : length w.got + w.room ≡ start.room
  pub short : length (rest_of ps next) < 2 ^ 64
  pub size_is : w.size ≡ start.size

-- before the first one
pub goes_first : (ps : List (List ℕ)) (place : Place) (w : Seen) → IsPlace ps place → w.skip ≡ place.at → w.got ≡ [] → 0 < w.room → Goes ps place w w place.next
goes_first ps place w is skip got some = record {
  at_in = omega (arith, is.at_in, skip);
  goes = λ k. sym got k ++ drop (sym skip k) (rest_of ps place.next);
  some = some;
  filled = omega (arith, ap length got);
  short = is.short;
  size_is = refl;
}

module _ (ps : List (List ℕ)) (place : Place) (start w after : Seen) (next : ℕ) (h : Goes ps place start w next) (within : next < length ps) (put : Puts (get_or ps next []) w after) where
  abbrev piece : List ℕ
  piece = get_or ps next []

  abbrev left : List ℕ
  left = drop w.skip piece

  abbrev more : List ℕ
  more = rest_of ps (next + 1)

  rest_is : rest_of ps next ≡ piece ++ more
  rest_is = ap (flat_map (λ (p : List ℕ). p)) (drop_next ps next [] within)

  -- what was left begins with the rest of this piece
  left_before : drop w.skip (rest_of ps next) ≡ left ++ more
  left_before = ap (drop w.skip) rest_is ∙ drop-append-le w.skip piece more h.at_in

  -- the window took all of it
  pub goes_whole : 0 < after.room → Goes ps place start after (next + 1)
  goes_whole some =
      let all : take w.room left ≡ left = take_all w.room left (omega (arith, put.room_is)) in
      let got : after.got ≡ w.got ++ left = put.got_is ∙ ap (λ (l : List ℕ). w.got ++ l) all in
      let none : after.skip ≡ 0 = omega (arith, put.skip_is, h.at_in) in
      record {
        at_in = omega arith;
        goes = h.goes ∙ ap (λ (l : List ℕ). w.got ++ l) left_before ∙ sym (append_assoc w.got left more) ∙ (λ k. sym got k ++ drop (sym none k) more);
        some = some;
        filled = omega (arith, h.filled, put.room_is, ap length got, length-append w.got left);
        short = omega (arith, h.short, ap length rest_is, length-append piece more);
        size_is = put.size_is ∙ h.size_is;
      }

  -- or as much as it had room for, which ends in the piece
  part_in : (at room : ℕ) → after.room ≡ 0 → at ≡ w.skip → room ≡ w.room → at + room ≤ length piece
  part_in at room full at_is room_is = omega (arith, put.room_is, h.at_in, h.some, length-drop w.skip piece)

  part_left : (at room : ℕ) → after.room ≡ 0 → at ≡ w.skip → room ≡ w.room → drop (at + room) (rest_of ps next) ≡ drop w.room left ++ more
  part_left at room full at_is room_is =
      ap (drop (at + room)) rest_is
      ∙ drop-append-le (at + room) piece more (part_in at room full at_is room_is)
      ∙ ap (λ (l : List ℕ). l ++ more) ((λ k. drop (at_is k + room_is k) piece) ∙ sym (drop-drop w.room w.skip piece))

  part_goes : (at room : ℕ) → after.room ≡ 0 → at ≡ w.skip → room ≡ w.room → left_of ps place ≡ after.got ++ drop (at + room) (rest_of ps next)
  part_goes at room full at_is room_is =
      h.goes
      ∙ ap (λ (l : List ℕ). w.got ++ l) (left_before ∙ ap (λ (l : List ℕ). l ++ more) (sym (take-append-drop w.room left)) ∙ append_assoc (take w.room left) (drop w.room left) more)
      ∙ sym (append_assoc w.got (take w.room left) (drop w.room left ++ more))
      ∙ (λ k. sym put.got_is k ++ sym (part_left at room full at_is room_is) k)

  part_long : after.room ≡ 0 → length after.got ≡ start.room
  part_long full =
      omega (arith, h.filled, ap length put.got_is, length-append w.got (take w.room left), length-take-le w.room left (omega (arith, put.room_is)))

  pub fills_part : (at room : ℕ) → after.room ≡ 0 → at ≡ w.skip → room ≡ w.room → FillsFrom ps place start.room after.got (record { next = next; at = at + room })
  fills_part at room full at_is room_is = record {
    place = record { next_in = omega arith; at_in = part_in at room full at_is room_is; short = h.short };
    goes = part_goes at room full at_is room_is;
    within = omega (arith, part_long full);
    full = inl (part_long full);
  }
