-- A part of a stored body, within one of its pieces.
use Rattle.std.proofs.Common.{◌≡◌, ◌<◌, ◌≤◌, ℕ, zero, suc, ◌+◌, ◌-◌, ◌*◌, ◌/◌, ◌%◌, min, true, List, [], ◌∷◌, ◌++◌, length, take, drop, replicate, refl, sym, ◌∙◌, ap, arith, length-append, length-drop, append_assoc}
use Rattle.std.specs.List.{flat_map, slice_range}
use Rattle.std.proofs.lemmas.List.{drop-append-le, drop-take, take-append-le, take-take}
use Rattle.std.proofs.Math.Seq.{drop-append-add}
use Rattle.mt_types.specs.declared.body.Body.{Body}
use Rattle.mt_codec.specs.Pieces.{is_piece}
use Rattle.mt_log.specs.Places.{end_from, end_of, first_payload, from_place, payload_at}
use Rattle.mt_log.proofs.Places.{behind, end_from-append, end_from-rises, from_place-next}
use Rattle.mt_body.specs.Stored.{begin_with, bytes_of, is_stored, piece_bytes}
use Rattle.mt_body.proofs.Cuts.{begins, none_left}
use Rattle.mt_body.proofs.Keeping.{stored_begins}

mark_and_bytes : (p : List ℕ) → is_piece p ≡ true → length p ≡ 1 + length (piece_bytes p)
mark_and_bytes [] is = absurd (cc is)
mark_and_bytes (m ∷ bytes) is = omega arith

-- a place where something stands is no later than the end
place_within : (place : ℕ) (ps : List (List ℕ)) (q : List ℕ) (rest : List (List ℕ)) → from_place place ps ≡ q ∷ rest → place ≤ end_of ps
unfolding end_of
place_within place ps q rest is =
    let b = behind place ps q rest is in
    omega (arith, b.place_is, ap (λ l. end_from 8 l) b.whole, end_from-append 8 b.earlier (q ∷ rest), end_from-rises (end_from 8 b.earlier) (q ∷ rest))

-- the piece of a number, with the bytes before it and behind it
record Found (k : ℕ) (ps qs : List (List ℕ)) (place len : ℕ) : Type 0 where
  piece : List ℕ
  there : payload_at (place + 65558 * k) ps ≡ piece
  size : length (piece_bytes piece) ≡ min (len - 65536 * k) 65536
  marked : length piece ≡ 1 + length (piece_bytes piece)
  front : List ℕ
  back : List ℕ
  split : flat_map piece_bytes qs ≡ front ++ (piece_bytes piece ++ back)
  before : length front ≡ 65536 * k
  within : place + 65558 * k ≤ end_of ps

find_piece : (k : ℕ) (ps qs : List (List ℕ)) (place len : ℕ) → from_place place ps ≡ qs → begin_with len qs ≡ true → 65536 * k < len → Found k ps qs place len
find_piece k ps [] place len from is less = let no : ⊥ = omega (arith, none_left len is, less) in absurd no
find_piece zero ps (p ∷ rest) place len from is less =
    let b = begins len p rest (omega (arith, less)) is in
    let same : place + 65558 * 0 ≡ place = omega arith in
    record {
      piece = p;
      there = ap (λ n. payload_at n ps) same ∙ ap first_payload from;
      size = omega (arith, b.size);
      marked = mark_and_bytes p b.piece;
      front = [];
      back = flat_map piece_bytes rest;
      split = refl;
      before = omega arith;
      within = omega (arith, place_within place ps p rest from);
    }
find_piece (suc k) ps (p ∷ rest) place len from is less =
    let b = begins len p rest (omega (arith, less)) is in
    let marked = mark_and_bytes p b.piece in
    let n = find_piece k ps rest (place + 21 + length p) (len - 65536) (from_place-next place ps p rest from) b.rest (omega (arith, less)) in
    let same : place + 65558 * suc k ≡ place + 21 + length p + 65558 * k = omega (arith, marked, b.size, less) in
    record {
      piece = n.piece;
      there = ap (λ x. payload_at x ps) same ∙ n.there;
      size = omega (arith, n.size);
      marked = n.marked;
      front = piece_bytes p ++ n.front;
      back = n.back;
      split = ap (λ l. piece_bytes p ++ l) n.split ∙ sym (append_assoc (piece_bytes p) n.front (piece_bytes n.piece ++ n.back));
      before = omega (arith, n.before, b.size, less, length-append (piece_bytes p) n.front);
      within = omega (arith, n.within, same);
    }

in_piece : (piece : List ℕ) (off n : ℕ) → length piece ≡ 1 + length (piece_bytes piece) → slice_range piece (1 + off) (1 + off + n) ≡ take n (drop off (piece_bytes piece))
in_piece [] off n size = let none : ⊥ = omega (arith, size) in absurd none
in_piece (m ∷ bytes) off n size =
    let more : 1 + off ≡ suc off = omega arith in
    let count : 1 + off + n - (1 + off) ≡ n = omega arith in
    ap (λ k. take k (drop (1 + off) (m ∷ bytes))) count ∙ ap (λ k. take n (drop k (m ∷ bytes))) more

in_body : (whole zeros front piece back : List ℕ) (len off n : ℕ) → whole ≡ front ++ (piece ++ back) → off + n ≤ length piece → length front + off + n ≤ len
    → take n (drop (length front + off) (take len (whole ++ zeros))) ≡ take n (drop off piece)
in_body whole zeros front piece back len off n is fits most =
    let all : len ≡ length front + off + (len - (length front + off)) = omega (arith, most) in
    let split : whole ++ zeros ≡ front ++ (piece ++ (back ++ zeros)) = ap (λ l. l ++ zeros) is ∙ append_assoc front (piece ++ back) zeros ∙ ap (λ l. front ++ l) (append_assoc piece back zeros) in
    ap (λ k. take n (drop (length front + off) (take k (whole ++ zeros)))) all
    ∙ ap (take n) (drop-take (length front + off) (len - (length front + off)) (whole ++ zeros))
    ∙ take-take n (len - (length front + off)) (drop (length front + off) (whole ++ zeros)) (omega (arith, most))
    ∙ ap (λ l. take n (drop (length front + off) l)) split
    ∙ ap (take n) (drop-append-add front (piece ++ (back ++ zeros)) off)
    ∙ ap (take n) (drop-append-le off piece (back ++ zeros) (omega (arith, fits)))
    ∙ take-append-le n (drop off piece) (back ++ zeros) (omega (arith, fits, length-drop off piece))

-- what a read of a part of one piece needs and gives
pub record PartOf (ps : List (List ℕ)) (b : Body) (place at n : ℕ) : Type 0 where
  pub fits : 1 + at % 65536 + n ≤ length (payload_at place ps)
  pub bytes : slice_range (payload_at place ps) (1 + at % 65536) (1 + at % 65536 + n) ≡ take n (drop at (bytes_of ps b))

pub part_of : (ps : List (List ℕ)) (b : Body) (place at n : ℕ) → is_stored ps b ≡ true → 0 < n → n ≤ 65536 - at % 65536 → at + n ≤ b.len
    → (b.first + 65558 * (at / 65536) ≤ end_of ps → place ≡ b.first + 65558 * (at / 65536)) → PartOf ps b place at n
unfolding bytes_of
part_of ps b place at n stored some piece most place_is =
    let begin = stored_begins ps b (omega (arith, some, most)) stored in
    let f = find_piece (at / 65536) ps (from_place b.first ps) b.first b.len refl begin (omega (arith, some, most)) in
    let here = place_is f.within in
    let reads = ap (λ x. payload_at x ps) here ∙ f.there in
    let split : at ≡ length f.front + at % 65536 = omega (arith, f.before) in
    let last : length f.front + at % 65536 + n ≤ b.len = omega (arith, f.before, most) in
    let fits : at % 65536 + n ≤ length (piece_bytes f.piece) = omega (arith, f.size, piece, most) in
    record {
      fits = omega (arith, ap length reads, fits, f.marked);
      bytes =
          ap (λ l. slice_range l (1 + at % 65536) (1 + at % 65536 + n)) reads ∙ in_piece f.piece (at % 65536) n f.marked
          ∙ sym (in_body (flat_map piece_bytes (from_place b.first ps)) (replicate b.len 0) f.front (piece_bytes f.piece) f.back b.len (at % 65536) n f.split fits last)
          ∙ sym (ap (λ a. take n (drop a (take b.len (flat_map piece_bytes (from_place b.first ps) ++ replicate b.len 0)))) split);
    }
