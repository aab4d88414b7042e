-- A text that is cut in what stands before its parts, the parts, and what stands behind them.
use Rattle.std.proofs.Common.{◌≡◌, ℕ, zero, suc, ◌+◌, ◌-◌, ◌*◌, ◌<◌, ◌≤◌, min, List, [], ◌∷◌, ◌++◌, map, length, get_or, take, drop, refl, sym, ap, ◌∙◌, arith, append-nil, length-append, length-drop}
use Rattle.std.specs.List.{flat_map, range_with_len}
use Rattle.std.proofs.Math.ListN.{get_or-append}
use Rattle.std.proofs.Math.Seq.{get_or-append_right, take-add}
use Rattle.std.proofs.lemmas.Grind.{flat_map-append}
use Rattle.std.proofs.lemmas.List.{take_all}
use Rattle.std.proofs.lemmas.List.FromFn.{get_or-map-range_with_len, length-map-range_with_len, map-range_with_len_more}
use Rattle.json.specs.Print.{escape, escape_byte}
use Rattle.mt_jobtext.specs.StatusPieces.{part_count, part_of}
use Rattle.mt_jobtext.proofs.Windows.{take_less}

-- so many parts of a text
parts_taken : (text : List ℕ) (n : ℕ) → flat_map (λ piece. piece) (map (λ k. escape (part_of text k)) (range_with_len 0 n)) ≡ escape (take (n * 4096) text)
parts_taken text zero = refl
parts_taken text (suc n) =
    let f = λ (k : ℕ). escape (part_of text k) in
    let on : suc n ≡ n + 1 = omega arith in
    let more : n * 4096 + 4096 ≡ suc n * 4096 = omega arith in
    ap (λ m. flat_map (λ piece. piece) (map f (range_with_len 0 m))) on
    ∙ ap (flat_map (λ piece. piece)) (map-range_with_len_more f 0 n n (omega arith))
    ∙ flat_map-append (λ piece. piece) (map f (range_with_len 0 n)) (f n ∷ [])
    ∙ (λ k. parts_taken text n k ++ append-nil (f n) k)
    ∙ sym (flat_map-append escape_byte (take (n * 4096) text) (part_of text n))
    ∙ ap escape (sym (take-add (n * 4096) 4096 text))
    ∙ ap (λ m. escape (take m text)) more

-- all of them are the text
pub parts_escaped : (text : List ℕ) → flat_map (λ piece. piece) (map (λ k. escape (part_of text k)) (range_with_len 0 (part_count text))) ≡ escape text
parts_escaped text = parts_taken text (part_count text) ∙ ap escape (take_all (part_count text * 4096) text (omega arith))

-- a part as code takes it
pub part_taken : (text : List ℕ) (a n : ℕ) → n ≡ min (length (take (length text - a) (drop a text))) 4096 → take n (take (length text - a) (drop a text)) ≡ take 4096 (drop a text)
part_taken text a n is =
    let rest : take (length text - a) (drop a text) ≡ drop a text = take_all (length text - a) (drop a text) (omega (arith, length-drop a text)) in
    ap (take n) rest ∙ same (drop a text) n (is ∙ ap (λ l. min (length l) 4096) rest)
  where
    same : (xs : List ℕ) (m : ℕ) → m ≡ min (length xs) 4096 → take m xs ≡ take 4096 xs
    same xs m size = take_less m 4096 xs size

module _ (front rest : List ℕ) (f : ℕ → List ℕ) (count : ℕ) where
  abbrev cut : List (List ℕ)
  cut = front ∷ (map f (range_with_len 0 count) ++ rest ∷ [])

  parts_count : length (map f (range_with_len 0 count)) ≡ count
  parts_count = length-map-range_with_len f 0 count

  pub cut_count : length cut ≡ count + 2
  cut_count = omega (arith, length-append (map f (range_with_len 0 count)) (rest ∷ []), parts_count)

  pub cut_joined : flat_map (λ piece. piece) cut ≡ front ++ (flat_map (λ piece. piece) (map f (range_with_len 0 count)) ++ rest)
  cut_joined =
      ap (λ (l : List ℕ). front ++ l)
      (flat_map-append (λ piece. piece) (map f (range_with_len 0 count)) (rest ∷ [])
      ∙ ap (λ (l : List ℕ). flat_map (λ piece. piece) (map f (range_with_len 0 count)) ++ l) (append-nil rest))

  get_behind : (xs : List (List ℕ)) (n : ℕ) → 0 < n → get_or (front ∷ xs) n [] ≡ get_or xs (n - 1) []
  get_behind xs zero some = absurd (omega arith)
  get_behind xs (suc n) some = let is : n ≡ suc n - 1 = omega arith in ap (λ k. get_or xs k []) is

  -- the piece of a number
  pub cut_front : (n : ℕ) → n ≡ 0 → front ≡ get_or cut n []
  cut_front n is = ap (λ k. get_or cut k []) (sym is)

  pub cut_part : (n : ℕ) → 0 < n → n ≤ count → f (n - 1) ≡ get_or cut n []
  cut_part n some within =
      sym
      (get_behind (map f (range_with_len 0 count) ++ rest ∷ []) n some
      ∙ get_or-append (map f (range_with_len 0 count)) (rest ∷ []) [] (n - 1) (omega (arith, parts_count))
      ∙ get_or-map-range_with_len f 0 count (n - 1) (n - 1) [] (omega arith) (omega arith))

  pub cut_rest : (n : ℕ) → count < n → n < length cut → rest ≡ get_or cut n []
  cut_rest n past within =
      let last : n - 1 - length (map f (range_with_len 0 count)) ≡ 0 = omega (arith, parts_count, cut_count) in
      sym
      (get_behind (map f (range_with_len 0 count) ++ rest ∷ []) n (omega arith)
      ∙ get_or-append_right (map f (range_with_len 0 count)) (rest ∷ []) (n - 1) [] (omega (arith, parts_count))
      ∙ ap (λ k. get_or (rest ∷ []) k []) last)
