-- The bytes of parts, read from a cursor on.
use Rattle.std.proofs.Common.{◌≡◌, ◌<◌, ◌≤◌, ℕ, ◌+◌, ◌-◌, min, List, [], ◌∷◌, ◌++◌, length, take, drop, get_or, slice_set, refl, sym, ◌∙◌, ap, subst, arith, add-one, append_assoc, length-append, length-drop}
use Rattle.std.proofs.lemmas.List.{drop-append-le, drop-drop, drop-take, drop_all, drop_at, take-append-drop, take-append-le}
use Rattle.std.proofs.lemmas.List.Sums.{sum_by-cons}
use Rattle.std.proofs.lemmas.Slice.{take-put_mid}
use Rattle.std.proofs.Math.Seq.{drop-cons}
use borrow.Rule.Slice.PartMut.{put_mid}
use Rattle.mt_types.specs.declared.body.Body.{Body}
use Rattle.mt_types.specs.declared.upload.PartRow.{PartRow}
use Rattle.mt_body.specs.Stored.{bytes_of}
use Rattle.mt_body.proofs.Cuts.{split_len}
use Rattle.mt_body.proofs.Keeping.{length-bytes_of}
use Rattle.mt_join.specs.Filling.{IsIn, IsWithin, rest, rest_len}
use Rattle.mt_join.specs.Joining.{joined, joined_len}
use Rattle.mt_join.specs.declared.fill.Cursor.{Cursor}

joined_len-cons : (p : PartRow Body) (parts : List (PartRow Body)) → joined_len (p ∷ parts) ≡ p.body.len + joined_len parts
joined_len-cons p parts = sum_by-cons (λ (q : PartRow Body). q.body.len) p parts

-- as many bytes as the parts say
pub length-joined : (ps : List (List ℕ)) (parts : List (PartRow Body)) → length (joined ps parts) ≡ joined_len parts
length-joined ps [] = refl
length-joined ps (p ∷ parts) = omega (arith, length-append (bytes_of ps p.body) (joined ps parts), length-bytes_of ps p.body, length-joined ps parts, joined_len-cons p parts)

-- where none is left
pub rest_none : (ps : List (List ℕ)) (parts : List (PartRow Body)) (c : Cursor) → rest_len parts c ≡ 0 → rest ps parts c ≡ []
rest_none ps parts c none = drop_all c.at (joined ps (drop c.next parts)) (omega (arith, none, length-joined ps (drop c.next parts)))

pub rest_past : (parts : List (PartRow Body)) (c : Cursor) → length parts ≤ c.next → rest_len parts c ≡ 0
rest_past parts c past = let none = ap joined_len (drop_all c.next parts past) in omega (arith, none)

-- what stands where no part does
abbrev pub no_row : PartRow Body
no_row = record { index = 0; number = 0; body = record { first = 0; len = 0; md5 = [] } }

-- the part at the cursor, and those behind it
pub split_at : (parts : List (PartRow Body)) (c : Cursor) (d : PartRow Body) → c.next < length parts → drop c.next parts ≡ get_or parts c.next d ∷ drop (c.next + 1) parts
split_at parts c d less = drop-cons parts c.next d less ∙ ap (λ n. get_or parts c.next d ∷ drop n parts) (sym (add-one c.next))

pub at_part : (parts : List (PartRow Body)) (c : Cursor) (d : PartRow Body) → c.next < length parts → IsWithin parts c → c.at ≤ (get_or parts c.next d).body.len
at_part parts c d less within = subst (λ l. IsIn l c.at) (split_at parts c d less) within

-- the first place
pub within_first : (parts : List (PartRow Body)) → IsIn parts 0
within_first [] = refl
within_first (p ∷ parts) = omega arith

-- so many bytes within the first list
front_of : (xs ys : List ℕ) (at count : ℕ) → at + count ≤ length xs → drop at (xs ++ ys) ≡ take count (drop at xs) ++ drop (at + count) (xs ++ ys)
front_of xs ys at count fits =
    sym (take-append-drop count (drop at (xs ++ ys)))
    ∙ ap (λ l. l ++ drop count (drop at (xs ++ ys))) (ap (take count) (drop-append-le at xs ys (omega (arith, fits))) ∙ take-append-le count (drop at xs) ys (omega (arith, fits, length-drop at xs)))
    ∙ ap (λ l. take count (drop at xs) ++ l) (drop-drop count at (xs ++ ys))

-- so many bytes more of the part at the cursor
module _ (parts : List (PartRow Body)) (c c' : Cursor) (p : PartRow Body) (count : ℕ) (split : drop c.next parts ≡ p ∷ drop (c.next + 1) parts) (fits : c.at + count ≤ p.body.len)
    (inner : c.at + count < p.body.len → c' ≡ record { next = c.next; at = c.at + count }) (last : c.at + count ≡ p.body.len → c' ≡ record { next = c.next + 1; at = 0 }) where
  either : {X : Type 0} → (c.at + count < p.body.len → c' ≡ record { next = c.next; at = c.at + count } → X) → (c.at + count ≡ p.body.len → c' ≡ record { next = c.next + 1; at = 0 } → X) → X
  either one two = split_len (p.body.len - (c.at + count)) (λ none. let end : c.at + count ≡ p.body.len = omega (arith, none, fits) in two end (last end)) (λ some. let within : c.at + count < p.body.len = omega (arith, some) in one within (inner within))

  whole_len : joined_len (drop c.next parts) ≡ p.body.len + joined_len (drop (c.next + 1) parts)
  whole_len = ap joined_len split ∙ joined_len-cons p (drop (c.next + 1) parts)

  pub passed_within : IsWithin parts c'
  passed_within = either
      (λ less is. subst (λ x. IsWithin parts x) (sym is) (subst (λ l. IsIn l (c.at + count)) (sym split) fits))
      (λ end is. subst (λ x. IsWithin parts x) (sym is) (within_first (drop (c.next + 1) parts)))

  pub passed_len : rest_len parts c ≡ count + rest_len parts c'
  passed_len = either
      (λ less is. omega (arith, whole_len, fits, ap (rest_len parts) is))
      (λ end is. omega (arith, whole_len, fits, end, ap (rest_len parts) is))

  pub passed_bytes : (ps : List (List ℕ)) → rest ps parts c ≡ take count (drop c.at (bytes_of ps p.body)) ++ rest ps parts c'
  passed_bytes ps =
      let more = joined ps (drop (c.next + 1) parts) in
      let whole : joined ps (drop c.next parts) ≡ bytes_of ps p.body ++ more = ap (joined ps) split in
      let here = ap (drop c.at) whole ∙ front_of (bytes_of ps p.body) more c.at count (omega (arith, fits, length-bytes_of ps p.body)) in
      either
      (λ less is. here ∙ ap (λ l. take count (drop c.at (bytes_of ps p.body)) ++ drop (c.at + count) l) (sym whole) ∙ ap (λ x. take count (drop c.at (bytes_of ps p.body)) ++ rest ps parts x) (sym is))
      (λ end is.
      here ∙ ap (λ l. take count (drop c.at (bytes_of ps p.body)) ++ l) (drop_at (bytes_of ps p.body) more (c.at + count) (length-bytes_of ps p.body ∙ sym end))
      ∙ ap (λ x. take count (drop c.at (bytes_of ps p.body)) ++ rest ps parts x) (sym is))

  -- the buffer gets fuller, or there are fewer parts left
  pub passed_less : (done room : ℕ) → count ≡ min (room - done) (p.body.len - c.at) → done < room → c.next < length parts → (room - (done + count)) + (length parts - c'.next) < (room - done) + (length parts - c.next)
  passed_less done room count_is less more = either
      (λ within is. omega (arith, count_is, less, more, ap (λ (x : Cursor). x.next) is))
      (λ end is. omega (arith, count_is, less, more, ap (λ (x : Cursor). x.next) is))

-- one part of a body more in a buffer
pub fills_more : (into piece bytes from next last : List ℕ) (done k count : ℕ) → done ≤ length into → length piece ≡ count → from ≡ take done into ++ next → next ≡ take count bytes ++ last → piece ≡ take count bytes
    → from ≡ take (done + count) (put_mid done k into piece) ++ last
fills_more into piece bytes from next last done k count within size first second is =
    first ∙ ap (λ l. take done into ++ l) (second ∙ ap (λ l. l ++ last) (sym is)) ∙ sym (append_assoc (take done into) piece last)
    ∙ ap (λ l. l ++ last) (sym (take-put_mid done k into piece (done + count) (omega (arith, size)) within))

-- a buffer with a mark before what was read
pub marked : (xs into : List ℕ) (n k : ℕ) → 0 < length xs → n ≤ length into → take (n + 1) (put_mid 1 k (slice_set xs 0 0) into) ≡ 0 ∷ take n into
marked [] into n k some fits = let no : ⊥ = omega (arith, some) in absurd no
marked (x ∷ xs) into n k some fits =
    ap (λ m. take m (put_mid 1 k (slice_set (x ∷ xs) 0 0) into)) (add-one n) ∙ ap (λ l. 0 ∷ l) (take-append-le n into (drop k xs) fits)

-- what stands behind the mark
pub behind_mark : (buffer bytes : List ℕ) (n : ℕ) → take (n + 1) buffer ≡ 0 ∷ bytes → take (n + 1 - 1) (drop 1 buffer) ≡ bytes
behind_mark buffer bytes n is =
    let less : n + 1 - 1 ≡ n = omega arith in
    let same : 1 + n ≡ n + 1 = omega arith in
    ap (λ k. take k (drop 1 buffer)) less ∙ sym (drop-take 1 n buffer) ∙ ap (λ k. drop 1 (take k buffer)) same ∙ ap (drop 1) is

pub length-marked : (xs : List ℕ) → length (slice_set xs 0 0) ≡ length xs
length-marked [] = refl
length-marked (x ∷ xs) = refl
