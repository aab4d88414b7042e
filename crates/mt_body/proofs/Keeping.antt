-- A log that grows keeps what stands in it.
use Rattle.std.proofs.Common.{◌≡◌, ◌<◌, ◌≤◌, ℕ, ◌==◌, true, if◌then◌else◌, List, [], ◌∷◌, ◌++◌, length, take, replicate, refl, sym, ◌∙◌, ap, arith, length-append}
use Rattle.std.specs.List.{flat_map}
use Rattle.std.proofs.lemmas.List.{length-replicate, length-take-le, take-append-le, take_at}
use Rattle.std.proofs.lemmas.List.Concat.{flat_map-append}
use Rattle.md5.specs.Md5.{md5}
use Rattle.mt_types.specs.declared.body.Body.{Body}
use Rattle.mt_log.specs.Places.{end_of, from_place}
use Rattle.mt_log.proofs.Places.{from_place-append, from_place-end}
use Rattle.mt_body.specs.Stored.{IsCut, KeepsBodies, begin_with, bytes_of, is_stored, piece_bytes}
use Rattle.mt_body.proofs.Cuts.{begin-append, begin-length, if_not, none_left, split_len}

pub length-bytes_of : (ps : List (List ℕ)) (b : Body) → length (bytes_of ps b) ≡ b.len
unfolding bytes_of
length-bytes_of ps b =
    let whole = length-append (flat_map piece_bytes (from_place b.first ps)) (replicate b.len 0) in
    let zeros : length {A = ℕ} (replicate b.len 0) ≡ b.len = length-replicate b.len 0 in
    length-take-le b.len (flat_map piece_bytes (from_place b.first ps) ++ replicate b.len 0) (omega (arith, whole, zeros))

-- what stands at a body that has bytes
pub stored_begins : (ps : List (List ℕ)) (b : Body) → 0 < b.len → is_stored ps b ≡ true → begin_with b.len (from_place b.first ps) ≡ true
unfolding is_stored
stored_begins ps b some is = sym (if_not b.len 0 (b.first == 0) (begin_with b.len (from_place b.first ps)) (λ e. omega (arith, e, some))) ∙ is

pub begins_stored : (ps : List (List ℕ)) (b : Body) → 0 < b.len → begin_with b.len (from_place b.first ps) ≡ true → is_stored ps b ≡ true
unfolding is_stored
begins_stored ps b some is = if_not b.len 0 (b.first == 0) (begin_with b.len (from_place b.first ps)) (λ e. omega (arith, e, some)) ∙ is

-- from the place of a body with bytes on, a longer log has more
some_from : (len place : ℕ) (ps qs xs : List (List ℕ)) → from_place place ps ≡ xs → 0 < len → begin_with len xs ≡ true → from_place place (ps ++ qs) ≡ xs ++ qs
some_from len place ps qs [] from some is = let no : ⊥ = omega (arith, some, none_left len is) in absurd no
some_from len place ps qs (q ∷ rest) from some is = from_place-append place ps qs q rest from

-- what is read does not go past the pieces
front_read : (len : ℕ) (xs ys : List ℕ) → len ≤ length xs → take len ((xs ++ ys) ++ replicate len 0) ≡ take len (xs ++ replicate len 0)
front_read len xs ys long =
    take-append-le len (xs ++ ys) (replicate len 0) (omega (arith, long, length-append xs ys)) ∙ take-append-le len xs ys long ∙ sym (take-append-le len xs (replicate len 0) long)

pub same_bytes : (ps qs : List (List ℕ)) (b : Body) → is_stored ps b ≡ true → bytes_of (ps ++ qs) b ≡ bytes_of ps b
unfolding bytes_of
same_bytes ps qs b is = split_len b.len
    (λ none. ap (λ n. take n (flat_map piece_bytes (from_place b.first (ps ++ qs)) ++ replicate b.len 0)) none ∙ sym (ap (λ n. take n (flat_map piece_bytes (from_place b.first ps) ++ replicate b.len 0)) none))
    (λ some.
    let begin = stored_begins ps b some is in
    ap (λ l. take b.len (flat_map piece_bytes l ++ replicate b.len 0)) (some_from b.len b.first ps qs (from_place b.first ps) refl some begin)
    ∙ ap (λ l. take b.len (l ++ replicate b.len 0)) (flat_map-append piece_bytes (from_place b.first ps) qs)
    ∙ front_read b.len (flat_map piece_bytes (from_place b.first ps)) (flat_map piece_bytes qs) (begin-length b.len (from_place b.first ps) begin))

pub still_stored : (ps qs : List (List ℕ)) (b : Body) → is_stored ps b ≡ true → is_stored (ps ++ qs) b ≡ true
unfolding is_stored
still_stored ps qs b is = split_len b.len
    (λ none. ap (λ n. if n == 0 then b.first == 0 else begin_with n (from_place b.first (ps ++ qs))) none ∙ sym (ap (λ n. if n == 0 then b.first == 0 else begin_with n (from_place b.first ps)) none) ∙ is)
    (λ some.
    let begin = stored_begins ps b some is in
    begins_stored (ps ++ qs) b some (ap (begin_with b.len) (some_from b.len b.first ps qs (from_place b.first ps) refl some begin) ∙ begin-append b.len (from_place b.first ps) qs begin))

pub keeps : (ps qs : List (List ℕ)) → KeepsBodies ps (ps ++ qs)
keeps ps qs = record {
  kept = λ b is. record { pieces = still_stored ps qs b is.pieces; digest = is.digest ∙ ap md5 (sym (same_bytes ps qs b is.pieces)) };
  same = λ b is. same_bytes ps qs b is.pieces;
}

-- a body that was just written
pub record New (ps pieces : List (List ℕ)) (bytes : List ℕ) (b : Body) : Type 0 where
  pub stored : is_stored (ps ++ pieces) b ≡ true
  pub reads : bytes_of (ps ++ pieces) b ≡ bytes

new_some : (ps pieces : List (List ℕ)) (bytes : List ℕ) (b : Body) → IsCut pieces bytes → b.len ≡ length bytes → 0 < b.len → b.first ≡ end_of ps → New ps pieces bytes b
unfolding bytes_of
new_some ps pieces bytes b cut len some first =
    let here : from_place b.first (ps ++ pieces) ≡ pieces = ap (λ place. from_place place (ps ++ pieces)) first ∙ from_place-end ps pieces in
    record {
      stored = begins_stored (ps ++ pieces) b some (ap (begin_with b.len) here ∙ ap (λ n. begin_with n pieces) len ∙ cut.cut);
      reads = ap (λ l. take b.len (flat_map piece_bytes l ++ replicate b.len 0)) here ∙ ap (λ l. take b.len (l ++ replicate b.len 0)) cut.joined ∙ take_at bytes (replicate b.len 0) b.len (sym len);
    }

new_none : (ps pieces : List (List ℕ)) (bytes : List ℕ) (b : Body) → b.len ≡ length bytes → b.len ≡ 0 → b.first ≡ 0 → New ps pieces bytes b
unfolding bytes_of is_stored
new_none ps pieces [] b len none first = record {
  stored = ap (λ n. if n == 0 then b.first == 0 else begin_with n (from_place b.first (ps ++ pieces))) none ∙ ap (λ n. n == 0) first;
  reads = ap (λ n. take n (flat_map piece_bytes (from_place b.first (ps ++ pieces)) ++ replicate b.len 0)) none;
}
new_none ps pieces (x ∷ xs) b len none first = let no : ⊥ = omega (arith, len, none) in absurd no

pub new_body : (ps pieces : List (List ℕ)) (bytes : List ℕ) (b : Body) → IsCut pieces bytes → b.len ≡ length bytes → (0 < b.len → b.first ≡ end_of ps) → (b.len ≡ 0 → b.first ≡ 0) → New ps pieces bytes b
new_body ps pieces bytes b cut len some none = split_len b.len (λ is. new_none ps pieces bytes b len is (none is)) (λ is. new_some ps pieces bytes b cut len is (some is))
