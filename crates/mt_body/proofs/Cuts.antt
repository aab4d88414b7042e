-- Pieces of bytes.
use Rattle.std.proofs.Common.{◌≡◌, ◌<◌, ◌≤◌, ℕ, ◌+◌, ◌-◌, ◌*◌, min, ◌==◌, ◌&&◌, Bool, true, false, zero, suc, if◌then◌else◌, List, [], ◌∷◌, ◌++◌, length, refl, sym, ◌∙◌, ap, arith, length-append, append-nil}
use Rattle.std.specs.List.{flat_map, list_all}
use Rattle.std.proofs.lemmas.List.Concat.{flat_map-append}
use Rattle.mt_codec.specs.Pieces.{is_piece}
use Rattle.mt_body.specs.Stored.{IsCut, begin_with, piece_bytes}

pub if_not : {X : Type 0} (a b : ℕ) (x y : X) → (a ≡ b → ⊥) → (if a == b then x else y) ≡ y
if_not a b x y is = grind (arith, is)

-- a first piece, and what follows it
pub record Begins (len : ℕ) (p : List ℕ) (ps : List (List ℕ)) : Type 0 where
  pub piece : is_piece p ≡ true
  pub size : length (piece_bytes p) ≡ min len 65536
  pub rest : begin_with (len - 65536) ps ≡ true

three_of : (a b c : Bool) → ((a && b) && c) ≡ true → (a ≡ true) × (b ≡ true) × (c ≡ true)
three_of true true true is = (refl, refl, refl)
three_of true true false is = (refl, refl, is)
three_of true false c is = absurd (cc is)
three_of false b c is = absurd (cc is)

same_of : (n m : ℕ) → (n == m) ≡ true → n ≡ m
same_of n m is = grind (arith, is)

pub begins : (len : ℕ) (p : List ℕ) (ps : List (List ℕ)) → 0 < len → begin_with len (p ∷ ps) ≡ true → Begins len p ps
begins len p ps some is =
    let all = three_of (is_piece p) (length (piece_bytes p) == min len 65536) (begin_with (len - 65536) ps) (sym (if_not len 0 true _ (λ e. omega (arith, e, some))) ∙ is) in
    record { piece = all.0; size = same_of _ _ all.1; rest = all.2 }

both_true : (a b c : Bool) → a ≡ true → b ≡ true → c ≡ true → ((a && b) && c) ≡ true
both_true true true true x y z = refl
both_true true true false x y z = z
both_true true false c x y z = absurd (cc y)
both_true false b c x y z = absurd (cc x)

pub begun : (len : ℕ) (p : List ℕ) (ps : List (List ℕ)) → 0 < len → Begins len p ps → begin_with len (p ∷ ps) ≡ true
begun len p ps some b =
    if_not len 0 true _ (λ e. omega (arith, e, some)) ∙ both_true (is_piece p) (length (piece_bytes p) == min len 65536) (begin_with (len - 65536) ps) b.piece (grind (arith, b.size)) b.rest

pub begin_none : (ps : List (List ℕ)) → begin_with 0 ps ≡ true
begin_none [] = refl
begin_none (p ∷ ps) = refl

pub none_left : (n : ℕ) → begin_with n [] ≡ true → n ≡ 0
none_left n is = grind (arith, is)

pub split_len : {X : Type 0} (n : ℕ) → (n ≡ 0 → X) → (0 < n → X) → X
split_len zero none some = none refl
split_len (suc n) none some = some (omega arith)

-- the pieces have at least so many bytes
pub begin-length : (len : ℕ) (ps : List (List ℕ)) → begin_with len ps ≡ true → len ≤ length (flat_map piece_bytes ps)
begin-length len [] is = omega (arith, none_left len is)
begin-length len (p ∷ ps) is = split_len len (λ none. omega (arith, none))
    (λ some. let b = begins len p ps some is in omega (arith, b.size, length-append (piece_bytes p) (flat_map piece_bytes ps), begin-length (len - 65536) ps b.rest))

pub begin-append : (len : ℕ) (ps qs : List (List ℕ)) → begin_with len ps ≡ true → begin_with len (ps ++ qs) ≡ true
begin-append len [] qs is = ap (λ n. begin_with n qs) (none_left len is) ∙ begin_none qs
begin-append len (p ∷ ps) qs is = split_len len (λ none. ap (λ n. begin_with n (p ∷ (ps ++ qs))) none)
    (λ some. let b = begins len p ps some is in begun len p (ps ++ qs) some (record { piece = b.piece; size = b.size; rest = begin-append (len - 65536) ps qs b.rest }))

-- a mark and 1 to 65,536 bytes
pub piece_of : (bytes : List ℕ) → 0 < length bytes → length bytes ≤ 65536 → is_piece (0 ∷ bytes) ≡ true
piece_of bytes some most = grind (arith, some, most)

begin_push : (pieces : List (List ℕ)) (piece : List ℕ) → 0 < length piece → length piece ≤ 65536 → begin_with (65536 * length pieces) pieces ≡ true
    → begin_with (65536 * length pieces + length piece) (pieces ++ (0 ∷ piece) ∷ []) ≡ true
begin_push [] piece some most is =
    let none : length piece - 65536 ≡ 0 = omega (arith, most) in
    let same : 65536 * 0 + length piece ≡ length piece = omega arith in
    ap (λ n. begin_with n ((0 ∷ piece) ∷ [])) same
    ∙ begun (length piece) (0 ∷ piece) [] some (record { piece = piece_of piece some most; size = omega (arith, most); rest = ap (λ n. begin_with n []) none })
begin_push (p ∷ ps) piece some most is =
    let b = begins (65536 * length (p ∷ ps)) p ps (omega arith) is in
    let less : 65536 * length (p ∷ ps) - 65536 ≡ 65536 * length ps = omega arith in
    let more : (65536 * length (p ∷ ps) + length piece) - 65536 ≡ 65536 * length ps + length piece = omega arith in
    begun (65536 * length (p ∷ ps) + length piece) p (ps ++ (0 ∷ piece) ∷ []) (omega arith) (record {
      piece = b.piece;
      size = omega (arith, b.size);
      rest = ap (λ n. begin_with n (ps ++ (0 ∷ piece) ∷ [])) more ∙ begin_push ps piece some most (sym (ap (λ n. begin_with n ps) less) ∙ b.rest);
    })

all_push : (ps : List (List ℕ)) (q : List ℕ) → list_all is_piece ps ≡ true → is_piece q ≡ true → list_all is_piece (ps ++ q ∷ []) ≡ true
all_push [] q all is = grind (arith, is)
all_push (p ∷ ps) q all is = let both = two_of (is_piece p) (list_all is_piece ps) all in two_true (is_piece p) (list_all is_piece (ps ++ q ∷ [])) both.0 (all_push ps q both.1 is)
  where
    two_of : (a b : Bool) → (a && b) ≡ true → (a ≡ true) × (b ≡ true)
    two_of true b is = (refl, is)
    two_of false b is = absurd (cc is)

    two_true : (a b : Bool) → a ≡ true → b ≡ true → (a && b) ≡ true
    two_true true b x y = y
    two_true false b x y = absurd (cc x)

pub cut_none : IsCut [] []
cut_none = record { cut = refl; all = refl; joined = refl }

-- one piece more behind full ones
pub cut_push : (pieces : List (List ℕ)) (taken piece : List ℕ) → 0 < length piece → length piece ≤ 65536 → length taken ≡ 65536 * length pieces → IsCut pieces taken → IsCut (pieces ++ (0 ∷ piece) ∷ []) (taken ++ piece)
cut_push pieces taken piece some most full c = record {
  cut = ap (λ n. begin_with n (pieces ++ (0 ∷ piece) ∷ [])) (length-append taken piece ∙ ap (λ n. n + length piece) full) ∙ begin_push pieces piece some most (sym (ap (λ n. begin_with n pieces) full) ∙ c.cut);
  all = all_push pieces (0 ∷ piece) c.all (piece_of piece some most);
  joined = flat_map-append piece_bytes pieces ((0 ∷ piece) ∷ []) ∙ ap (λ l. l ++ (piece ++ [])) c.joined ∙ ap (λ l. taken ++ l) (append-nil piece);
}
