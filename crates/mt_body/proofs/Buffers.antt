-- Bytes that are read one after another into one buffer.
use Rattle.std.proofs.Common.{◌≡◌, ◌<◌, ◌≤◌, ℕ, ◌+◌, ◌-◌, List, [], ◌∷◌, ◌++◌, length, take, drop, slice_set, Option, refl, sym, ◌∙◌, ap, arith, add-one}
use Rattle.std.proofs.lemmas.List.{drop-take, drop_at, length-take-le, take-append-le, take-take, take_at}
use Rattle.std.proofs.lemmas.Slice.{take-put_mid}
use Rattle.std.proofs.Math.Seq.{take-add}
use borrow.Rule.Slice.PartMut.{put_mid}
use Rattle.mt_edge.specs.Stream.{LeftAfter}
use Rattle.mt_edge.proofs.Streams.{left_after}

-- a buffer's front, and the front of what was read behind it
filled : (into read : List ℕ) (done n : ℕ) → done ≤ length into → take (done + n) (take done into ++ read) ≡ take done into ++ take n read
filled into read done n fits =
    take-add done n (take done into ++ read) ∙ ap (λ l. l ++ take n (drop done (take done into ++ read))) (take_at (take done into) read done (length-take-le done into fits))
    ∙ ap (λ l. take done into ++ take n l) (drop_at (take done into) read done (length-take-le done into fits))

pub filled_mid : (into read : List ℕ) (done k n : ℕ) → done + k ≡ length into → length read ≡ k → n ≤ k → take (done + n) (put_mid done k into read) ≡ take done into ++ take n read
filled_mid into read done k n size same most =
    sym (take-take (done + n) (length into) (put_mid done k into read) (omega (arith, size, most))) ∙ ap (take (done + n)) (take-put_mid done k into read (length into) (omega (arith, size)) (omega (arith, size, same)))
    ∙ filled into read done n (omega (arith, size))

pub took_on : (o m n : Option (List ℕ)) (into read : List ℕ) (done k count : ℕ) → done + k ≡ length into → length read ≡ k → count ≤ k → LeftAfter o (take done into) m → LeftAfter m (take count read) n
    → LeftAfter o (take (done + count) (put_mid done k into read)) n
took_on o m n into read done k count size same most first next =
    rw (filled_mid into read done k count size same most) (left_after o (take done into) m (take count read) n first next)

-- a buffer with a mark before what was read
pub marked : (xs into : List ℕ) (n k : ℕ) → 0 < length xs → n ≤ length into → take (n + 1) (put_mid 1 k (slice_set xs 0 0) into) ≡ 0 ∷ take n into
marked [] into n k some fits = let no : ⊥ = omega (arith, some) in absurd no
marked (x ∷ xs) into n k some fits =
    ap (λ m. take m (put_mid 1 k (slice_set (x ∷ xs) 0 0) into)) (add-one n) ∙ ap (λ l. 0 ∷ l) (take-append-le n into (drop k xs) fits)

-- what stands behind the mark
pub behind_mark : (buffer bytes : List ℕ) (n : ℕ) → take (n + 1) buffer ≡ 0 ∷ bytes → take (n + 1 - 1) (drop 1 buffer) ≡ bytes
behind_mark buffer bytes n is =
    let less : n + 1 - 1 ≡ n = omega arith in
    let same : 1 + n ≡ n + 1 = omega arith in
    ap (λ k. take k (drop 1 buffer)) less ∙ sym (drop-take 1 n buffer) ∙ ap (λ k. drop 1 (take k buffer)) same ∙ ap (drop 1) is

pub length-marked : (xs : List ℕ) → length (slice_set xs 0 0) ≡ length xs
length-marked [] = refl
length-marked (x ∷ xs) = refl
