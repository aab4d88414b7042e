-- A slice is filled piece by piece.
use Rattle.std.proofs.Common.{◌≡◌, ◌≤◌, ℕ, ◌+◌, List, ◌++◌, length, take, drop, Option, Some, None, refl, sym, ap, ◌∙◌, subst, arith}
use Rattle.std.specs.Prelude.{IfSome}
use Rattle.std.proofs.Math.Seq.{take-add, take-length}
use Rattle.std.proofs.lemmas.List.{drop-drop, drop_at, length-take-le, take-take, take_at}
use Rattle.std.proofs.lemmas.Slice.{take-put_mid}
use borrow.Rule.Slice.PartMut.{put_mid}

-- a slice's front, and the front of what was read behind it
filled_mid : (into read : List ℕ) (done k n : ℕ) → done + k ≡ length into → length read ≡ k → n ≤ k → take (done + n) (put_mid done k into read) ≡ take done into ++ take n read
filled_mid into read done k n size same most =
    sym (take-take (done + n) (length into) (put_mid done k into read) (omega (arith, size, most))) ∙ ap (take (done + n)) (take-put_mid done k into read (length into) (omega (arith, size)) (omega (arith, size, same)))
    ∙ take-add done n (take done into ++ read)
    ∙ (λ i. take_at (take done into) read done (length-take-le done into (omega (arith, size))) i ++ take n (drop_at (take done into) read done (length-take-le done into (omega (arith, size))) i))

-- a piece more stands behind the front
pub filled_on : (told : Option (List ℕ)) (into read : List ℕ) (done k n at : ℕ) → done + k ≡ length into → length read ≡ k → n ≤ k → IfSome told (λ bytes. take done into ≡ take done (drop at bytes))
    → IfSome told (λ bytes. take n read ≡ take n (drop (at + done) bytes)) → IfSome told (λ bytes. take (done + n) (put_mid done k into read) ≡ take (done + n) (drop at bytes))
filled_on None into read done k n at size same most first next = tt
filled_on (Some bytes) into read done k n at size same most first next =
    filled_mid into read done k n size same most ∙ (λ i. first i ++ next i)
    ∙ ap (λ (l : List ℕ). take done (drop at bytes) ++ take n l) (sym (drop-drop done at bytes)) ∙ sym (take-add done n (drop at bytes))

-- it is full
pub filled_all : (told : Option (List ℕ)) (into : List ℕ) (done at : ℕ) → done ≡ length into → IfSome told (λ bytes. take done into ≡ take done (drop at bytes)) → IfSome told (λ bytes. into ≡ take (length into) (drop at bytes))
filled_all None into done at full is = tt
filled_all (Some bytes) into done at full is = sym (take-length into) ∙ ap (λ (n : ℕ). take n into) (sym full) ∙ is ∙ ap (λ (n : ℕ). take n (drop at bytes)) full
