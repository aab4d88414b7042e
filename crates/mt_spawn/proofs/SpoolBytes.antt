-- Files in memory as a caller sees them.
use Rattle.std.proofs.Common.{◌≡◌, ◌==◌, ℕ, suc, zero, ◌<◌, Bool, true, false, cond, List, [], ◌∷◌, ◌++◌, length, get_or, set, take, drop, Some, refl, ap, sym, ◌∙◌, arith, append-nil}
use Rattle.std.proofs.lemmas.List.{length-take, take-append-drop}
use Rattle.mt_spawn.specs.Spools.{AppendsFront, SpoolFile, has_file, with_bytes}
use Rattle.mt_spawn.specs.SpoolMemory.{IsFirst, file_of, files_of}
use Rattle.mt_spawn.specs.declared.mem_spool.MemFile.{MemFile}

-- none of the files has the number
pub none_has : (n : ℕ) (fs : List MemFile) → ((j : ℕ) (d : MemFile) → j < length fs → (n == (get_or fs j d).number) ≡ false) → has_file n (files_of fs) ≡ false
none_has n [] h = refl
none_has n (f ∷ fs) h = rw (h 0 f (omega arith)) (none_has n fs (λ j d l. h (suc j) d (omega (arith, l))))

-- one of them has
pub some_has : (n : ℕ) (fs : List MemFile) (k : ℕ) → IsFirst n fs k → has_file n (files_of fs) ≡ true
some_has n [] k first = absurd (omega (arith, first.there))
some_has n (f ∷ fs) zero first = rw (first.is f) refl
some_has n (f ∷ fs) (suc k) first = rw (first.before 0 f (omega arith))
    (some_has n fs k record { there = omega (arith, first.there); is = λ d. first.is d; before = λ j d l. first.before (suc j) d (omega (arith, l)) })

-- the first file of the number grows
pub first_grows : (n : ℕ) (piece : List ℕ) (fs : List MemFile) (k : ℕ) (g : MemFile) → IsFirst n fs k → ((d : MemFile) → file_of g ≡ record { number = (get_or fs k d).number; bytes = (get_or fs k d).bytes.items ++ piece })
    → files_of (set fs k g) ≡ with_bytes n piece (files_of fs)
first_grows n piece [] k g first is = absurd (omega (arith, first.there))
first_grows n piece (f ∷ fs) zero g first is = rw (first.is f) (ap (λ x. x ∷ files_of fs) (is f))
first_grows n piece (f ∷ fs) (suc k) g first is = rw (first.before 0 f (omega arith))
    (ap (λ xs. file_of f ∷ xs) (first_grows n piece fs k g record { there = omega (arith, first.there); is = λ d. first.is d; before = λ j d l. first.before (suc j) d (omega (arith, l)) } is))

-- nothing is added
pub with_nothing : (n : ℕ) (fs : List SpoolFile) → with_bytes n [] fs ≡ fs
with_nothing n [] = refl
with_nothing n (f ∷ fs) = by (n == f.number) (with_nothing n fs)
  where
    by : (b : Bool) → with_bytes n [] fs ≡ fs → cond {A = List SpoolFile} b (record f { bytes = f.bytes ++ [] } ∷ fs) (f ∷ with_bytes n [] fs) ≡ f ∷ fs
    by true h = ap (λ bytes. record f { bytes = bytes } ∷ fs) (append-nil f.bytes)
    by false h = ap (λ xs. f ∷ xs) h

-- a file in memory that is set to what a caller sees of it is the same
pub same_set : (fs : List MemFile) (k : ℕ) (g : MemFile) → ((d : MemFile) → file_of g ≡ file_of (get_or fs k d)) → files_of (set fs k g) ≡ files_of fs
same_set [] k g is = refl
same_set (f ∷ fs) zero g is = ap (λ x. x ∷ files_of fs) (is f)
same_set (f ∷ fs) (suc k) g is = ap (λ xs. file_of f ∷ xs) (same_set fs k g is)

-- nothing of a piece was added before a fault
pub added_nothing : (n : ℕ) (piece : List ℕ) (fs gs : List SpoolFile) → 0 < length piece → gs ≡ fs → AppendsFront (Some fs) n piece (Some gs)
added_nothing n piece fs gs some same = record { written = []; front = (piece, refl); short = some; grew = ap Some (same ∙ sym (with_nothing n fs)) }

-- a front of it was
pub added_front : (n k : ℕ) (piece : List ℕ) (fs gs : List SpoolFile) → k < length piece → gs ≡ with_bytes n (take k piece) fs → AppendsFront (Some fs) n piece (Some gs)
added_front n k piece fs gs less grew = record { written = take k piece; front = (drop k piece, take-append-drop k piece); short = simp length-take (omega (arith, less)); grew = ap Some grew }

-- within a list the default doesn't matter
pub same_at : (fs : List MemFile) (k : ℕ) (d e : MemFile) → k < length fs → get_or fs k d ≡ get_or fs k e
same_at [] k d e l = absurd (omega (arith, l))
same_at (f ∷ fs) zero d e l = refl
same_at (f ∷ fs) (suc k) d e l = same_at fs k d e (omega (arith, l))

-- what a file holds after bytes were added to it, or were not
pub after_adding : (ok b : Bool) (old more new : List ℕ) → new ≡ cond ok (old ++ more) old → b ≡ ok → cond b (new ≡ old ++ more) (new ≡ old)
after_adding true true old more new is same = is
after_adding false false old more new is same = is
after_adding true false old more new is same = absurd (grind (arith, same))
after_adding false true old more new is same = absurd (grind (arith, same))
