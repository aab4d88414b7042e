-- Files in a spool, piece by piece and one by one.
use Rattle.std.proofs.Common.{◌≡◌, ◌==◌, ℕ, ◌+◌, ◌≤◌, Bool, true, false, cond, List, [], ◌∷◌, ◌++◌, Option, Some, None, option_map, refl, ap, sym, subst, ◌∙◌, arith}
use Rattle.std.specs.Prelude.{◌||◌, IfSome}
use Rattle.std.proofs.lemmas.Bool.{eqb-true}
use Rattle.std.proofs.lemmas.Bool.Decides.{nat_tests}
use Rattle.mt_spawn.specs.Spools.{AppendsFront, SpoolFile, has_file, with_bytes, with_file}
use Rattle.mt_spawn.proofs.SpoolBytes.{with_nothing}
use Rattle.mt_helper.specs.Spooling.{AreTakenBelow, IsLowestFree, PutsFront, PutsWhole, with_record}

-- a file grows that stands behind files of other numbers
pub grown_last : (n : ℕ) (old piece : List ℕ) (fs : List SpoolFile) → has_file n fs ≡ false → with_bytes n piece (with_record n old fs) ≡ with_record n (old ++ piece) fs
grown_last n old piece [] none = here (n == n) (grind (arith, nat_tests))
  where
    here : (b : Bool) → b ≡ true → cond {A = List SpoolFile} b (record { number = n; bytes = old ++ piece } ∷ []) (record { number = n; bytes = old } ∷ []) ≡ record { number = n; bytes = old ++ piece } ∷ []
    here true is = refl
    here false is = absurd (cc)
grown_last n old piece (f ∷ fs) none = here (n == f.number) none (grown_last n old piece fs)
  where
    here : (b : Bool) → (b || has_file n fs) ≡ false → (has_file n fs ≡ false → with_bytes n piece (with_record n old fs) ≡ with_record n (old ++ piece) fs)
        → cond {A = List SpoolFile} b (record f { bytes = f.bytes ++ piece } ∷ with_record n old fs) (f ∷ with_bytes n piece (with_record n old fs)) ≡ f ∷ with_record n (old ++ piece) fs
    here true is others = absurd (cc)
    here false is others = ap (λ l. f ∷ l) (others is)

-- it is there
pub has_last : (n : ℕ) (bytes : List ℕ) (fs : List SpoolFile) → has_file n (with_record n bytes fs) ≡ true
has_last n bytes [] = grind (arith, nat_tests)
has_last n bytes (f ∷ fs) = here (n == f.number) (has_last n bytes fs)
  where
    here : (b : Bool) → has_file n (with_record n bytes fs) ≡ true → (b || has_file n (with_record n bytes fs)) ≡ true
    here true is = refl
    here false is = is

-- no bytes are added
pub nothing_added : (n : ℕ) (piece : List ℕ) (files : Option (List SpoolFile)) → piece ≡ [] → files ≡ option_map (with_bytes n piece) files
nothing_added n piece None none = refl
nothing_added n piece (Some fs) none = sym (ap (λ (p : List ℕ). Some (with_bytes n p fs)) none ∙ ap (λ (l : List SpoolFile). Some l) (with_nothing n fs))

-- the number is free
abbrev pub IsFree : ℕ → Option (List SpoolFile) → Type 0
IsFree n files = IfSome files (λ fs. has_file n fs ≡ false)

pub free_of : (n : ℕ) (files : Option (List SpoolFile)) → IfSome files (λ fs. IsLowestFree fs n) → IsFree n files
free_of n None free = tt
free_of n (Some fs) free = free.free

-- a file that was made grows
pub grown : (n : ℕ) (old piece : List ℕ) (a b c : Option (List SpoolFile)) → IsFree n a → b ≡ option_map (with_record n old) a → c ≡ option_map (with_bytes n piece) b → c ≡ option_map (with_record n (old ++ piece)) a
grown n old piece None b c free made more = more ∙ ap (option_map (with_bytes n piece)) made
grown n old piece (Some fs) b c free made more =
    more ∙ ap (option_map (with_bytes n piece)) made ∙ ap (λ (l : List SpoolFile). Some l) (grown_last n old piece fs free)

-- it is there
pub is_there : (n : ℕ) (old : List ℕ) (a b : Option (List SpoolFile)) → b ≡ option_map (with_record n old) a → IfSome b (λ fs. has_file n fs ≡ true)
is_there n old None b made = subst (λ (o : Option (List SpoolFile)). IfSome o (λ fs. has_file n fs ≡ true)) (sym made) tt
is_there n old (Some fs) b made = subst (λ (o : Option (List SpoolFile)). IfSome o (λ fs. has_file n fs ≡ true)) (sym made) (has_last n old fs)

pub puts_whole : (n : ℕ) (bytes : List ℕ) (a b c : Option (List SpoolFile)) → IfSome a (λ fs. IsLowestFree fs n) → b ≡ option_map (with_file n) a → c ≡ option_map (with_bytes n bytes) b → PutsWhole a bytes c
puts_whole n bytes a b c free made more = record { number = n; free = free; put = grown n [] bytes a b c (free_of n a free) made more }

pub puts_front : (n : ℕ) (bytes : List ℕ) (a b c : Option (List SpoolFile)) → IfSome a (λ fs. IsLowestFree fs n) → b ≡ option_map (with_file n) a → AppendsFront b n bytes c → PutsFront a bytes c
puts_front n bytes a b c free made more = record {
  number = n;
  front = more.written;
  begins = more.front;
  short = more.short;
  free = free;
  put = grown n [] more.written a b c (free_of n a free) made more.grew;
}

-- ---- numbers that are taken

-- none is below the first
pub none_below : (files : Option (List SpoolFile)) → IfSome files (AreTakenBelow 0)
none_below None = tt
none_below (Some fs) = λ k below. absurd (omega (arith, below))

-- a file more leaves each where it was
pub has_more : (k n : ℕ) (bytes : List ℕ) (fs : List SpoolFile) → has_file k fs ≡ true → has_file k (with_record n bytes fs) ≡ true
has_more k n bytes [] there = absurd (cc)
has_more k n bytes (f ∷ fs) there = here (k == f.number) there (has_more k n bytes fs)
  where
    here : (b : Bool) → (b || has_file k fs) ≡ true → (has_file k fs ≡ true → has_file k (with_record n bytes fs) ≡ true) → (b || has_file k (with_record n bytes fs)) ≡ true
    here true is others = refl
    here false is others = others is

-- behind the lowest that was free, all up to it are taken
below_next : (n : ℕ) (bytes : List ℕ) (fs : List SpoolFile) → IsLowestFree fs n → AreTakenBelow (n + 1) (with_record n bytes fs)
below_next n bytes fs free k below = here (k == n) refl
  where
    here : (b : Bool) → (k == n) ≡ b → has_file k (with_record n bytes fs) ≡ true
    here true is = subst (λ (i : ℕ). has_file i (with_record n bytes fs) ≡ true) (sym (eqb-true k n is)) (has_last n bytes fs)
    here false is = has_more k n bytes fs (free.below k (grind (arith, nat_tests, below, is)))

-- the same of files that may not be told, and of the number of a counter
pub taken_next : (n : ℕ) (bytes : List ℕ) (a b : Option (List SpoolFile)) → IfSome a (λ fs. IsLowestFree fs n) → b ≡ option_map (with_record n bytes) a
    → (next : ℕ) → next ≤ n + 1 → IfSome b (AreTakenBelow next)
taken_next n bytes None b free put next few = subst (λ (o : Option (List SpoolFile)). IfSome o (AreTakenBelow next)) (sym put) tt
taken_next n bytes (Some fs) b free put next few =
    subst (λ (o : Option (List SpoolFile)). IfSome o (AreTakenBelow next)) (sym put) (λ k below. below_next n bytes fs free k (omega (arith, below, few)))
