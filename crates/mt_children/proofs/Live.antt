-- Live children by their tickets.
use Rattle.std.proofs.Common.{◌≡◌, ◌==◌, ℕ, suc, ◌<◌, ◌≤◌, Bool, false, List, [], ◌∷◌, length, get_or, refl, ap, sym, subst, arith}
use Rattle.std.specs.Prelude.{All, ◌||◌}
use Rattle.std.specs.List.{AllByRecursion, AllZip, Contains, list_any}
use Rattle.std.proofs.lemmas.List.Elements.{recursion_from_All, All-from_recursion}
use Rattle.mt_spawn.specs.Children.{Child, HasWaited, lives}

abbrev pub Live : Type 0
Live = Child (Unit {0})

-- one of the children has a ticket
pub has_ticket : (t : ℕ) (cs : List Live) → list_any (λ c. t == c.ticket) cs ≡ lives t cs
has_ticket t [] = refl
has_ticket t (c ∷ cs) = ap (λ (b : Bool). t == c.ticket || b) (has_ticket t cs)

apart_or : (n m : ℕ) (b : Bool) → m < n → b ≡ false → (n == m || b) ≡ false
apart_or n m b l e = grind (arith, e)

all_apart : (t n : ℕ) (cs : List Live) → n ≤ t → AllByRecursion (λ c. c.ticket < n) cs → lives t cs ≡ false
all_apart t n [] l a = refl
all_apart t n (c ∷ cs) l a = let first = a.0 in apart_or t c.ticket (lives t cs) (omega (arith, first, l)) (all_apart t n cs l a.1)

-- no child has a ticket above all
pub is_fresh : (t n : ℕ) (cs : List Live) → n ≤ t → All (λ c. c.ticket < n) cs → lives t cs ≡ false
is_fresh t n cs l a = all_apart t n cs l (recursion_from_All (λ (c : Live). c.ticket < n) cs a)

all_below : (n m : ℕ) (cs : List Live) → n ≤ m → AllByRecursion (λ c. c.ticket < n) cs → AllByRecursion (λ c. c.ticket < m) cs
all_below n m [] l a = tt
all_below n m (c ∷ cs) l a = let first = a.0 in (omega (arith, first, l), all_below n m cs l a.1)

-- what is below a number is below a greater one
pub is_below : (n m : ℕ) (cs : List Live) → n ≤ m → All (λ c. c.ticket < n) cs → All (λ c. c.ticket < m) cs
is_below n m cs l a = All-from_recursion (λ (c : Live). c.ticket < m) cs (all_below n m cs l (recursion_from_All (λ (c : Live). c.ticket < n) cs a))

below_waits : (n : ℕ) (cs ds : List Live) → AllZip HasWaited cs ds → AllByRecursion (λ c. c.ticket < n) cs → AllByRecursion (λ c. c.ticket < n) ds
below_waits n [] [] h a = tt
below_waits n [] (d ∷ ds) h a = absurd h
below_waits n (c ∷ cs) [] h a = absurd h
below_waits n (c ∷ cs) (d ∷ ds) h a = (subst (λ (m : ℕ). m < n) (sym h.0.ticket) a.0, below_waits n cs ds h.1 a.1)

-- waits leave the tickets
pub still_below : (n : ℕ) (cs ds : List Live) → AllZip HasWaited cs ds → All (λ c. c.ticket < n) cs → All (λ c. c.ticket < n) ds
still_below n cs ds h a = All-from_recursion (λ (c : Live). c.ticket < n) ds (below_waits n cs ds h (recursion_from_All (λ (c : Live). c.ticket < n) cs a))

-- waits by index, and by the lists
pub waited_all : (cs ds : List Live) → length ds ≡ length cs → ((k : ℕ) (d : Live) → k < length cs → HasWaited (get_or cs k d) (get_or ds k d)) → AllZip HasWaited cs ds
waited_all [] [] e h = tt
waited_all [] (d ∷ ds) e h = absurd (omega (arith, e))
waited_all (c ∷ cs) [] e h = absurd (omega (arith, e))
waited_all (c ∷ cs) (d ∷ ds) e h = (h 0 c (omega arith), waited_all cs ds (omega (arith, e)) (λ k x l. h (suc k) x (omega (arith, l))))

-- the child at a place is one of them
pub is_among : (cs : List Live) (k : ℕ) (c : Live) → k < length cs → get_or cs k c ≡ c → Contains cs c
is_among cs k c l e = (k, l, e)
