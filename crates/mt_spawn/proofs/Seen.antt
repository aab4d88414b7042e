-- The children in memory as a caller sees them.
use Rattle.std.proofs.Common.{◌≡◌, ◌==◌, ℕ, suc, ◌<◌, Bool, true, false, cond, List, [], ◌∷◌, ◌++◌, length, get_or, refl, ap, sym, subst, ◌∙◌, arith}
use Rattle.std.specs.Prelude.{filter, All, ◌||◌}
use Rattle.std.specs.List.{AllByRecursion, AllZip, Contains, list_any}
use Rattle.std.proofs.lemmas.List.{map-append, get_or-map}
use Rattle.std.proofs.lemmas.List.Elements.{recursion_from_All, All-from_recursion}
use Rattle.mt_spawn.specs.Children.{Child, HasWaited, lives, without}
use Rattle.mt_spawn.specs.Memory.{AddedAs, MemFate, child_of, children_of, is_other}
use Rattle.mt_spawn.specs.declared.children.MemChild.{MemChild}

-- one of the children has a ticket
pub has_ticket : (t : ℕ) (cs : List MemChild) → list_any (λ c. t == c.ticket) cs ≡ lives t (children_of cs)
has_ticket t [] = refl
has_ticket t (c ∷ cs) = ap (λ (b : Bool). t == c.ticket || b) (has_ticket t cs)

-- a child is taken out of what a caller sees
pub children_gone : (t : ℕ) (cs ds : List MemChild) → ds ≡ filter (is_other t) cs → children_of ds ≡ without t (children_of cs)
children_gone t cs ds e = ap children_of e ∙ gone cs
  where
    split : (b : Bool) (c : MemChild) (xs : List MemChild) (ys : List (Child MemFate)) → children_of xs ≡ ys → children_of (cond {A = List MemChild} b (c ∷ xs) xs) ≡ cond {A = List (Child MemFate)} b (child_of c ∷ ys) ys
    split true c xs ys h = ap (λ (ys : List (Child MemFate)). child_of c ∷ ys) h
    split false c xs ys h = h

    gone : (cs : List MemChild) → children_of (filter (is_other t) cs) ≡ without t (children_of cs)
    gone [] = refl
    gone (c ∷ cs) = split (is_other t c) c (filter (is_other t) cs) (without t (children_of cs)) (gone cs)

apart_or : (n m : ℕ) (b : Bool) → m < n → b ≡ false → (n == m || b) ≡ false
apart_or n m b l e = grind (arith, e)

-- no child has a ticket above all
all_apart : (n : ℕ) (cs : List MemChild) → AllByRecursion (λ c. c.ticket < n) cs → lives n (children_of cs) ≡ false
all_apart n [] a = refl
all_apart n (c ∷ cs) a = apart_or n c.ticket (lives n (children_of cs)) a.0 (all_apart n cs a.1)

-- a child is added with a ticket above all
pub added_as : (cs ds : List MemChild) (c : MemChild) → All (λ x. x.ticket < c.ticket) cs → ds ≡ cs ++ c ∷ [] → c.waits ≡ 0 → AddedAs cs c.order c.bytes.items c.ticket ds
added_as cs ds c a e z = record {
  fresh = all_apart c.ticket cs (recursion_from_All (λ (x : MemChild). x.ticket < c.ticket) cs a);
  added = ap children_of e ∙ (map-append child_of cs (c ∷ []) ∙ ap (λ (w : ℕ). children_of cs ++ record { ticket = c.ticket; fate = record { order = c.order; bytes = c.bytes.items }; waits = w } ∷ []) z);
}

below_waits : (n : ℕ) (cs ds : List MemChild) → AllZip HasWaited (children_of cs) (children_of ds) → AllByRecursion (λ c. c.ticket < n) cs → AllByRecursion (λ c. c.ticket < n) ds
below_waits n [] [] h a = tt
below_waits n [] (d ∷ ds) h a = absurd h
below_waits n (c ∷ cs) [] h a = absurd h
below_waits n (c ∷ cs) (d ∷ ds) h a = (subst (λ (m : ℕ). m < n) (sym h.0.ticket) a.0, below_waits n cs ds h.1 a.1)

-- waits leave the tickets
pub still_below : (n : ℕ) (cs ds : List MemChild) → AllZip HasWaited (children_of cs) (children_of ds) → All (λ c. c.ticket < n) cs → All (λ c. c.ticket < n) ds
still_below n cs ds h a = All-from_recursion (λ (c : MemChild). c.ticket < n) ds (below_waits n cs ds h (recursion_from_All (λ (c : MemChild). c.ticket < n) cs a))

abbrev pub Waited : MemChild → MemChild → Type 0
Waited c d = HasWaited (child_of c) (child_of d)

-- waits by index, and by the lists
pub waited_all : (cs ds : List MemChild) → length ds ≡ length cs → ((k : ℕ) (d : MemChild) → k < length cs → Waited (get_or cs k d) (get_or ds k d)) → AllZip HasWaited (children_of cs) (children_of ds)
waited_all [] [] e h = tt
waited_all [] (d ∷ ds) e h = absurd (omega (arith, e))
waited_all (c ∷ cs) [] e h = absurd (omega (arith, e))
waited_all (c ∷ cs) (d ∷ ds) e h = (h 0 c (omega arith), waited_all cs ds (omega (arith, e)) (λ k x l. h (suc k) x (omega (arith, l))))

pub seen_long : (cs : List MemChild) → length (children_of cs) ≡ length cs
seen_long [] = refl
seen_long (c ∷ cs) = ap suc (seen_long cs)

-- the child at a place is one of those that a caller sees
pub seen_at : (cs : List MemChild) (k : ℕ) (c : MemChild) → k < length cs → get_or cs k c ≡ c → Contains (children_of cs) (child_of c)
seen_at cs k c l e = (k, subst (λ (n : ℕ). k < n) (sym (seen_long cs)) l, get_or-map child_of cs k c (child_of c) l ∙ ap child_of e)
