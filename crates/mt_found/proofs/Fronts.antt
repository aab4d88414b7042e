-- Fronts of paths: what is below a path begins with it, and paths with different fronts are in the order of these.
use Rattle.std.proofs.Common.{◌≡◌, ℕ, zero, suc, ◌+◌, ◌-◌, ◌<◌, ◌≤◌, Bool, true, false, ◌||◌, nat_lt, List, [], ◌∷◌, length, take, Some, ⊎_elim, refl, sym, ap, subst, ◌∙◌, arith}
use Rattle.std.specs.Cmp.{both_ways}
use Rattle.std.specs.Cmp.Lexicographic.{slice_cmp}
use Rattle.std.specs.Ordering.{nat_cmp, ordering_reverse, ordering_then}
use Rattle.std.specs.declared.cmp.Ordering.{Ordering}
use Rattle.std.specs.declared.cmp.Ordering.TheVariants.{Less, Equal, Greater}
use Rattle.std.proofs.lemmas.Bool.{and_from, and_parts, cases_Bool, false_from_ne_true, lt-ltb, ltb-false, ltb-true, or_left, or_right, true≢false}
use Rattle.std.proofs.lemmas.List.{length-take, take-take, take_all}
use Rattle.mt_path.specs.AccountPath.{AccountPath, IsUnder, parent_of}
use Rattle.mt_path.specs.PathOrder.{path_cmp, path_cmp_total}
use Rattle.mt_path.proofs.Orders.{path_cmp-under}
use Rattle.mt_model.specs.Rows.{is_child, is_path}
use Rattle.mt_model.proofs.Children.{above, above-parent, parent-above}
use Rattle.mt_model.proofs.RowLaws.{is_path-exact, is_path-self, parent-is_child, is_child-parent}
use Rattle.mt_found.specs.Found.{front_of, is_below}

-- a path is another or below it
abbrev pub is_within : AccountPath → AccountPath → Bool
is_within d p = is_path d (front_of (length d.parts) p)

-- ---- fronts

pub within-front : (d p : AccountPath) → is_within d p ≡ true → d ≡ front_of (length d.parts) p
within-front d p t = is_path-exact d (front_of (length d.parts) p) t

pub front-within : (d p : AccountPath) → d ≡ front_of (length d.parts) p → is_within d p ≡ true
front-within d p e = subst (λ q. is_path d q ≡ true) e (is_path-self d)

pub front_whole : (n : ℕ) (p : AccountPath) → length p.parts ≤ n → front_of n p ≡ p
front_whole n p short = ap (λ parts. record { area = p.area; parts = parts }) (take_all n p.parts short)

pub front_front : (m n : ℕ) (p : AccountPath) → m ≤ n → front_of m (front_of n p) ≡ front_of m p
front_front m n p le = ap (λ parts. record { area = p.area; parts = parts }) (take-take m n p.parts le)

pub within-long : (d p : AccountPath) → is_within d p ≡ true → length d.parts ≤ length p.parts
within-long d p t = omega (arith, ap (λ (q : AccountPath). length q.parts) (within-front d p t), length-take (length d.parts) p.parts)

pub within-self : (p : AccountPath) → is_within p p ≡ true
within-self p = front-within p p (sym (front_whole (length p.parts) p (omega arith)))

-- what is within what is within a path is within it
pub within_within : (c d p : AccountPath) → is_within c d ≡ true → is_within d p ≡ true → is_within c p ≡ true
within_within c d p outer inner = front-within c p (within-front c d outer ∙ ap (front_of (length c.parts)) (within-front d p inner) ∙ front_front (length c.parts) (length d.parts) p (within-long c d outer))

pub below-within : (d p : AccountPath) → is_below d p ≡ true → is_within d p ≡ true
below-within d p t = (and_parts (nat_lt (length d.parts) (length p.parts)) (is_within d p) t).1

pub below-longer : (d p : AccountPath) → is_below d p ≡ true → length d.parts < length p.parts
below-longer d p t = ltb-true (length d.parts) (length p.parts) (and_parts (nat_lt (length d.parts) (length p.parts)) (is_within d p) t).0

pub longer-below : (d p : AccountPath) → length d.parts < length p.parts → is_within d p ≡ true → is_below d p ≡ true
longer-below d p longer t = and_from (nat_lt (length d.parts) (length p.parts)) (is_within d p) (lt-ltb (length d.parts) (length p.parts) longer) t

pub below-under : (d p : AccountPath) → is_below d p ≡ true → IsUnder p d
below-under d p t =
    let front = within-front d p (below-within d p t) in
    record { area = ap (λ (q : AccountPath). q.area) (sym front); longer = below-longer d p t; begins = ap (λ (q : AccountPath). q.parts) (sym front) }

pub under-below : (d p : AccountPath) → IsUnder p d → is_below d p ≡ true
under-below d p under = longer-below d p under.longer (front-within d p (λ i. record { area = sym under.area i; parts = sym under.begins i }))

-- a path is below another, is it, or is not within it
within_case : (d p : AccountPath) → is_within d p ≡ true → (is_path d p || is_below d p) ≡ true
within_case d p t = ⊎_elim
    (λ is. or_right (is_path d p) (is_below d p) is)
    (λ not. or_left (is_path d p) (is_below d p) (subst (λ q. is_path d q ≡ true) (front_whole (length d.parts) p (same not)) t))
    (cases_Bool (is_below d p))
  where
    same : is_below d p ≡ false → length p.parts ≤ length d.parts
    same not = ltb-false (length d.parts) (length p.parts) (false_from_ne_true (nat_lt (length d.parts) (length p.parts)) (λ lt. true≢false (sym (and_from _ _ lt t) ∙ not)))

pub within-or : (d p : AccountPath) → is_within d p ≡ (is_path d p || is_below d p)
within-or d p = both_ways (is_within d p) (is_path d p || is_below d p) (within_case d p) (λ t. ⊎_elim
    (λ is. subst (λ q. is_within d q ≡ true) (is_path-exact d p is) (within-self d))
    (λ not. below-within d p (behind (is_path d p) (is_below d p) not t))
    (cases_Bool (is_path d p)))
  where
    behind : (a b : Bool) → a ≡ false → (a || b) ≡ true → b ≡ true
    behind true b other t = cc
    behind false b other t = t

-- ---- children

pub child-above : (d p : AccountPath) → is_child d p ≡ true → (0 < length p.parts) × (d ≡ above p)
child-above d p t = let up = above-parent p d (parent-is_child d p t) in (up.some, up.is)

-- a child has one component more
pub child-length : (d p : AccountPath) → is_child d p ≡ true → length p.parts ≡ length d.parts + 1
child-length d p t =
    let up = child-above d p t in
    omega (arith, up.0, ap (λ (q : AccountPath). length q.parts) up.1, length-take (length p.parts - 1) p.parts)

pub child-below : (d p : AccountPath) → is_child d p ≡ true → is_below d p ≡ true
child-below d p t =
    let up = child-above d p t in
    let one = child-length d p t in
    let less : length p.parts - 1 ≡ length d.parts = omega arith in
    longer-below d p (omega arith) (front-within d p (up.1 ∙ ap (λ n. front_of n p) less))

-- the front of one component more stands in the front
pub front-parent : (n : ℕ) (p : AccountPath) → n < length p.parts → parent_of (front_of (n + 1) p) ≡ Some (front_of n p)
front-parent n p long =
    let c : AccountPath = front_of (n + 1) p in
    let size : length c.parts ≡ n + 1 = omega (arith, length-take (n + 1) p.parts) in
    let some : 0 < length c.parts = omega arith in
    let less : length c.parts - 1 ≡ n = omega arith in
    parent-above c some ∙ ap Some (ap (λ k. front_of k c) less ∙ front_front n (n + 1) p (omega arith))

-- a front that has one component more than a path that it begins with is its child
pub front-child : (d p : AccountPath) → is_below d p ≡ true → is_child d (front_of (length d.parts + 1) p) ≡ true
front-child d p t =
    is_child-parent d (front_of (length d.parts + 1) p)
    (front-parent (length d.parts) p (below-longer d p t) ∙ ap Some (sym (within-front d p (below-within d p t))))

-- ---- the order

then_less : (o a b : Ordering) → (a ≡ Less → b ≡ Less) → ordering_then o a ≡ Less → ordering_then o b ≡ Less
then_less Less a b more e = refl
then_less Equal a b more e = more e
then_less Greater a b more e = cc

fronts_less : (n : ℕ) (xs ys : List (List ℕ)) → slice_cmp (slice_cmp nat_cmp) (take n xs) (take n ys) ≡ Less → slice_cmp (slice_cmp nat_cmp) xs ys ≡ Less
fronts_less zero xs ys e = cc
fronts_less (suc n) [] [] e = cc
fronts_less (suc n) [] (y ∷ ys) e = refl
fronts_less (suc n) (x ∷ xs) [] e = cc
fronts_less (suc n) (x ∷ xs) (y ∷ ys) e = then_less (slice_cmp nat_cmp x y) _ _ (fronts_less n xs ys) e

-- paths are in the order of their fronts
pub front-less : (n : ℕ) (p q : AccountPath) → path_cmp (front_of n p) (front_of n q) ≡ Less → path_cmp p q ≡ Less
front-less n p q e = then_less _ _ _ (fronts_less n p.parts q.parts) e

-- what is within two paths of as many components is in their order
pub within-less : (c d p q : AccountPath) → length c.parts ≡ length d.parts → path_cmp c d ≡ Less → is_within c p ≡ true → is_within d q ≡ true → path_cmp p q ≡ Less
within-less c d p q same less in_c in_d =
    front-less (length c.parts) p q
    (subst (λ x. path_cmp x (front_of (length c.parts) q) ≡ Less) (within-front c p in_c)
    (subst (λ x. path_cmp c x ≡ Less) (within-front d q in_d ∙ ap (λ n. front_of n q) (sym same)) less))

pub below-less : (d p : AccountPath) → is_below d p ≡ true → path_cmp d p ≡ Less
below-less d p t = path_cmp-under p d (below-under d p t)

pub never_both : (p q : AccountPath) → path_cmp p q ≡ Less → path_cmp q p ≡ Less → ⊥
never_both p q less more = let turned : path_cmp p q ≡ Greater = path_cmp_total.antisymm p q ∙ ap ordering_reverse more in cc
