-- The order of paths is exact, and a path is below those under it.
use Rattle.std.proofs.Common.{◌≡◌, ℕ, ◌<◌, List, [], ◌∷◌, length, take, refl, sym, ap, ◌∙◌, arith, IsTrue, ◌↔◌}
use Rattle.std.specs.Cmp.{Equal-is}
use Rattle.std.specs.Cmp.Lexicographic.{slice_cmp, nat_list_cmp_total}
use Rattle.std.specs.FinMap.{nat_cmp-IsAntisymmetric, slice_cmp-IsAntisymmetric}
use Rattle.std.specs.Ordering.{eq_by_cmp, nat_cmp, ordering_then}
use Rattle.std.specs.declared.cmp.Ordering.{Ordering}
use Rattle.std.specs.declared.cmp.Ordering.TheVariants.{Less, Equal, Greater}
use Rattle.std.proofs.lemmas.Cmp.{nat_cmp_total, tied_itself}
use Rattle.mt_path.specs.declared.area.Area.{Area}
use Rattle.mt_path.specs.declared.area.Area.TheVariants.{Stor, Public, Jobs}
use Rattle.mt_path.specs.AccountPath.{AccountPath, IsUnder, area_number}
use Rattle.mt_path.specs.PathOrder.{path_cmp, path_cmp_total}

area_is : (a b : Area) → area_number a ≡ area_number b → a ≡ b
area_is Stor Stor e = refl
area_is Stor Public e = absurd (omega arith)
area_is Stor Jobs e = absurd (omega arith)
area_is Public Stor e = absurd (omega arith)
area_is Public Public e = refl
area_is Public Jobs e = absurd (omega arith)
area_is Jobs Stor e = absurd (omega arith)
area_is Jobs Public e = absurd (omega arith)
area_is Jobs Jobs e = refl

path_is : (p q : AccountPath) → area_number p.area ≡ area_number q.area → p.parts ≡ q.parts → p ≡ q
path_is p q number parts =
    let area = area_is p.area q.area number in
    λ i. record { area = area i; parts = parts i }

both_equal : (a b : Ordering) → ordering_then a b ≡ Equal → (a ≡ Equal) × (b ≡ Equal)
both_equal Less b e = cc
both_equal Equal b e = (refl, e)
both_equal Greater b e = cc

pub path_cmp-exact : (p q : AccountPath) → (path_cmp p q ≡ Equal) ↔ (p ≡ q)
path_cmp-exact p q = (
  λ e.
      let both = both_equal _ _ e in
      path_is p q (nat_cmp-IsAntisymmetric _ _ both.0) (slice_cmp-IsAntisymmetric (slice_cmp-IsAntisymmetric nat_cmp-IsAntisymmetric) _ _ both.1),
  λ same. ap (λ r. path_cmp p r) (sym same) ∙ tied_itself path_cmp_total p,
)

pub eq-exact : (p q : AccountPath) → IsTrue (eq_by_cmp path_cmp p q) ↔ (p ≡ q)
eq-exact p q =
    let exact = path_cmp-exact p q in
    (λ e. exact.0 ((Equal-is (path_cmp p q)).0 e), λ same. (Equal-is (path_cmp p q)).1 (exact.1 same))

-- a list is below each longer one that begins with it
below_longer : (xs ys : List (List ℕ)) → take (length xs) ys ≡ xs → length xs < length ys → slice_cmp (slice_cmp nat_cmp) xs ys ≡ Less
below_longer [] [] begins longer = absurd (omega arith)
below_longer [] (y ∷ ys) begins longer = refl
below_longer (x ∷ xs) [] begins longer = absurd (omega arith)
below_longer (x ∷ xs) (y ∷ ys) begins longer =
    let whole : y ∷ take (length xs) ys ≡ x ∷ xs = begins in
    let first : y ≡ x = cc in
    let rest : take (length xs) ys ≡ xs = cc in
    let tied : slice_cmp nat_cmp x y ≡ Equal = rw first (tied_itself nat_list_cmp_total x) in
    rw tied (below_longer xs ys rest (omega arith))

pub path_cmp-under : (p q : AccountPath) → IsUnder p q → path_cmp q p ≡ Less
path_cmp-under p q under =
    let area : nat_cmp (area_number q.area) (area_number p.area) ≡ Equal = rw under.area (tied_itself nat_cmp_total (area_number q.area)) in
    rw area (below_longer q.parts p.parts under.begins under.longer)
