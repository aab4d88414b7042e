-- What is below a directory is its children, each with all that is below it.
use Rattle.std.proofs.Common.{◌≡◌, ℕ, zero, suc, ◌+◌, ◌-◌, ◌<◌, Bool, true, false, ◌||◌, cond, [], ◌∷◌, ◌++◌, length, Option, Some, None, IsSome, is_some, ⊎_elim, refl, sym, ap, subst, ◌∙◌, arith}
use Rattle.std.specs.Cmp.{both_ways}
use Rattle.std.specs.List.{AllByRecursion, filter, flat_map, list_any}
use Rattle.std.specs.Map.{lookup}
use Rattle.std.specs.Ordering.{is_eq, ordering_reverse}
use Rattle.std.specs.declared.cmp.Ordering.TheVariants.{Less}
use Rattle.std.proofs.lemmas.Bool.{cases_Bool, cond-false, false_from_ne_true, or_left, or_right, true≢false}
use Rattle.std.proofs.lemmas.List.{length-take}
use Rattle.std.proofs.lemmas.Option.{none-some, same_Some}
use Rattle.mt_path.specs.AccountPath.{AccountPath}
use Rattle.mt_path.specs.PathOrder.{path_cmp, path_cmp_total}
use Rattle.mt_types.specs.declared.object.Entry.{Entry}
use Rattle.mt_model.specs.Rows.{Rows, at, children, is_child, is_directory, is_path}
use Rattle.mt_model.proofs.RowLaws.{is_path-exact, is_path-self, parent-is_child}
use Rattle.mt_found.specs.Found.{IsSearchable, front_of, is_below, rows_below}
use Rattle.mt_found.proofs.Fronts.{below-less, below-longer, below-within, child-below, child-length, front-child, front-parent, front-within, front_front, front_whole, is_within, longer-below, never_both, within-front, within-less, within-long, within-or, within_within}
use Rattle.mt_found.proofs.Lists.{Rising, always, both, each, each_passes, filter_alike, filter_none, filter_or, rising_keys, rising_kept}

behind : (a b : Bool) → a ≡ false → (a || b) ≡ true → b ≡ true
behind true b other t = cc
behind false b other t = t

not_at : (p q : AccountPath) → path_cmp q p ≡ Less → is_path p q ≡ false
not_at p q less = ap is_eq (path_cmp_total.antisymm p q ∙ ap ordering_reverse less)

module _ {B : Type 0} where
  -- one row is before another
  abbrev pub Before : (AccountPath × Entry B) → (AccountPath × Entry B) → Type 0
  Before r s = path_cmp r.0 s.0 ≡ Less

  pub never : (r s : AccountPath × Entry B) → Before r s → Before s r → ⊥
  never r s = never_both r.0 s.0

  -- a row stands in a list
  abbrev pub Stands : Rows B → (AccountPath × Entry B) → Type 0
  Stands rows r = at rows r.0 ≡ Some r.1

  -- each row of rows that rise stands there
  pub each_stands : (rows : Rows B) → Rising Before rows → AllByRecursion (Stands rows) rows
  each_stands [] rising = tt
  each_stands (r ∷ rs) rising = (
    ap (λ b. cond b (Some r.1) (at rs r.0)) (is_path-self r.0),
    each (λ s. Before r s × Stands rs s) (Stands (r ∷ rs)) (λ s h. ap (λ b. cond b (Some r.1) (at rs s.0)) (not_at s.0 r.0 h.0) ∙ h.1) rs
        (both (Before r) (Stands rs) rs rising.0 (each_stands rs rising.1)),
  )

  pub is_there : (o : Option (Entry B)) → is_directory o ≡ true → IsSome o
  is_there None t = cc
  is_there (Some e) t = refl

  -- ---- a row alone

  one_case : (p : AccountPath) (e : Entry B) (r : AccountPath × Entry B) (rs : Rows B) (b : Bool) → is_path p r.0 ≡ b → AllByRecursion (Before r) rs
      → (lookup (is_path p) rs ≡ Some e → filter (λ s. is_path p s.0) rs ≡ (p, e) ∷ [])
      → cond b (Some r.1) (lookup (is_path p) rs) ≡ Some e → cond b (r ∷ filter (λ s. is_path p s.0) rs) (filter (λ s. is_path p s.0) rs) ≡ (p, e) ∷ []
  one_case p e r rs true is all more found =
      let same : p ≡ r.0 = is_path-exact p r.0 is in
      let none : filter (λ s. is_path p s.0) rs ≡ [] = filter_none (λ s. is_path p s.0) rs (each (Before r) (λ s. is_path p s.0 ≡ false) (λ s less. ap (λ q. is_path q s.0) same ∙ ap is_eq less) rs all) in
      let entry : r.1 ≡ e = same_Some r.1 e found in
      ap (λ l. r ∷ l) none ∙ (λ i. (sym same i, entry i) ∷ [])
  one_case p e r rs false is all more found = more found

  one_row : (p : AccountPath) (e : Entry B) (rows : Rows B) → Rising Before rows → at rows p ≡ Some e → filter (λ s. is_path p s.0) rows ≡ (p, e) ∷ []
  one_row p e [] rising found = absurd (none-some e found)
  one_row p e (r ∷ rs) rising found = one_case p e r rs (is_path p r.0) refl rising.0 (one_row p e rs rising.1) found

  -- ---- rows within paths

  -- the rows that are a path or below it
  abbrev pub rows_within : Rows B → AccountPath → Rows B
  rows_within rows c = filter (λ r. is_within c r.0) rows

  -- those of some paths, one behind another
  abbrev pub all_within : Rows B → Rows B → Rows B
  all_within rows cs = flat_map (λ c. rows_within rows c.0) cs

  -- a row is before all that is below it
  pub within-row : (rows : Rows B) → Rising Before rows → (c : AccountPath × Entry B) → Stands rows c → rows_within rows c.0 ≡ c ∷ rows_below rows c.0
  within-row rows rising c stands =
      filter_alike (λ r. is_within c.0 r.0) (λ r. is_path c.0 r.0 || is_below c.0 r.0) rows (always (λ r. is_within c.0 r.0 ≡ (is_path c.0 r.0 || is_below c.0 r.0)) (λ r. within-or c.0 r.0) rows)
      ∙ filter_or Before never (λ r. is_path c.0 r.0) (λ r. is_below c.0 r.0)
      (λ r s is below. subst (λ p. path_cmp p s.0 ≡ Less) (is_path-exact c.0 r.0 is) (below-less c.0 s.0 below)) rows rising
      ∙ ap (λ l. l ++ rows_below rows c.0) (one_row c.0 c.1 rows rising stands)

  -- is within one of these
  abbrev in_one : Rows B → AccountPath → Bool
  in_one cs p = list_any (λ c. is_within c.0 p) cs

  before_those : (n : ℕ) (c : AccountPath × Entry B) (cs : Rows B) → length c.0.parts ≡ n → AllByRecursion (λ e. length e.0.parts ≡ n) cs → AllByRecursion (Before c) cs
      → (r s : AccountPath × Entry B) → is_within c.0 r.0 ≡ true → in_one cs s.0 ≡ true → Before r s
  before_those n c [] size sizes all r s first t = cc
  before_those n c (e ∷ es) size sizes all r s first t = ⊎_elim
      (λ is. within-less c.0 e.0 r.0 s.0 (size ∙ sym sizes.0) all.0 first is)
      (λ other. before_those n c es size sizes.1 all.1 r s first (behind (is_within e.0 s.0) (in_one es s.0) other t))
      (cases_Bool (is_within e.0 s.0))

  gathered : (rows : Rows B) → Rising Before rows → (n : ℕ) (cs : Rows B) → AllByRecursion (λ e. length e.0.parts ≡ n) cs → Rising Before cs → filter (λ r. in_one cs r.0) rows ≡ all_within rows cs
  gathered rows rising n [] sizes order = filter_none (λ r. false) rows (always (λ r. false ≡ false) (λ r. refl) rows)
  gathered rows rising n (c ∷ cs) sizes order =
      filter_or Before never (λ r. is_within c.0 r.0) (λ r. in_one cs r.0) (before_those n c cs sizes.0 sizes.1 order.0) rows rising
      ∙ ap (λ l. rows_within rows c.0 ++ l) (gathered rows rising n cs sizes.1 order.1)

  -- ---- children

  one_within : (d : AccountPath) (p : AccountPath) (cs : Rows B) → AllByRecursion (λ c. is_child d c.0 ≡ true) cs → in_one cs p ≡ true → is_below d p ≡ true
  one_within d p [] all t = cc
  one_within d p (c ∷ cs) all t = ⊎_elim
      (λ is.
      let under = child-below d c.0 all.0 in
      longer-below d p (omega (arith, below-longer d c.0 under, within-long c.0 p is)) (within_within d c.0 p (below-within d c.0 under) is))
      (λ other. one_within d p cs all.1 (behind (is_within c.0 p) (in_one cs p) other t))
      (cases_Bool (is_within c.0 p))

  kept_case : (p : AccountPath) (r : AccountPath × Entry B) (cs : Rows B) (b : Bool) → in_one cs p ≡ true → in_one (cond b (r ∷ cs) cs) p ≡ true
  kept_case p r cs true t = or_right (is_within r.0 p) (in_one cs p) t
  kept_case p r cs false t = t

  within_one : (d c p : AccountPath) → is_child d c ≡ true → is_within c p ≡ true → (rs : Rows B) → IsSome (at rs c) → in_one (children rs d) p ≡ true
  within_one d c p child is [] some = cc
  within_one d c p child is (r ∷ rs) some = ⊎_elim
      (λ here.
      let same : c ≡ r.0 = is_path-exact c r.0 here in
      let own : is_child d r.0 ≡ true = subst (λ q. is_child d q ≡ true) same child in
      ap (λ b. in_one (cond b (r ∷ children rs d) (children rs d)) p) own ∙ or_left (is_within r.0 p) (in_one (children rs d) p) (subst (λ q. is_within q p ≡ true) same is))
      (λ other. kept_case p r (children rs d) (is_child d r.0) (within_one d c p child is rs (subst IsSome (cond-false (is_path c r.0) (Some r.1) (at rs c) other) some)))
      (cases_Bool (is_path c r.0))

module _ {B : Type 0} (size : B → ℕ) (path : AccountPath) (rows : Rows B) (law : IsSearchable size path rows) where
  pub rising : Rising Before rows
  rising = rising_keys path_cmp rows law.ordered

  -- what a row below a directory stands in stands there too
  climbed : (d p : AccountPath) → is_within path d ≡ true → is_below d p ≡ true → IsSome (at rows p) → (j k : ℕ) → j + k ≡ length p.parts → length d.parts < k → IsSome (at rows (front_of k p))
  climbed d p in_path below some zero k whole longer = subst (λ q. IsSome (at rows q)) (sym (front_whole k p (omega arith))) some
  climbed d p in_path below some (suc j) k whole longer =
      let next : IsSome (at rows (front_of (k + 1) p)) = climbed d p in_path below some j (k + 1) (omega arith) (omega arith) in
      let root = within-long path d in_path in
      let in_root : is_within path p ≡ true = within_within path d p in_path (below-within d p below) in
      let size : length (front_of k p).parts ≡ k = omega (arith, length-take k p.parts) in
      let in_front : is_within path (front_of k p) ≡ true = front-within path (front_of k p) (within-front path p in_root ∙ sym (front_front (length path.parts) k p (omega arith))) in
      is_there (at rows (front_of k p)) (law.parents (front_of (k + 1) p) (front_of k p) next (front-parent k p (omega arith)) (longer-below path (front_of k p) (omega arith) in_front))

  some_child : (d p : AccountPath) → is_within path d ≡ true → IsSome (at rows p) → is_below d p ≡ true → in_one (children rows d) p ≡ true
  some_child d p in_path some below =
      let n = length d.parts in
      let longer = below-longer d p below in
      let whole : (length p.parts - (n + 1)) + (n + 1) ≡ length p.parts = omega arith in
      let stands : IsSome (at rows (front_of (n + 1) p)) = climbed d p in_path below some (length p.parts - (n + 1)) (n + 1) whole (omega arith) in
      let size : length (front_of (n + 1) p).parts ≡ n + 1 = omega (arith, length-take (n + 1) p.parts) in
      within_one d (front_of (n + 1) p) p (front-child d p below) (front-within (front_of (n + 1) p) p (ap (λ k. front_of k p) (sym size))) rows stands

  pub children_rise : (d : AccountPath) → Rising Before (children rows d)
  children_rise d = rising_kept Before (λ r. is_child d r.0) rows rising

  -- what is below a directory within the path
  pub below-children : (d : AccountPath) → is_within path d ≡ true → rows_below rows d ≡ all_within rows (children rows d)
  below-children d in_path =
      filter_alike (λ r. is_below d r.0) (λ r. in_one (children rows d) r.0) rows (each (Stands rows) (λ r. is_below d r.0 ≡ in_one (children rows d) r.0) (λ r stands.
      both_ways (is_below d r.0) (in_one (children rows d) r.0) (some_child d r.0 in_path (ap is_some stands)) (one_within d r.0 (children rows d) (each_passes (λ c. is_child d c.0) rows)))
      rows (each_stands rows rising))
      ∙ gathered rows rising (length d.parts + 1) (children rows d)
      (each (λ c. is_child d c.0 ≡ true) (λ c. length c.0.parts ≡ length d.parts + 1) (λ c child. child-length d c.0 child) (children rows d) (each_passes (λ c. is_child d c.0) rows)) (children_rise d)

  -- nothing is below what is no directory
  pub below-none : (c : AccountPath) → is_below path c ≡ true → is_directory (at rows c) ≡ false → rows_below rows c ≡ []
  below-none c below object =
      below-children c (below-within path c below)
      ∙ ap (all_within rows) (filter_none (λ r. is_child c r.0) rows (each (Stands rows) (λ r. is_child c r.0 ≡ false)
      (λ r stands. false_from_ne_true (is_child c r.0) (λ child. true≢false (sym (law.parents r.0 c (ap is_some stands) (parent-is_child c r.0 child) below) ∙ object)))
      rows (each_stands rows rising)))
