-- The directories above a path, made one after another.
use Rattle.std.proofs.Common.{◌≡◌, ℕ, ◌+◌, ◌-◌, ◌<◌, ◌≤◌, Bool, true, false, cond, not, List, length, map, take, Option, Some, None, refl, sym, ap, subst, ◌∙◌, arith, ◌⊎◌, inl, inr, zero, suc}
use Rattle.std.specs.Prelude.{is_some}
use Rattle.std.specs.List.{fold, list_any, range_with_len}
use Rattle.std.proofs.lemmas.Bool.{cases_lt}
use Rattle.std.proofs.lemmas.List.{length-take-le}
use Rattle.mt_path.specs.AccountPath.{AccountPath, parent_of}
use Rattle.mt_types.specs.declared.object.Entry.{Entry}
use Rattle.mt_types.specs.declared.object.Entry.TheVariants as entry
use Rattle.mt_types.specs.declared.refusal.Refusal.TheVariants.{RootDirectory, DirectoryOperation}
use Rattle.mt_model.specs.Names.{paths_above}
use Rattle.mt_model.specs.Resolve.{is_object_at, with_directory, with_parents}
use Rattle.mt_model.specs.Rows.{Rows, IsTree, above_refusal, at, directory_refusal, first_refusal, is_directory, is_path, object_in, parent_refusal, put_refusal, refuse_if, with_row}
use Rattle.mt_model.proofs.Children.{above, parent-above}
use Rattle.mt_model.proofs.LawfulInputs.{or_none}
use Rattle.mt_model.proofs.LawfulNewJob.{other_path}
use Rattle.mt_model.proofs.LawfulPuts.{front, front_above}
use Rattle.mt_model.proofs.RowLaws.{IsTree-with_row, at-with_row, is_path-self}

none_at : {X : Type 0} (t : X → Bool) (f : ℕ → X) (a n k : ℕ) → list_any t (map f (range_with_len a n)) ≡ false → k < n → t (f (a + k)) ≡ false
none_at t f a zero k none less = absurd (omega arith)
none_at t f a (suc n) zero none less = let same : a ≡ a + 0 = omega arith in subst (λ m. t (f m) ≡ false) same (or_none (t (f a)) _ none).0
none_at t f a (suc n) (suc k) none less =
    let same : a + 1 + k ≡ a + suc k = omega arith in
    subst (λ m. t (f m) ≡ false) same (none_at t f (a + 1) n k (or_none (t (f a)) _ none).1 (omega arith))

module _ {B : Type 0} (p : AccountPath) (moment : ℕ) (start : Rows B) where
  -- what stands above it from the n-th on
  abbrev pub fronts : ℕ → List AccountPath
  fronts n = map (front p) (range_with_len n (length p.parts - n))

  -- the first n are made, and the rest makes what is wanted
  pub record Making (n : ℕ) (rows : Rows B) : Type 0 where
    pub rest : fold (with_directory moment) rows (fronts n) ≡ with_parents start p moment
    pub tree : IsTree rows
    pub made : (k : ℕ) → k < n → is_directory (at rows (front p k)) ≡ true
    pub clear : (k : ℕ) → k < length p.parts → is_object_at rows (front p k) ≡ false
    pub free : is_directory (at rows p) ≡ false

  pub making_start : IsTree start → list_any (is_object_at start) (paths_above p) ≡ false → is_directory (at start p) ≡ false → Making 0 start
  making_start tree clear free =
      let whole : length p.parts - 0 ≡ length p.parts = omega arith in
      record {
        rest = ap (λ n. fold (with_directory moment) start (map (front p) (range_with_len 0 n))) whole;
        tree = tree;
        made = λ k less. absurd (omega (arith, less));
        clear = λ k less. let same : 0 + k ≡ k = omega arith in subst (λ n. is_object_at start (front p n) ≡ false) same (none_at (is_object_at start) (front p) 0 (length p.parts) k clear less);
        free = free;
      }

  fine : (o : Option (Entry B)) → is_directory o ≡ true → directory_refusal o ≡ None
  fine None is = cc
  fine (Some (entry.Directory mtime)) is = refl
  fine (Some (entry.Object object)) is = cc

  some_above : (q : AccountPath) → parent_of q ≡ None → (rows : Rows B) → parent_refusal rows q ≡ None
  some_above q is rows = ap (above_refusal rows) is

  -- the one above the next front is a directory
  pub parent_fine : (rows : Rows B) (n : ℕ) → n < length p.parts → ((k : ℕ) → k < n → is_directory (at rows (front p k)) ≡ true) → parent_refusal rows (front p n) ≡ None
  parent_fine rows zero less made = some_above (front p 0) refl rows
  parent_fine rows (suc a) less made =
      let q : AccountPath = front p (suc a) in
      let long : length q.parts ≡ suc a = length-take-le (suc a) p.parts (omega (arith, less)) in
      let up = parent-above q (omega (arith, long)) in
      let is : front p a ≡ above q = front_above p a (above q) (omega (arith, less)) up in
      ap (above_refusal rows) up ∙ fine (at rows (above q)) (sym (ap (λ d. is_directory (at rows d)) is) ∙ made a (omega arith))

  abbrev dir : Entry B
  dir = entry.Directory moment

  any_directory : (t : Bool) (e : Option (Entry B)) → is_directory e ≡ true → is_directory (cond t (Some dir) e) ≡ true
  any_directory true e is = refl
  any_directory false e is = is

  any_object : (t : Bool) (e : Option (Entry B)) → is_some (object_in e) ≡ false → is_some (object_in (cond t (Some dir) e)) ≡ false
  any_object true e is = refl
  any_object false e is = is

  none_else : (t : Bool) (e : Option (Entry B)) → t ≡ false → is_directory e ≡ false → is_directory (cond t (Some dir) e) ≡ false
  none_else true e f is = cc
  none_else false e f is = is

  is_there : (x : Entry B) → is_some (object_in (Some x)) ≡ false → is_directory (Some x) ≡ true
  is_there (entry.Directory mtime) none = refl
  is_there (entry.Object object) none = cc

  next_made : (rows : Rows B) (n k : ℕ) → k < n + 1 → ((k : ℕ) → k < n → is_directory (at rows (front p k)) ≡ true) → is_directory (at rows (front p n)) ≡ true → is_directory (at rows (front p k)) ≡ true
  next_made rows n k less old last = by (cases_lt k n)
    where
      by : (k < n) ⊎ (n ≤ k) → is_directory (at rows (front p k)) ≡ true
      by (inl under) = old k under
      by (inr le) = let same : n ≡ k = omega (arith, less, le) in subst (λ x. is_directory (at rows (front p x)) ≡ true) same last

  directory_refused : (rows : Rows B) (q : AccountPath) → parent_refusal rows q ≡ None → (d : AccountPath) → parent_of q ≡ Some d → is_directory (at rows d) ≡ true
  directory_refused rows q none d is = by (at rows d) (sym (ap (above_refusal rows) is) ∙ none)
    where
      by : (o : Option (Entry B)) → directory_refusal o ≡ None → is_directory o ≡ true
      by None e = cc
      by (Some (entry.Directory mtime)) e = refl
      by (Some (entry.Object object)) e = cc

  on_case : (rows : Rows B) (n : ℕ) → n < length p.parts → Making n rows → (o : Option (Entry B)) → at rows (front p n) ≡ o
      → fold (with_directory moment) (cond (is_some o) rows (with_row rows (front p n) dir)) (fronts (n + 1)) ≡ with_parents start p moment → Making (n + 1) (cond (is_some o) rows (with_row rows (front p n) dir))
  on_case rows n less m (Some x) is rest = record {
    rest = rest;
    tree = m.tree;
    made = λ k under. next_made rows n k under m.made (ap is_directory is ∙ is_there x (sym (ap (λ o. is_some (object_in o)) is) ∙ m.clear n less));
    clear = m.clear;
    free = m.free;
  }
  on_case rows n less m None is rest =
      let q : AccountPath = front p n in
      let new : Rows B = with_row rows q dir in
      record {
        rest = rest;
        tree = IsTree-with_row rows q dir (λ d. refl) m.tree (directory_refused rows q (parent_fine rows n less m.made));
        made = λ k under. next_made new n k under
            (λ k' under'. ap is_directory (at-with_row rows q dir (front p k')) ∙ any_directory (is_path q (front p k')) (at rows (front p k')) (m.made k' under'))
            (ap is_directory (at-with_row rows q dir q) ∙ ap (λ t. is_directory (cond t (Some dir) (at rows q))) (is_path-self q));
        clear = λ k under. ap (λ x. is_some (object_in x)) (at-with_row rows q dir (front p k)) ∙ any_object (is_path q (front p k)) (at rows (front p k)) (m.clear k under);
        free = ap is_directory (at-with_row rows q dir p) ∙ none_else (is_path q p) (at rows p)
            (other_path q p (λ e. let same : length (take n p.parts) ≡ length p.parts = ap (λ (x : AccountPath). length x.parts) e in let long = length-take-le n p.parts (omega (arith, less)) in absurd (omega (arith, same, long, less)))) m.free;
      }

  -- one more is made
  pub making_on : (rows : Rows B) (n : ℕ) → n < length p.parts → Making n rows → Making (n + 1) (with_directory moment rows (front p n))
  making_on rows n less m =
      let left : length p.parts - n ≡ suc (length p.parts - (n + 1)) = omega (arith, less) in
      on_case rows n less m (at rows (front p n)) refl
      (sym (ap (λ c. fold (with_directory moment) rows (map (front p) (range_with_len n c))) left) ∙ m.rest)

  -- all are made, and an object may be put there
  pub record AllMade (rows : Rows B) : Type 0 where
    pub rows_are : rows ≡ with_parents start p moment
    pub tree : IsTree rows
    pub place : put_refusal rows p ≡ None

  last_parent : (rows : Rows B) (n : ℕ) → length p.parts ≡ n → 0 < n → ((k : ℕ) → k < n → is_directory (at rows (front p k)) ≡ true) → parent_refusal rows p ≡ None
  last_parent rows zero long some made = absurd (omega (arith, some))
  last_parent rows (suc a) long some made =
      let up = parent-above p (omega (arith, long, some)) in
      let short : length p.parts - 1 ≡ a = omega (arith, long) in
      ap (above_refusal rows) up ∙ fine (at rows (above p)) (ap (λ n. is_directory (at rows (front p n))) short ∙ made a (omega arith))

  pub making_end : (rows : Rows B) → 0 < length p.parts → Making (length p.parts) rows → AllMade rows
  making_end rows some m =
      let none : length p.parts - length p.parts ≡ 0 = omega arith in
      record {
        rows_are = sym (ap (λ n. fold (with_directory moment) rows (map (front p) (range_with_len (length p.parts) n))) none) ∙ m.rest;
        tree = m.tree;
        place =
            ap (λ b. first_refusal (refuse_if b RootDirectory) (first_refusal (parent_refusal rows p) (refuse_if (is_directory (at rows p)) DirectoryOperation))) (ap (λ o. not (is_some o)) (parent-above p some))
            ∙ ap (λ r. first_refusal r (refuse_if (is_directory (at rows p)) DirectoryOperation)) (last_parent rows (length p.parts) refl some m.made)
            ∙ ap (λ b. refuse_if b DirectoryOperation) m.free;
      }
