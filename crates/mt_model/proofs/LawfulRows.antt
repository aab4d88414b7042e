-- What a change of the rows keeps, whatever it is for.
use Rattle.std.proofs.Common.{◌≡◌, ℕ, ◌≤◌, Bool, true, false, cond, List, Option, Some, None, refl, sym, ap, subst, ◌∙◌, arith}
use Rattle.std.specs.Prelude.{IsSome}
use Rattle.mt_path.specs.AccountPath.{AccountPath, IsPath}
use Rattle.mt_path.specs.declared.area.Area.TheVariants.{Jobs}
use Rattle.mt_types.specs.declared.object.Entry.{Entry}
use Rattle.mt_types.specs.declared.object.Object.{Object}
use Rattle.mt_model.specs.Lawful.{IsBelow, LawfulRows}
use Rattle.mt_model.specs.Rows.{Rows, IsTree, at, is_path, object_at, object_in, with_row, without_row}
use Rattle.mt_model.specs.UploadSteps.{is_jobs}
use Rattle.mt_model.proofs.RowLaws.{at-with_row, at-without_row, is_path-exact}

pub IsBelow-later : (m n number : ℕ) → m ≤ n → IsBelow m number → IsBelow n number
IsBelow-later m n number later b = omega arith

module _ {B : Type 0} where
  pub LawfulRows-later : (m n : ℕ) (rows : Rows B) → m ≤ n → LawfulRows m rows → LawfulRows n rows
  LawfulRows-later m n rows later law = record {
    tree = law.tree;
    paths = law.paths;
    numbers = λ p o is. IsBelow-later m n o.number later (law.numbers p o is);
  }

  -- a row that is added
  module _ (n : ℕ) (rows : Rows B) (law : LawfulRows n rows) (p : AccountPath) (e : Entry B) (path : IsPath p) where
    path_case : (q : AccountPath) (b : Bool) → is_path p q ≡ b → IsSome (cond b (Some e) (at rows q)) → IsPath q
    path_case q true t some = subst IsPath (is_path-exact p q t) path
    path_case q false t some = law.paths q some

    number_case : ((o : Object B) → object_in (Some e) ≡ Some o → IsBelow n o.number) → (q : AccountPath) (b : Bool) (o : Object B) → object_in (cond b (Some e) (at rows q)) ≡ Some o → IsBelow n o.number
    number_case below q true o is = below o is
    number_case below q false o is = law.numbers q o is

    pub LawfulRows-with_row : IsTree (with_row rows p e) → ((o : Object B) → object_in (Some e) ≡ Some o → IsBelow n o.number) → LawfulRows n (with_row rows p e)
    LawfulRows-with_row tree below = record {
      tree = tree;
      paths = λ q some. path_case q (is_path p q) refl (subst IsSome (at-with_row rows p e q) some);
      numbers = λ q o is. number_case below q (is_path p q) o (ap object_in (sym (at-with_row rows p e q)) ∙ is);
    }

  -- a row that is removed
  module _ (n : ℕ) (rows : Rows B) (law : LawfulRows n rows) (p : AccountPath) where
    left_case : (q : AccountPath) (b : Bool) → IsSome (cond b None (at rows q)) → IsSome (at rows q)
    left_case q true some = cc
    left_case q false some = some

    left_object : (q : AccountPath) (b : Bool) (o : Object B) → object_in (cond b None (at rows q)) ≡ Some o → object_at rows q ≡ Some o
    left_object q true o is = cc
    left_object q false o is = is

    pub LawfulRows-without_row : IsTree (without_row rows p) → LawfulRows n (without_row rows p)
    LawfulRows-without_row tree = record {
      tree = tree;
      paths = λ q some. law.paths q (left_case q (is_path p q) (subst IsSome (at-without_row rows p q law.tree.ordered) some));
      numbers = λ q o is. law.numbers q o (left_object q (is_path p q) o (ap object_in (sym (at-without_row rows p q law.tree.ordered)) ∙ is));
    }

-- a path of another area is another path
apart_case : (p q : AccountPath) (b : Bool) → is_path p q ≡ b → is_jobs p.area ≡ false → is_jobs q.area ≡ true → b ≡ false
apart_case p q true t none some = let same : p ≡ q = is_path-exact p q t in let area : is_jobs p.area ≡ is_jobs q.area = ap (λ x. is_jobs x.area) same in cc
apart_case p q false t none some = refl

pub apart : (p : AccountPath) (names : List (List ℕ)) → is_jobs p.area ≡ false → is_path p (record { area = Jobs; parts = names }) ≡ false
apart p names none = apart_case p (record { area = Jobs; parts = names }) (is_path p (record { area = Jobs; parts = names })) refl none refl

module _ {B : Type 0} where
  taken_false : (b : Bool) (x y : Option (Entry B)) → b ≡ false → cond b x y ≡ y
  taken_false true x y e = cc
  taken_false false x y e = refl

  -- a change outside the area of jobs leaves it as it was
  pub jobs-with_row : (rows : Rows B) (p : AccountPath) (e : Entry B) → is_jobs p.area ≡ false → (names : List (List ℕ)) → at (with_row rows p e) (record { area = Jobs; parts = names }) ≡ at rows (record { area = Jobs; parts = names })
  jobs-with_row rows p e none names =
      let q : AccountPath = record { area = Jobs; parts = names } in
      at-with_row rows p e q ∙ taken_false (is_path p q) (Some e) (at rows q) (apart p names none)

  pub jobs-without_row : (rows : Rows B) (p : AccountPath) → IsTree rows → is_jobs p.area ≡ false → (names : List (List ℕ)) → at (without_row rows p) (record { area = Jobs; parts = names }) ≡ at rows (record { area = Jobs; parts = names })
  jobs-without_row rows p tree none names =
      let q : AccountPath = record { area = Jobs; parts = names } in
      at-without_row rows p q tree.ordered ∙ taken_false (is_path p q) None (at rows q) (apart p names none)
