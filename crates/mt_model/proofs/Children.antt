-- Who has children: only directories, and none itself.
use Rattle.std.proofs.Common.{◌≡◌, ◌+◌, ◌-◌, ◌<◌, Bool, true, false, cond, [], ◌∷◌, length, take, nat_lt, Some, None, refl, sym, ap, ◌∙◌, arith}
use Rattle.std.specs.Prelude.{is_some}
use Rattle.std.specs.Map.{lookup}
use Rattle.std.proofs.lemmas.Bool.{ltb-true, lt-ltb}
use Rattle.std.proofs.lemmas.List.{length-take-le}
use Rattle.std.proofs.lemmas.Map.Entries.{lookup-filter-keys}
use Rattle.mt_path.specs.AccountPath.{AccountPath, parent_of}
use Rattle.mt_types.specs.declared.object.Entry.{Entry}
use Rattle.mt_model.specs.Rows.{Rows, is_path, is_child, is_root, at, is_directory, children, IsTree}
use Rattle.mt_model.proofs.RowLaws.{is_path-exact, is_path-self, parent-is_child}

-- the path above
abbrev pub above : AccountPath → AccountPath
above p = record p { parts = take (length p.parts - 1) p.parts }

-- a path has a parent where it has a component, and the parent has one fewer
pub record IsAbove (p d : AccountPath) : Type 0 where
  pub some : 0 < length p.parts
  pub is : d ≡ above p

parent_case : (p d : AccountPath) (b : Bool) → nat_lt 0 (length p.parts) ≡ b → cond b (Some (above p)) None ≡ Some d → IsAbove p d
parent_case p d true some is = record { some = ltb-true 0 (length p.parts) some; is = cc }
parent_case p d false some is = cc

pub above-parent : (p d : AccountPath) → parent_of p ≡ Some d → IsAbove p d
above-parent p d is = parent_case p d (nat_lt 0 (length p.parts)) refl is

pub parent-above : (p : AccountPath) → 0 < length p.parts → parent_of p ≡ Some (above p)
parent-above p some = rw (lt-ltb 0 (length p.parts) some) refl

pub length-above : (p : AccountPath) → 0 < length p.parts → length (above p).parts + 1 ≡ length p.parts
length-above p some = omega (arith, length-take-le (length p.parts - 1) p.parts (omega arith))

pub some-not_root : (p : AccountPath) → is_root p ≡ false → 0 < length p.parts
some-not_root p below = elim (nat_lt 0 (length p.parts)) as (λ b. nat_lt 0 (length p.parts) ≡ b → 0 < length p.parts) [
  | true ↦ λ e. ltb-true 0 (length p.parts) e
  | false ↦ λ e. let root : is_root p ≡ true = rw e refl in cc
] refl

no_own_case : (p : AccountPath) (b : Bool) → is_child p p ≡ b → b ≡ false
no_own_case p true child =
    let parent = above-parent p p (parent-is_child p p child) in
    absurd (omega (arith, length-above p parent.some, parent.some, ap (λ q. length q.parts) parent.is))
no_own_case p false child = refl

-- no path is its own child
pub no_own_child : (p : AccountPath) → is_child p p ≡ false
no_own_child p = no_own_case p (is_child p p) refl

module _ {B : Type 0} (rows : Rows B) (law : IsTree rows) (d : AccountPath) where
  found : (x : AccountPath × Entry B) (rest : Rows B) → children rows d ≡ x ∷ rest → cond (is_child d x.0) (at rows x.0) None ≡ Some x.1
  found x rest e =
      sym (lookup-filter-keys (is_path x.0) (is_child d) (is_child d x.0) (λ k t. ap (is_child d) (sym (is_path-exact x.0 k t))) rows)
      ∙ ap (lookup (is_path x.0)) e
      ∙ ap (λ b. cond b (Some x.1) (lookup (is_path x.0) rest)) (is_path-self x.0)

  has_directory : (x : AccountPath × Entry B) (b : Bool) → is_child d x.0 ≡ b → cond b (at rows x.0) None ≡ Some x.1 → is_directory (at rows d) ≡ true
  has_directory x true child e = law.parents x.0 d (ap is_some e) (parent-is_child d x.0 child)
  has_directory x false child e = cc

  none_case : is_directory (at rows d) ≡ false → (found_rows : Rows B) → children rows d ≡ found_rows → length found_rows ≡ 0
  none_case object [] e = refl
  none_case object (x ∷ rest) e = let directory = has_directory x (is_child d x.0) refl (found x rest e) in cc

  -- what is no directory has no child
  pub no_children : is_directory (at rows d) ≡ false → length (children rows d) ≡ 0
  no_children object = none_case object (children rows d) refl
