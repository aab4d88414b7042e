-- Scans of a list of rows.
use Rattle.std.proofs.Common.{◌≡◌, ℕ, ◌+◌, ◌-◌, ◌<◌, ◌≤◌, ◌&&◌, ◌==◌, Bool, true, false, cond, List, [], ◌∷◌, ◌++◌, map, length, take, drop, get_or, drop-cons, Some, refl, sym, ap, ◌∙◌, arith, zero, suc, append-nil, append_assoc, length-append, eq-eqb}
use Rattle.std.specs.Cmp.{both_ways, unsigned_Decides}
use Rattle.std.specs.List.{filter}
use Rattle.mt_path.specs.AccountPath.{AccountPath, IsUnder}
use Rattle.mt_types.specs.declared.object.Row.{Row}
use Rattle.mt_model.specs.Listing.{is_from}
use Rattle.mt_model.specs.Rows.{Rows, children, is_child, row_of}
use Rattle.mt_model.proofs.Children.{above, above-parent, parent-above, length-above}
use Rattle.mt_model.proofs.RowLaws.{parent-is_child, is_child-parent}
use Rattle.mt_tree.specs.Plain.{pairs}

take_nil : {X : Type 0} (n : ℕ) → take {A = X} n [] ≡ []
take_nil zero = refl
take_nil (suc n) = refl

-- a path under another by one component is its child
pub child-under : (d p : AccountPath) → IsUnder p d → (length p.parts - length d.parts == 1) ≡ is_child d p
child-under d p under =
    both_ways (length p.parts - length d.parts == 1) (is_child d p)
    (λ one.
    let n : length p.parts - length d.parts ≡ 1 = (unsigned_Decides (length p.parts - length d.parts) 1).0 one in
    let last : length p.parts - 1 ≡ length d.parts = omega (arith, n) in
    let front : take (length p.parts - 1) p.parts ≡ d.parts = ap (λ k. take k p.parts) last ∙ under.begins in
    let same : above p ≡ d = λ i. record { area = under.area i; parts = front i } in
    is_child-parent d p (parent-above p (omega (arith, n)) ∙ ap Some same))
    (λ child.
    let parent = above-parent p d (parent-is_child d p child) in
    let long : length d.parts + 1 ≡ length p.parts = ap (λ q. length q.parts + 1) parent.is ∙ length-above p parent.some in
    eq-eqb (length p.parts - length d.parts) 1 (omega (arith, long)))

not_under : (d p : AccountPath) (b : Bool) → is_child d p ≡ b → (IsUnder p d → ⊥) → false ≡ b
not_under d p false e other = refl
not_under d p true e other =
    let parent = above-parent p d (parent-is_child d p e) in
    let long : length d.parts + 1 ≡ length p.parts = ap (λ q. length q.parts + 1) parent.is ∙ length-above p parent.some in
    let last : length d.parts ≡ length p.parts - 1 = omega (arith, long) in
    absurd (other (record {
      area = ap (λ q. q.area) (sym parent.is);
      longer = omega (arith, long);
      begins = ap (λ k. take k p.parts) last ∙ ap (λ q. q.parts) (sym parent.is);
    }))

pub child-not_under : (d p : AccountPath) → (IsUnder p d → ⊥) → false ≡ is_child d p
child-not_under d p other = not_under d p (is_child d p) refl other

module _ {B : Type 0} (d : AccountPath) (m : List ℕ) where
  -- the rows of a page, of any length
  abbrev pub listed : List (Row B) → Rows B
  listed rows = filter (λ r. is_from m r.0) (children (pairs rows) d)

  pub listed-first : (r : Row B) (rows : List (Row B)) (b : Bool) → b ≡ (is_child d r.path && is_from m r.path) → listed (r ∷ rows) ≡ cond b ((r.path, r.entry) ∷ listed rows) (listed rows)
  listed-first r rows b e =
      elim (is_child d r.path) as (λ c. filter (λ x. is_from m x.0) (cond c ((r.path, r.entry) ∷ children (pairs rows) d) (children (pairs rows) d)) ≡ cond (c && is_from m r.path) ((r.path, r.entry) ∷ listed rows) (listed rows)) [ true ↦ refl | false ↦ refl ]
      ∙ ap (λ c. cond c ((r.path, r.entry) ∷ listed rows) (listed rows)) (sym e)

  -- what is found so far, and the front of what is left, are the page
  pub record Scanning (limit : ℕ) (target page rest : List (Row B)) : Type 0 where
    pub found : page ++ map row_of (take (limit - length page) (listed rest)) ≡ target

  module _ (limit : ℕ) (target page rest : List (Row B)) (w : Scanning limit target page rest) where
    pub full : limit ≤ length page → page ≡ target
    full h =
        let none : limit - length page ≡ 0 = omega (arith, h) in
        sym (append-nil page) ∙ ap (λ n. page ++ map row_of (take n (listed rest))) (sym none) ∙ w.found

    pub scanned : rest ≡ [] → page ≡ target
    scanned e = sym (append-nil page) ∙ ap (λ rs. page ++ map row_of rs) (sym (take_nil (limit - length page))) ∙ ap (λ rs. page ++ map row_of (take (limit - length page) (listed rs))) (sym e) ∙ w.found

    module _ (r : Row B) (more : List (Row B)) (first : rest ≡ r ∷ more) where
      pub passed : false ≡ (is_child d r.path && is_from m r.path) → Scanning limit target page more
      passed e = record { found = ap (λ rs. page ++ map row_of (take (limit - length page) rs)) (sym (ap listed first ∙ listed-first r more false e)) ∙ w.found }

      pub added : true ≡ (is_child d r.path && is_from m r.path) → length page < limit → (longer : List (Row B)) → longer ≡ page ++ r ∷ [] → Scanning limit target longer more
      added e room longer grown =
          let long : length (page ++ r ∷ []) ≡ length page + 1 = length-append page (r ∷ []) in
          let less : limit - length page ≡ suc (limit - length (page ++ r ∷ [])) = omega (arith, long, room) in
          record {
            found = ap (λ o. o ++ map row_of (take (limit - length o) (listed more))) grown
                ∙ append_assoc page (r ∷ []) _
                ∙ ap (λ n. page ++ map row_of (take n ((r.path, r.entry) ∷ listed more))) (sym less)
                ∙ ap (λ rs. page ++ map row_of (take (limit - length page) rs)) (sym (ap listed first ∙ listed-first r more true e)) ∙ w.found;
          }

-- the item at a place, and the items behind it
pub from-place : {X : Type 0} (xs : List X) (i : ℕ) (x : X) → i < length xs → x ≡ get_or xs i x → drop i xs ≡ x ∷ drop (i + 1) xs
from-place xs i x within is =
    let next : suc i ≡ i + 1 = omega arith in
    drop-cons xs i x within ∙ ap (λ y. y ∷ drop (suc i) xs) (sym is) ∙ ap (λ k. x ∷ drop k xs) next
