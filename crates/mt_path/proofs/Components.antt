-- The test of a component tells components.
use Rattle.std.proofs.Common.{◌≡◌, ℕ, bytes_eq, List, Bool, true, false, not, length, IsTrue, codes, refl, sym, ◌∙◌, ◌↔◌}
use Rattle.std.proofs.lemmas.Bool.{and_parts, and_from, leb-true, le-leb, false_from_ne_true, true≢false, not-true, not_from_false}
use Rattle.std.proofs.lemmas.Slice.Eq.{bytes_eq-Decides}
use Rattle.std.proofs.lemmas.Str.{IsUtf8-from_is_utf8, is_utf8-from_IsUtf8}
use Rattle.mt_path.specs.AccountPath.{IsComponent, is_component}
use Rattle.mt_path.specs.declared.limits.TheConstants.{LONGEST_COMPONENT}

pub IsComponent-from_test : (name : List ℕ) → is_component name ≡ true → IsComponent name
IsComponent-from_test name e =
    let dots = and_parts _ _ e in
    let dot = and_parts _ _ dots.0 in
    let clear = and_parts _ _ dot.0 in
    let text = and_parts _ _ clear.0 in
    let sizes = and_parts _ _ text.0 in
    record {
      some = leb-true 1 (length name) sizes.0;
      short = leb-true (length name) LONGEST_COMPONENT sizes.1;
      text = IsUtf8-from_is_utf8 name text.1;
      clear = not-true _ clear.1;
      no_dot = λ is. true≢false (sym ((bytes_eq-Decides name (codes ".")).1 is) ∙ not-true _ dot.1);
      no_dots = λ is. true≢false (sym ((bytes_eq-Decides name (codes "..")).1 is) ∙ not-true _ dots.1);
    }

differs : (name other : List ℕ) → (name ≡ other → ⊥) → not (bytes_eq name other) ≡ true
differs name other never =
    not_from_false _ (false_from_ne_true _ (λ e. never ((bytes_eq-Decides name other).0 e)))

pub test_from_IsComponent : (name : List ℕ) → IsComponent name → is_component name ≡ true
test_from_IsComponent name is =
    let sizes = and_from _ _ (le-leb 1 (length name) is.some) (le-leb (length name) LONGEST_COMPONENT is.short) in
    let text = and_from _ _ sizes (is_utf8-from_IsUtf8 name is.text) in
    let clear = and_from _ _ text (not_from_false _ is.clear) in
    and_from _ _ (and_from _ _ clear (differs name (codes ".") is.no_dot)) (differs name (codes "..") is.no_dots)

-- an answer that is exact is the test's
pub is_component-from_exact : (name : List ℕ) (r : Bool) → (IsTrue r ↔ IsComponent name) → r ≡ is_component name
is_component-from_exact name true exact = sym (test_from_IsComponent name (exact.0 refl))
is_component-from_exact name false exact =
    sym (false_from_ne_true (is_component name) (λ e. true≢false (sym (exact.1 (IsComponent-from_test name e)))))
