-- What a path keeps of its area and its key.
use Rattle.std.proofs.Common.{◌≡◌, ◌<◌, ◌≤◌, ◌-◌, ◌+◌, ◌↔◌, ℕ, List, [], ◌∷◌, ◌++◌, Some, Ok, length, take, refl, sym, ap, subst, ◌∙◌, arith, length-append}
use Rattle.std.proofs.lemmas.Bool.{lt-ltb}
use Rattle.mt_path.specs.declared.area.Area.{Area}
use Rattle.mt_path.specs.AccountPath.{AccountPath, IsPath, IsUnder, SameParent, area_name, local_text, parent_of, slashed}
use Rattle.mt_path.specs.Keys.{IsPathKey, Parts, key_bytes, parts_of, path_at}
use Rattle.mt_path.specs.declared.limits.TheConstants.{LONGEST_PATH}
use Rattle.mt_path.specs.AccountPath.{IsComponent}
use Rattle.mt_path.specs.Names.{child_of}
use Rattle.mt_path.proofs.Children.{child_of-ok}
use Rattle.mt_path.proofs.Components.{test_from_IsComponent}
use Rattle.mt_path.proofs.Fronts.{IsPath-push, IsPath-take}
use Rattle.mt_path.proofs.Keys.{IsKey-from_key, clear-take, clear_path, key-injective, key-push, length-key, parts-from_key}

-- a key of some components is held as the path of them
pub path_at-is : (area : Area) (parts : Parts) (key : List ℕ) → IsPath (record { area = area; parts = parts }) → key ≡ key_bytes parts → path_at area key ≡ record { area = area; parts = parts }
path_at-is area parts key is e = ap (λ ps. record { area = area; parts = ps }) (parts-from_key key parts (clear_path (record { area = area; parts = parts }) is) e)

pub IsPathKey-from_parts : (area : Area) (parts : Parts) (key : List ℕ) → IsPath (record { area = area; parts = parts }) → key ≡ key_bytes parts → IsPathKey area key
IsPathKey-from_parts area parts key is e = record {
  path = subst IsPath (sym (path_at-is area parts key is e)) is;
  whole = IsKey-from_key key parts (clear_path (record { area = area; parts = parts }) is) e;
}

-- the key of the first components of a path
pub front-is : (p : AccountPath) (area : Area) (held key : List ℕ) (n : ℕ) → path_at area held ≡ p → IsPathKey area held → key ≡ key_bytes (take n (parts_of held)) → path_at area key ≡ record { area = p.area; parts = take n p.parts }
front-is p area held key n same is e =
    path_at-is area (take n (parts_of held)) key (IsPath-take (path_at area held) n is.path) e
    ∙ ap (λ q. record { area = q.area; parts = take n q.parts }) same

pub front-held : (area : Area) (held key : List ℕ) (n : ℕ) → IsPathKey area held → key ≡ key_bytes (take n (parts_of held)) → IsPathKey area key
front-held area held key n is e = IsPathKey-from_parts area (take n (parts_of held)) key (IsPath-take (path_at area held) n is.path) e

-- the path above one that is no root
pub parent_of-some : (p : AccountPath) → 0 < length p.parts → parent_of p ≡ Some (record { area = p.area; parts = take (length p.parts - 1) p.parts })
parent_of-some p some = rw (lt-ltb 0 (length p.parts) some) refl

-- the text of a path has as many bytes as its key and its area tell
pub length-local_text : (p : AccountPath) (key : List ℕ) → key ≡ key_bytes p.parts → length (local_text p) ≡ length (area_name p.area) + 1 + length key
length-local_text p key e = omega (arith, length-append (area_name p.area) (slashed p.parts), length-key p.parts, ap length e)

-- a front of a key is that of a path above
pub under-keys : (p q : AccountPath) (a b : List ℕ) → IsPath p → IsPath q → p.area ≡ q.area → length q.parts < length p.parts → a ≡ key_bytes (take (length q.parts) p.parts) → b ≡ key_bytes q.parts → (a ≡ b) ↔ IsUnder p q
under-keys p q a b is_p is_q area longer front whole = (
  λ e. record {
    area = area;
    longer = longer;
    begins = key-injective (take (length q.parts) p.parts) q.parts (clear-take (length q.parts) p.parts (clear_path p is_p)) (clear_path q is_q) (sym front ∙ e ∙ whole);
  },
  λ under. front ∙ ap key_bytes under.begins ∙ sym whole,
)

pub parent-keys : (p q : AccountPath) (a b : List ℕ) → IsPath p → IsPath q → p.area ≡ q.area → 0 < length p.parts → 0 < length q.parts → a ≡ key_bytes (take (length p.parts - 1) p.parts) → b ≡ key_bytes (take (length q.parts - 1) q.parts) → (a ≡ b) ↔ SameParent p q
parent-keys p q a b is_p is_q area some_p some_q at_a at_b = (
  λ e.
      let parts : take (length p.parts - 1) p.parts ≡ take (length q.parts - 1) q.parts = key-injective _ _ (clear-take (length p.parts - 1) p.parts (clear_path p is_p)) (clear-take (length q.parts - 1) q.parts (clear_path q is_q)) (sym at_a ∙ e ∙ at_b) in
      record {
        below = some_p;
        same = parent_of-some p some_p ∙ (λ i. Some (record { area = area i; parts = parts i })) ∙ sym (parent_of-some q some_q);
      },
  λ is.
      let both : Some (record { area = p.area; parts = take (length p.parts - 1) p.parts }) ≡ Some (record { area = q.area; parts = take (length q.parts - 1) q.parts }) = sym (parent_of-some p some_p) ∙ is.same ∙ parent_of-some q some_q in
      let path : record { area = p.area; parts = take (length p.parts - 1) p.parts } ≡ record { area = q.area; parts = take (length q.parts - 1) q.parts } = cc in
      at_a ∙ ap (λ (r : AccountPath). key_bytes r.parts) path ∙ sym at_b,
)

-- a component more
with_part : (area : Area) (held key name : List ℕ) → IsPathKey area held → key ≡ held ++ 0 ∷ name → key ≡ key_bytes (parts_of held ++ name ∷ [])
with_part area held key name is e = e ∙ ap (λ l. l ++ 0 ∷ name) is.whole.whole ∙ sym (key-push (parts_of held) name)

pub child-held : (p : AccountPath) (area : Area) (held key name : List ℕ) → path_at area held ≡ p → IsPathKey area held → IsComponent name → length (local_text p) + length name + 1 ≤ LONGEST_PATH → key ≡ held ++ 0 ∷ name → IsPathKey area key
child-held p area held key name same is named fits e =
    IsPathKey-from_parts area (parts_of held ++ name ∷ []) key (IsPath-push (path_at area held) name is.path named (subst (λ q. length (local_text q) + length name + 1 ≤ LONGEST_PATH) (sym same) fits)) (with_part area held key name is e)

pub child-is : (p : AccountPath) (area : Area) (held key name : List ℕ) → path_at area held ≡ p → IsPathKey area held → IsComponent name → length (local_text p) + length name + 1 ≤ LONGEST_PATH → key ≡ held ++ 0 ∷ name → child_of p name ≡ Ok (path_at area key)
child-is p area held key name same is named fits e =
    let room : length (local_text (path_at area held)) + length name + 1 ≤ LONGEST_PATH = subst (λ q. length (local_text q) + length name + 1 ≤ LONGEST_PATH) (sym same) fits in
    ap (λ q. child_of q name) (sym same) ∙ child_of-ok (path_at area held) name room (test_from_IsComponent name named)
    ∙ ap Ok (sym (path_at-is area (parts_of held ++ name ∷ []) key (IsPath-push (path_at area held) name is.path named room) (with_part area held key name is e)))
