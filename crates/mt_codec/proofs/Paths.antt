-- Paths that are read keep what every path keeps.
use Rattle.std.proofs.Common.{◌≡◌, ℕ, ◌+◌, ◌-◌, ◌<◌, zero, suc, true, cond, List, [], ◌∷◌, ◌++◌, length, drop, get_or, Bor, Vec, Global, Err, Option, Some, None, refl, sym, ap, subst, ◌∙◌, append_assoc, arith, length-append}
use Rattle.std.specs.Prelude.{nat_le}
use Rattle.std.specs.List.{AllByRecursion, flat_map}
use Rattle.std.specs.Int.{w16}
use Rattle.std.proofs.lemmas.Bool.{leb-true}
use Rattle.std.proofs.lemmas.List.Elements.{All-from_recursion}
use Rattle.mt_path.specs.AccountPath.{AccountPath, IsComponent, IsPath, area_name, is_component, local_text, slash, slashed}
use Rattle.mt_path.specs.Keys.{IsKey, Parts, key_bytes, parts_of, path_at}
use Rattle.mt_path.specs.declared.area.Area.{Area}
use Rattle.mt_path.specs.declared.limits.TheConstants.{LONGEST_PATH}
use Rattle.mt_path.proofs.Components.{IsComponent-from_test}
use Rattle.mt_path.proofs.Keys.{IsKey-from_parts, clear_component, clear-push, key-push, length-key, parts_of-key}
use Rattle.mt_codec.specs.declared.error.DecodeError.{DecodeError}
use Rattle.mt_codec.specs.declared.error.DecodeError.TheVariants.{NotACommand, Memory}
use Rattle.mt_codec.specs.Fields.{text_spelling}
use Rattle.mt_codec.specs.Reading.{◌>>=◌, Reader, Shows, number_at, sized, times}
use Rattle.mt_codec.specs.Readers.{component_at, is_short}
use Rattle.std.proofs.lemmas.Option.{some_pair_parts}
use Rattle.mt_codec.proofs.Loops.{ends, with_front}
use Rattle.mt_codec.proofs.Options.{bind_some, guard_some}

-- what each value that a reader gives keeps, all of a list keep
times_all : {A : Type 0} (f : Reader A) (P : A → Type 0) → ((bytes : List ℕ) (x : A) (rest : List ℕ) → f bytes ≡ Some (x, rest) → P x)
    → (n : ℕ) (bytes : List ℕ) (xs : List A) (rest : List ℕ) → times f n bytes ≡ Some (xs, rest) → AllByRecursion P xs
unfolding times
times_all f P each zero bytes xs rest e = subst (AllByRecursion P) (some_pair_parts [] xs bytes rest e).0 tt
times_all f P each (suc n) bytes xs rest e =
    let a = bind_some (f bytes) (λ x. times f n x.1 >>= λ ys. Some (x.0 ∷ ys.0, ys.1)) (xs, rest) e in
    let b = bind_some (times f n a.0.1) (λ ys. Some (a.0.0 ∷ ys.0, ys.1)) (xs, rest) a.2 in
    subst (AllByRecursion P) (some_pair_parts (a.0.0 ∷ b.0.0) xs b.0.1 rest b.2).0 (each bytes a.0.0 a.0.1 a.1, times_all f P each n a.0.1 b.0.0 b.0.1 b.1)

component_kept : (bytes : List ℕ) (x : List ℕ) (rest : List ℕ) → component_at bytes ≡ Some (x, rest) → IsComponent x
component_kept bytes x rest e =
    let a = bind_some (sized (number_at w16) bytes) (λ y. cond (is_component y.0) (Some y) None) (x, rest) e in
    let g = guard_some (is_component a.0.0) a.0 (x, rest) a.2 in
    IsComponent-from_test x (ap (λ y. is_component y.0) (sym g.1) ∙ g.0)

pub IsPath-from_read : (p : AccountPath) (n : ℕ) (bytes rest : List ℕ) → times component_at n bytes ≡ Some (p.parts, rest) → is_short p ≡ true → IsPath p
IsPath-from_read p n bytes rest e short = record {
  components = All-from_recursion IsComponent p.parts (times_all component_at IsComponent component_kept n bytes p.parts rest e);
  short = leb-true (length (local_text p)) LONGEST_PATH short;
}

-- a key with a component more that was read
pub record Pushed (key name more : List ℕ) : Type 0 where
  pub parts : parts_of more ≡ parts_of key ++ name ∷ []
  pub whole : IsKey more

pub pushed : (key name more bytes rest : List ℕ) → IsKey key → component_at bytes ≡ Some (name, rest) → more ≡ key ++ 0 ∷ name → Pushed key name more
pushed key name more bytes rest is read e =
    let clear = clear-push (parts_of key) name is.clear (clear_component name (component_kept bytes name rest read)) in
    let same : more ≡ key_bytes (parts_of key ++ name ∷ []) = e ∙ ap (λ k. k ++ 0 ∷ name) is.whole ∙ sym (key-push (parts_of key) name) in
    record {
      parts = ap parts_of same ∙ parts_of-key (parts_of key ++ name ∷ []) clear;
      whole = subst IsKey (sym same) (IsKey-from_parts (parts_of key ++ name ∷ []) clear);
    }

-- a component that is none ends the reading
pub key_ends : (e : DecodeError) (left end bytes : List ℕ) (front : Parts) (count i : ℕ) (total : Option (Parts × List ℕ)) → i < count → Shows {A = Bor (List ℕ)} (λ name. name.now) (Err e) left (component_at bytes)
    → with_front front (times component_at (count - i) bytes) ≡ total → Shows {A = Vec ℕ Global} (λ key. parts_of key.items) (Err e) end total
key_ends Memory left end bytes front count i total lt h so_far = tt
key_ends NotACommand left end bytes front count i total lt h so_far = ends component_at NotACommand left end front count i bytes total lt h so_far

-- whether a path is short enough, by its key and the name of its area
pub short-by_key : (area : Area) (name key : List ℕ) → IsKey key → name ≡ area_name area → nat_le (length name + 1 + length key) LONGEST_PATH ≡ is_short (path_at area key)
short-by_key area name key is named =
    let same : length name + 1 + length key ≡ length (local_text (path_at area key)) =
    omega (arith, ap length named, length-append (slash ∷ area_name area) (slashed (parts_of key)), length-key (parts_of key), ap length is.whole) in
    ap (λ n. nat_le n LONGEST_PATH) same

-- a key whose first component is written next
pub record IsNext (key name rest out more : List ℕ) : Type 0 where
  pub first : name ≡ get_or (parts_of key) 0 []
  pub others : parts_of rest ≡ drop 1 (parts_of key)
  pub written : more ≡ out ++ text_spelling name

filled : (key : List ℕ) → IsKey key → 0 < length key → 0 < length (parts_of key)
filled key is some = elim (parts_of key) as (λ ps. parts_of key ≡ ps → 0 < length ps) [
  | [] ↦ λ e. let none : key ≡ [] = is.whole ∙ ap key_bytes e in absurd (omega (arith, ap length none, some))
  | p ∷ ps ↦ λ e. omega arith
] refl

next_of : (parts others : Parts) (name out more total : List ℕ) → 0 < length parts → name ≡ get_or parts 0 [] → others ≡ drop 1 parts → more ≡ out ++ text_spelling name
    → out ++ flat_map text_spelling parts ≡ total → more ++ flat_map text_spelling others ≡ total
next_of [] others name out more total some n r m so_far = absurd (omega (arith, some))
next_of (p ∷ parts) others name out more total some n r m so_far = rw (m, n, r) (append_assoc out (text_spelling p) (flat_map text_spelling parts) ∙ so_far)

pub goes_behind : (key name rest out more total : List ℕ) → IsKey key → 0 < length key → IsNext key name rest out more → out ++ flat_map text_spelling (parts_of key) ≡ total → more ++ flat_map text_spelling (parts_of rest) ≡ total
goes_behind key name rest out more total is some next = next_of (parts_of key) (parts_of rest) name out more total (filled key is some) next.first next.others next.written

pub all-drop : (parts : Parts) → AllByRecursion IsComponent parts → AllByRecursion IsComponent (drop 1 parts)
all-drop [] all = tt
all-drop (p ∷ parts) all = all.1
