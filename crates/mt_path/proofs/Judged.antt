-- What is read from pieces: the names behind the login make a path where the first names an area.
use Rattle.std.proofs.Common.{◌≡◌, ℕ, ◌+◌, ◌-◌, ◌<◌, ◌≤◌, List, [], ◌∷◌, Bool, true, false, not, bytes_eq, cond, nat_lt, Option, Some, None, Result, Ok, Err, length, take, drop, get_or, refl, sym, ap, ◌∙◌, arith, inl, inr, length-append}
use Rattle.std.specs.List.{AllByRecursion, list_all}
use Rattle.std.proofs.lemmas.Bool.{and_parts, cases_Bool, cond-true, cond-false, ltb-false, not-false}
use Rattle.std.proofs.lemmas.List.{take_all, take_more}
use Rattle.std.proofs.lemmas.List.Concat.{flat_map-append}
use Rattle.std.proofs.lemmas.List.Elements.{All-from_recursion}
use Rattle.std.proofs.lemmas.Slice.Eq.{bytes_eq-Decides}
use Rattle.mt_path.specs.declared.area.Area.{Area}
use Rattle.mt_path.specs.declared.area.Area.TheVariants.{Stor, Public, Jobs}
use Rattle.mt_path.specs.declared.error.PathError.{PathError}
use Rattle.mt_path.specs.declared.error.PathError.TheVariants.{TooLong, BadComponent, OtherLogin}
use Rattle.mt_path.specs.declared.limits.TheConstants.{LONGEST_PATH}
use Rattle.mt_path.specs.AccountPath.{IsComponent, IsPath, area_name, is_component, slash, slashed}
use Rattle.mt_path.specs.Names.{AreNames, area_of, names_of}
use Rattle.mt_path.proofs.Components.{IsComponent-from_test}
use Rattle.mt_path.proofs.Fronts.{length-slashed-take}

-- an `Err` that a test chose, or what the other side gave
pub passed : {A : Type 0} (test : Bool) (e : PathError) (r : Result A PathError) (x : A) → cond test (Err e) r ≡ Ok x → (test ≡ false) × (r ≡ Ok x)
passed true e r x h = absurd (let never : Err e ≡ Ok x = h in cc)
passed false e r x h = (refl, h)

pub AreNames-from_names_of : (login : List ℕ) (pieces names : List (List ℕ)) → names_of login pieces ≡ Ok names → AreNames names
unfolding names_of
AreNames-from_names_of login [] names h = cc
AreNames-from_names_of login (first ∷ rest) names h =
    let fits = passed (nat_lt LONGEST_PATH (length (slashed rest))) TooLong _ names h in
    let clean = passed (not (list_all is_component (drop 1 rest))) BadComponent _ names fits.1 in
    let own = passed (not (bytes_eq first login)) OtherLogin _ names clean.1 in
    let is : rest ≡ names = cc in
    rw (← is) (record { components = not-false _ clean.0; short = ltb-false _ _ fits.0 })

-- a front that leaves no room for the next name
pub too_long-at : (names : List (List ℕ)) (i room : ℕ) (d : List ℕ) → i < length names → room + length (slashed (take i names)) ≡ LONGEST_PATH → room ≤ length (get_or names i d) → LONGEST_PATH < length (slashed names)
too_long-at names i room d within left over =
    omega (
      arith,
      length-slashed-take (i + 1) names,
      ap (λ ns. length (slashed ns)) (take_more names i d within) ∙ ap length (flat_map-append (λ c. slash ∷ c) (take i names) (get_or names i d ∷ [])),
      length-append (slashed (take i names)) (slashed (get_or names i d ∷ [])),
      length-append (get_or names i d) [],
    )

components : (names : List (List ℕ)) → list_all is_component names ≡ true → AllByRecursion IsComponent names
components [] all = tt
components (name ∷ names) all =
    let parts = and_parts (is_component name) (list_all is_component names) all in
    (IsComponent-from_test name parts.0, components names parts.1)

-- the name of this area, or what is found among the others
named : (name : List ℕ) (here area : Area) (other : Option Area) → (other ≡ Some area → name ≡ area_name area) → cond (bytes_eq name (area_name here)) (Some here) other ≡ Some area → name ≡ area_name area
named name here area other else_is found =
    elim (cases_Bool (bytes_eq name (area_name here))) [
      | inl yes_is ↦
          let same : Some here ≡ Some area = sym (cond-true (bytes_eq name (area_name here)) (Some here) other yes_is) ∙ found in
          let is : here ≡ area = cc in
          (bytes_eq-Decides name (area_name here)).0 yes_is ∙ ap area_name is
      | inr no_is ↦ else_is (sym (cond-false (bytes_eq name (area_name here)) (Some here) other no_is) ∙ found)
    ]

pub area_of-name : (name : List ℕ) (area : Area) → area_of name ≡ Some area → name ≡ area_name area
area_of-name name area found =
    named name Stor area _ (named name Public area _ (named name Jobs area None (λ never. absurd (let e : None ≡ Some area = never in cc)))) found

-- a list is its first element before the others
pub first_and_others : {X : Type 0} (xs : List X) (first : X) → 1 ≤ length xs → first ≡ get_or xs 0 first → xs ≡ first ∷ take (length xs - 1) (drop 1 xs)
first_and_others [] first some is = absurd (omega arith)
first_and_others (x ∷ xs) first some is = λ i. sym is i ∷ sym (take_all (length (x ∷ xs) - 1) xs (omega arith)) i

pub IsPath-from_names : (name : List ℕ) (parts : List (List ℕ)) (area : Area) → AreNames (name ∷ parts) → area_of name ≡ Some area → IsPath (record { area = area; parts = parts })
IsPath-from_names name parts area are found =
    let is = area_of-name name area found in
    record {
      components = All-from_recursion IsComponent parts (components parts are.components);
      short = rw is at are.short;
    }
