-- A front of a path is a path, and so is a path with a component more that fits.
use Rattle.std.proofs.Common.{◌≡◌, ◌≤◌, ◌+◌, ℕ, List, [], ◌∷◌, ◌++◌, length, take, drop, sym, ap, ◌∙◌, arith, length-append}
use Rattle.std.proofs.lemmas.List.{take-append-drop}
use Rattle.std.proofs.lemmas.List.Concat.{flat_map-append}
use Rattle.std.proofs.lemmas.List.Elements.{All-take, All-push}
use Rattle.mt_path.specs.AccountPath.{AccountPath, IsComponent, IsPath, area_name, local_text, slash, slashed}

pub length-slashed-take : (n : ℕ) (names : List (List ℕ)) → length (slashed (take n names)) ≤ length (slashed names)
length-slashed-take n names =
    let cut : length (slashed names) ≡ length (slashed (take n names)) + length (slashed (drop n names)) =
    ap (λ ns. length (slashed ns)) (sym (take-append-drop n names)) ∙ ap length (flat_map-append (λ c. slash ∷ c) (take n names) (drop n names)) ∙ length-append (slashed (take n names)) (slashed (drop n names)) in
    omega arith

pub IsPath-take : (p : AccountPath) (n : ℕ) → IsPath p → IsPath (record p { parts = take n p.parts })
IsPath-take p n h = record {
  components = All-take IsComponent n p.parts h.components;
  short = omega (arith, length-slashed-take n p.parts, length-append (area_name p.area) (slashed p.parts), length-append (area_name p.area) (slashed (take n p.parts)), h.short);
}

-- the text of a path with a component more
pub length-local_text-push : (p : AccountPath) (name : List ℕ) → length (local_text (record p { parts = p.parts ++ name ∷ [] })) ≡ length (local_text p) + length name + 1
length-local_text-push p name =
    omega (arith, length-append (area_name p.area) (slashed p.parts), length-append (area_name p.area) (slashed (p.parts ++ name ∷ [])), ap length (flat_map-append (λ c. slash ∷ c) p.parts (name ∷ [])), length-append (slashed p.parts) (slashed (name ∷ [])), length-append name [])

pub IsPath-push : (p : AccountPath) (name : List ℕ) → IsPath p → IsComponent name → length (local_text p) + length name + 1 ≤ 1024 → IsPath (record p { parts = p.parts ++ name ∷ [] })
IsPath-push p name h is fits = record {
  components = All-push IsComponent p.parts name h.components is;
  short = omega (arith, length-local_text-push p name);
}
