-- Texts that are appended to, and the sizes of assets one by one.
use Rattle.std.proofs.Common.{◌≡◌, ℕ, ◌+◌, ◌<◌, List, [], ◌∷◌, ◌++◌, map, length, get_or, take, refl, sym, ap, ◌∙◌, arith, append_assoc}
use Rattle.std.specs.List.{zip}
use Rattle.std.proofs.lemmas.List.{take_more}
use Rattle.std.proofs.lemmas.Slice.Zip.{get_or-zip, length-zip}
use Rattle.mt_path.specs.AccountPath.{AccountPath, path_text}
use Rattle.mt_types.specs.declared.body.Body.{Body}
use Rattle.mt_spawn.specs.declared.task.AssetSize.{AssetSize}
use Rattle.mt_phase.specs.Orders.{asset_size}

-- what is appended one by one is a path, and then a name's front
pub joined : (a login b id c s root d number : List ℕ)
    → ((((((((a ++ login) ++ b) ++ id) ++ (c ++ s)) ++ root) ++ d) ++ number) ++ d) ≡ (a ++ (login ++ (b ++ (id ++ c)))) ++ (s ++ (((root ++ d) ++ number) ++ d))
joined a login b id c s root d number = simp append_assoc

map_more : {X : Type 0} {Y : Type 0} (f : X → Y) (xs ys : List X) → map f (xs ++ ys) ≡ map f xs ++ map f ys
map_more {X} {Y} f [] ys = refl
map_more {X} {Y} f (x ∷ xs) ys = ap (λ (l : List Y). f x ∷ l) (map_more f xs ys)

-- one asset more
pub sizes_more : (login : List ℕ) (names : List AccountPath) (bodies : List Body) (k : ℕ) (sizes : List AssetSize) (name : List ℕ) (len : ℕ) (p : AccountPath) (b : Body)
    → k < length names → k < length bodies → sizes ≡ map (asset_size (λ c. c.len) login) (take k (zip names bodies))
    → name ≡ path_text login p → len ≡ b.len → p ≡ get_or names k p → b ≡ get_or bodies k b
    → sizes ++ record { name = name; len = len } ∷ [] ≡ map (asset_size (λ c. c.len) login) (take (k + 1) (zip names bodies))
sizes_more login names bodies k sizes name len p b some_name some_body was name_is len_is path_is body_is =
    let pair : get_or (zip names bodies) k (p, b) ≡ (p, b) = get_or-zip names bodies k (p, b) some_name some_body ∙ (λ i. (sym path_is i, sym body_is i)) in
    let within : k < length (zip names bodies) = omega (arith, length-zip names bodies) in
    sym
    (ap (map (asset_size (λ c. c.len) login)) (take_more (zip names bodies) k (p, b) within ∙ ap (λ q. take k (zip names bodies) ++ q ∷ []) pair)
    ∙ map_more (asset_size (λ c. c.len) login) (take k (zip names bodies)) ((p, b) ∷ [])
    ∙ (λ i. sym was i ++ record { name = sym name_is i; len = sym len_is i } ∷ []))
