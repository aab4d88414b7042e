-- The text of a path is UTF-8.
use Rattle.std.proofs.Common.{◌<◌, ℕ, List, [], ◌∷◌, IsUtf8, IsAscii, codes, arith, rules}
use Rattle.std.proofs.lemmas.Str.{IsUtf8-append, IsUtf8-nil, IsUtf8-from_ascii}
use Rattle.std.proofs.lemmas.Str.Ascii.{IsAscii-nil, IsAscii-cons}
use Rattle.std.proofs.lemmas.List.Elements.{recursion_from_All}
use Rattle.std.specs.List.{AllByRecursion}
use Rattle.mt_path.specs.declared.area.Area.{Area}
use Rattle.mt_path.specs.declared.area.Area.TheVariants.{Stor, Public, Jobs}
use Rattle.mt_path.specs.AccountPath.{AccountPath, IsComponent, IsPath, area_name, path_text, slash, slashed}

literal : (xs : List ℕ) → AllByRecursion (λ b. b < 128) xs → IsAscii xs
literal [] all = IsAscii-nil
literal (x ∷ xs) all = IsAscii-cons x xs all.0 (literal xs all.1)

pub IsUtf8-area_name : (area : Area) → IsUtf8 (area_name area)
IsUtf8-area_name Stor = IsUtf8-from_ascii _ (literal (codes "stor") (search rules))
IsUtf8-area_name Public = IsUtf8-from_ascii _ (literal (codes "public") (search rules))
IsUtf8-area_name Jobs = IsUtf8-from_ascii _ (literal (codes "jobs") (search rules))

one_slash : IsUtf8 (slash ∷ [])
one_slash = IsUtf8-from_ascii (slash ∷ []) (IsAscii-cons slash [] (omega arith) IsAscii-nil)

behind_slash : (name : List ℕ) → IsUtf8 name → IsUtf8 (slash ∷ name)
behind_slash name text = IsUtf8-append (slash ∷ []) name one_slash text

slashed_text : (names : List (List ℕ)) → AllByRecursion IsUtf8 names → IsUtf8 (slashed names)
slashed_text [] all = IsUtf8-nil
slashed_text (name ∷ names) all = IsUtf8-append (slash ∷ name) (slashed names) (behind_slash name all.0) (slashed_text names all.1)

texts : (names : List (List ℕ)) → AllByRecursion IsComponent names → AllByRecursion IsUtf8 names
texts [] all = tt
texts (name ∷ names) all = (all.0.text, texts names all.1)

pub IsUtf8-path_text : (login : List ℕ) (p : AccountPath) → IsUtf8 login → IsPath p → IsUtf8 (path_text login p)
unfolding path_text
IsUtf8-path_text login p named is =
    slashed_text (login ∷ area_name p.area ∷ p.parts) (named, (IsUtf8-area_name p.area, texts p.parts (recursion_from_All IsComponent p.parts is.components)))
