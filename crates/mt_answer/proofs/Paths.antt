-- What is read as a path is one.
use Rattle.std.proofs.Common.{◌≡◌, ℕ, List, [], ◌∷◌, Option, Some, None, Result, Ok, Err, refl, ap, subst}
use Rattle.mt_path.specs.AccountPath.{AccountPath, IsPath}
use Rattle.mt_path.specs.Names.{AreNames, and_then, area_of, names_of, path_in, path_of, path_of_target, path_of_text, target_pieces, text_pieces}
use Rattle.mt_path.specs.declared.area.Area.{Area}
use Rattle.mt_path.specs.declared.error.PathError.{PathError}
use Rattle.mt_path.proofs.Judged.{AreNames-from_names_of, IsPath-from_names}
use Rattle.mt_request.specs.Target.{path_or, path_read}

in_area : (area : Option Area) (name : List ℕ) (parts : List (List ℕ)) (p : AccountPath) → area_of name ≡ area → AreNames (name ∷ parts) → path_in area parts ≡ Ok p → IsPath p
in_area None name parts p named are found = absurd (cc)
in_area (Some area) name parts p named are found =
    let whole : AccountPath = record { area = area; parts = parts } in
    let same : whole ≡ p = cc in
    subst IsPath same (IsPath-from_names name parts area are named)

of_names : (names : List (List ℕ)) (p : AccountPath) → AreNames names → path_of names ≡ Ok p → IsPath p
unfolding path_of
of_names [] p are found = absurd (cc)
of_names (name ∷ parts) p are found = in_area (area_of name) name parts p refl are found

by_names : (r : Result (List (List ℕ)) PathError) (p : AccountPath) → ((names : List (List ℕ)) → r ≡ Ok names → AreNames names) → and_then r path_of ≡ Ok p → IsPath p
by_names (Ok names) p each found = of_names names p (each names refl) found
by_names (Err e) p each found = absurd (cc)

-- of a text
pub text_path : (login text : List ℕ) (p : AccountPath) → path_of_text login text ≡ Ok p → IsPath p
text_path login text p found = by_names (names_of login (text_pieces login text)) p (AreNames-from_names_of login (text_pieces login text)) found

either : (r : Result AccountPath PathError) (p : AccountPath) → path_or r ≡ Ok p → r ≡ Ok p
either (Ok q) p is = let same : q ≡ p = cc in ap Ok same
either (Err e) p is = absurd (cc)

-- of a target, or of a Location
pub target_path : (login raw : List ℕ) (p : AccountPath) → path_read login raw ≡ Ok p → IsPath p
target_path login raw p found = by_names (names_of login (target_pieces raw)) p (AreNames-from_names_of login (target_pieces raw)) (either (path_of_target login raw) p found)
