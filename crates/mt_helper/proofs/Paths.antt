-- The path that a text names is one.
use Rattle.std.proofs.Common.{◌≡◌, ℕ, List, [], ◌∷◌, Option, Some, None, Result, Ok, Err, refl, subst}
use Rattle.std.specs.Result.{result_ok}
use Rattle.mt_path.specs.AccountPath.{AccountPath, IsPath}
use Rattle.mt_path.specs.Names.{AreNames, and_then, area_of, names_of, path_in, path_of, path_of_text, text_pieces}
use Rattle.mt_path.specs.declared.area.Area.{Area}
use Rattle.mt_path.specs.declared.error.PathError.{PathError}
use Rattle.mt_path.proofs.Judged.{AreNames-from_names_of, IsPath-from_names}

by_area : (area : Option Area) (parts : List (List ℕ)) (p : AccountPath) → ((a : Area) → area ≡ Some a → IsPath (record { area = a; parts = parts })) → path_in area parts ≡ Ok p → IsPath p
by_area None parts p each found = absurd (cc)
by_area (Some a) parts p each found =
    let whole : AccountPath = record { area = a; parts = parts } in
    let e : whole ≡ p = cc in
    subst IsPath e (each a refl)

of_names : (names : List (List ℕ)) (p : AccountPath) → AreNames names → path_of names ≡ Ok p → IsPath p
unfolding path_of
of_names [] p are found = absurd (cc)
of_names (name ∷ parts) p are found = by_area (area_of name) parts p (λ a. IsPath-from_names name parts a are) found

by_names : (r : Result (List (List ℕ)) PathError) (p : AccountPath) → ((names : List (List ℕ)) → r ≡ Ok names → AreNames names) → and_then r path_of ≡ Ok p → IsPath p
by_names (Err e) p are found = absurd (cc)
by_names (Ok names) p are found = of_names names p (are names refl) found

found_path : (r : Result AccountPath PathError) (p : AccountPath) → ((q : AccountPath) → r ≡ Ok q → IsPath q) → result_ok r ≡ Some p → IsPath p
found_path (Err e) p each found = absurd (cc)
found_path (Ok q) p each found = let e : q ≡ p = cc in subst IsPath e (each q refl)

pub path_named : (login text : List ℕ) (p : AccountPath) → result_ok (path_of_text login text) ≡ Some p → IsPath p
path_named login text p found =
    found_path (path_of_text login text) p (λ q e. by_names (names_of login (text_pieces login text)) q (AreNames-from_names_of login (text_pieces login text)) e) found
