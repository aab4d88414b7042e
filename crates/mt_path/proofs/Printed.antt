-- The text of a path is read as the path.
use Rattle.std.proofs.Common.{◌≡◌, ℕ, ◌<◌, List, [], ◌∷◌, ◌++◌, Bool, true, false, nat_eq, nat_lt, bytes_eq, if◌then◌else◌, codes, filter, Ok, length, drop, refl, sym, ap, ◌∙◌, arith, rules}
use Rattle.std.specs.List.{AllByRecursion, list_all, list_any, slice_split}
use Rattle.std.proofs.lemmas.Bool.{and_parts, or_parts, le-ltb, lt-ltb, and_from, ne_eqb, false≢true}
use Rattle.std.proofs.lemmas.List.{append-nil, append_cancel_left}
use Rattle.std.proofs.lemmas.List.Elements.{All-from_recursion, recursion_from_All}
use Rattle.std.proofs.lemmas.List.Splits.{slice_split_none, slice_split_at}
use Rattle.std.proofs.lemmas.Slice.Eq.{bytes_eq-Decides}
use Rattle.mt_path.specs.declared.area.Area.{Area}
use Rattle.mt_path.specs.declared.area.Area.TheVariants.{Stor, Public, Jobs}
use Rattle.mt_path.specs.declared.limits.TheConstants.{LONGEST_PATH}
use Rattle.mt_path.specs.AccountPath.{AccountPath, IsComponent, IsLogin, IsPath, area_name, is_barred, is_component, is_login_byte, local_text, path_text, slash, slashed}
use Rattle.mt_path.specs.Names.{names_of, path_of, path_of_text, pieces, text_pieces, with_login}
use Rattle.mt_path.proofs.Components.{test_from_IsComponent}

-- a name that stands between two slashes
pub record IsPiece (name : List ℕ) : Type 0 where
  pub some : 0 < length name
  pub whole : AllByRecursion (λ b. nat_eq b slash ≡ false) name

abbrev is_slash : ℕ → Bool
is_slash b = nat_eq b slash

abbrev is_some : List ℕ → Bool
is_some piece = nat_lt 0 (length piece)

keeps : (name : List ℕ) (rest : List (List ℕ)) → IsPiece name → filter is_some (name ∷ rest) ≡ name ∷ filter is_some rest
keeps name rest is = rw (lt-ltb 0 (length name) is.some) refl

split-names : (name : List ℕ) (names : List (List ℕ)) → IsPiece name → AllByRecursion IsPiece names → filter is_some (slice_split is_slash (name ++ slashed names)) ≡ name ∷ names
split-names name [] is all =
    let none = slice_split_none is_slash name (All-from_recursion (λ b. nat_eq b slash ≡ false) name is.whole) in
    rw (append-nil, none) (keeps name [] is)
split-names name (next ∷ names) is all =
    let cut = slice_split_at is_slash name slash (next ++ slashed names) (All-from_recursion (λ b. nat_eq b slash ≡ false) name is.whole) refl in
    ap (filter is_some) cut ∙ keeps name (slice_split is_slash (next ++ slashed names)) is ∙ ap (λ ns. name ∷ ns) (split-names next names all.0 all.1)

pub pieces-slashed : (name : List ℕ) (names : List (List ℕ)) → IsPiece name → AllByRecursion IsPiece names → pieces (slashed (name ∷ names)) ≡ name ∷ names
pieces-slashed name names is all = split-names name names is all

-- what isn't barred is no slash
open_bytes : (name : List ℕ) → list_any is_barred name ≡ false → AllByRecursion (λ b. nat_eq b slash ≡ false) name
open_bytes [] clear = tt
open_bytes (b ∷ bs) clear =
    let parts = or_parts (is_barred b) (list_any is_barred bs) clear in
    let tests = or_parts _ _ parts.0 in
    ((or_parts _ _ tests.0).1, open_bytes bs parts.1)

piece-component : (name : List ℕ) → IsComponent name → IsPiece name
piece-component name is = record { some = omega (arith, is.some); whole = open_bytes name is.clear }

piece-components : (names : List (List ℕ)) → AllByRecursion IsComponent names → AllByRecursion IsPiece names
piece-components [] all = tt
piece-components (name ∷ names) all = (piece-component name all.0, piece-components names all.1)

piece-area : (area : Area) → IsPiece (area_name area)
piece-area Stor = record { some = omega arith; whole = search rules }
piece-area Public = record { some = omega arith; whole = search rules }
piece-area Jobs = record { some = omega arith; whole = search rules }

login_bytes : (name : List ℕ) → list_all is_login_byte name ≡ true → AllByRecursion (λ b. nat_eq b slash ≡ false) name
login_bytes [] plain = tt
login_bytes (b ∷ bs) plain =
    let parts = and_parts (is_login_byte b) (list_all is_login_byte bs) plain in
    (ne_eqb b slash (λ e. false≢true (rw e at parts.0)), login_bytes bs parts.1)

piece-login : (name : List ℕ) → IsLogin name → IsPiece name
piece-login name is = record { some = omega (arith, is.some); whole = login_bytes name is.plain }

either : (test : Bool) (x : List ℕ) → (if test then x else x) ≡ x
either true x = refl
either false x = refl

-- the pieces of a printed path
text_pieces-path_text : (login : List ℕ) (p : AccountPath) → IsPiece login → IsPath p → text_pieces login (path_text login p) ≡ login ∷ area_name p.area ∷ p.parts
unfolding text_pieces path_text
text_pieces-path_text login p named is =
    let parts = piece-components p.parts (recursion_from_All IsComponent p.parts is.components) in
    let all = pieces-slashed login (area_name p.area ∷ p.parts) named (piece-area p.area, parts) in
    ap (with_login login) all ∙ ap (λ first. first ∷ area_name p.area ∷ p.parts) (either (bytes_eq login (codes "~~")) login)

tests_pass : (names : List (List ℕ)) → AllByRecursion IsComponent names → list_all is_component names ≡ true
tests_pass [] all = refl
tests_pass (name ∷ names) all = and_from (is_component name) (list_all is_component names) (test_from_IsComponent name all.0) (tests_pass names all.1)

names_of-path : (login : List ℕ) (p : AccountPath) → IsPath p → names_of login (login ∷ area_name p.area ∷ p.parts) ≡ Ok (area_name p.area ∷ p.parts)
unfolding names_of
names_of-path login p is =
    let fits = le-ltb LONGEST_PATH (length (local_text p)) is.short in
    let good = tests_pass p.parts (recursion_from_All IsComponent p.parts is.components) in
    let own = (bytes_eq-Decides login login).1 refl in
    rw (fits, good, own) refl

path_of-path : (area : Area) (parts : List (List ℕ)) → path_of (area_name area ∷ parts) ≡ Ok (record { area = area; parts = parts })
unfolding path_of
path_of-path Stor parts = refl
path_of-path Public parts = refl
path_of-path Jobs parts = refl

pub path_of_text-path_text : (login : List ℕ) (p : AccountPath) → IsPiece login → IsPath p → path_of_text login (path_text login p) ≡ Ok p
path_of_text-path_text login p named is =
    rw (text_pieces-path_text login p named is, names_of-path login p is) (path_of-path p.area p.parts)

pub path_of_text-printed : (login : List ℕ) (p : AccountPath) → IsLogin login → IsPath p → path_of_text login (path_text login p) ≡ Ok p
path_of_text-printed login p named is = path_of_text-path_text login p (piece-login login named) is

-- texts that are alike behind one login are alike without it, and behind another
alike : (login : List ℕ) (p q : AccountPath) → path_text login p ≡ path_text login q → local_text p ≡ local_text q
unfolding path_text
alike login p q same = append_cancel_left login (local_text p) (local_text q) (ap (drop 1) same)

behind : (login : List ℕ) (p : AccountPath) → path_text login p ≡ slash ∷ (login ++ local_text p)
unfolding path_text
behind login p = refl

pub path_text-injective : (login : List ℕ) (p q : AccountPath) → IsPath p → IsPath q → path_text login p ≡ path_text login q → p ≡ q
path_text-injective login p q is_p is_q same =
    let other : List ℕ = codes "l" in
    let named : IsPiece other = record { some = omega arith; whole = search rules } in
    let text : path_text other p ≡ path_text other q = behind other p ∙ ap (λ t. slash ∷ (other ++ t)) (alike login p q same) ∙ sym (behind other q) in
    let both : Ok p ≡ Ok q = sym (path_of_text-path_text other p named is_p) ∙ ap (path_of_text other) text ∙ path_of_text-path_text other q named is_q in
    cc
