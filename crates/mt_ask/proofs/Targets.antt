-- A target that was written is read as its path, alone and before a query.
use Rattle.std.proofs.Common.{◌≡◌, ◌≢◌, ℕ, ◌<◌, Bool, true, false, List, [], ◌∷◌, ◌++◌, length, map, All, nat_eq, bytes_eq, codes, if◌then◌else◌, Ok, refl, sym, ap, ap₂, ◌∙◌, ⊎_elim, arith, rules, append-nil}
use Rattle.std.specs.List.{AllByRecursion, before_first, flat_map, list_all, list_any, starts_with}
use Rattle.std.proofs.lemmas.Bool.{and_parts, or_parts, ne_eqb, false≢true, cond-true}
use Rattle.std.proofs.lemmas.Bool.Decides.{nat_tests}
use Rattle.std.proofs.lemmas.Grind.{flat_map-append}
use Rattle.std.proofs.lemmas.List.Elements.{All-nil, All-cons, All-append, All-weaker, recursion_from_All}
use Rattle.form_urlencoded.proofs.FormLemmas.{split_once_before_at, split_once_before_none}
use Rattle.percent_encoding.specs.Percent.{percent_decode, percent_encode_byte}
use Rattle.percent_encoding.proofs.PercentLemmas.{All-percent_encode_byte, IsByte, IsEscapeByte, percent_encode_nonempty}
use Rattle.mt_path.specs.AccountPath.{AccountPath, IsComponent, IsLogin, IsPath, area_name, is_barred, is_login_byte, path_text, slash, slashed}
use Rattle.mt_path.specs.Names.{and_then, names_of, path_of, path_of_target, pieces, question_mark, target_pieces, text_pieces, with_login}
use Rattle.mt_path.specs.declared.area.Area.{Area}
use Rattle.mt_path.specs.declared.area.Area.TheVariants.{Stor, Public, Jobs}
use Rattle.mt_path.proofs.Printed.{IsPiece, path_of_text-printed, pieces-slashed}
use Rattle.mt_ask.specs.Requests.{escaped, escaped_byte, is_plain, target_text}
use Rattle.mt_ask.specs.declared.escapes.TheConstants.{ESCAPED}
use Rattle.mt_ask.proofs.Decoding.{IsTargetByte, decoded_again, escaped_is, target_bytes}
use Rattle.mt_ask.proofs.TextBytes.{text_bytes}

-- ---- escapes within names

abbrev IsOpen : ℕ → Type 0
IsOpen b = nat_eq b slash ≡ false

escape_open : (b : ℕ) → IsEscapeByte b → IsOpen b
escape_open b is = ne_eqb b slash (λ x. ⊎_elim (λ e. absurd (omega (arith, e, x))) (λ h. ⊎_elim (λ d. absurd (omega (arith, d.0, x))) (λ d. absurd (omega (arith, d.0, x))) h) is)

byte_open : (b : ℕ) (plain : Bool) → is_plain b ≡ plain → IsOpen b → All IsOpen (escaped_byte b)
byte_open b true is kept = rw is (All-cons IsOpen b [] kept (All-nil IsOpen))
byte_open b false is kept = rw is (All-weaker IsEscapeByte IsOpen escape_open (percent_encode_byte b) (All-percent_encode_byte b))

escaped_open : (name : List ℕ) → AllByRecursion IsOpen name → All IsOpen (escaped name)
unfolding escaped
escaped_open [] all = All-nil IsOpen
escaped_open (b ∷ bs) all = All-append IsOpen (escaped_byte b) (flat_map escaped_byte bs) (byte_open b (is_plain b) refl all.0) (escaped_open bs all.1)

escaped_some : (name : List ℕ) → 0 < length name → 0 < length (escaped name)
escaped_some name some = rw (sym (escaped_is name)) (percent_encode_nonempty ESCAPED name some)

-- a name that is a piece of a path: of bytes, some, and no slash
record IsName (name : List ℕ) : Type 0 where
  piece : IsPiece name
  bytes : All IsByte name

escaped_piece : (name : List ℕ) → IsPiece name → IsPiece (escaped name)
escaped_piece name is = record { some = escaped_some name is.some; whole = recursion_from_All IsOpen (escaped name) (escaped_open name is.whole) }

escaped_pieces : (names : List (List ℕ)) → AllByRecursion IsName names → AllByRecursion IsPiece (map escaped names)
escaped_pieces [] all = tt
escaped_pieces (name ∷ names) all = (escaped_piece name all.0.piece, escaped_pieces names all.1)

decoded_names : (names : List (List ℕ)) → AllByRecursion IsName names → map percent_decode (map escaped names) ≡ names
decoded_names [] all = refl
decoded_names (name ∷ names) all = ap₂ (λ n ns. n ∷ ns) (decoded_again name all.0.bytes) (decoded_names names all.1)

escaped-slashed : (names : List (List ℕ)) → escaped (slashed names) ≡ slashed (map escaped names)
unfolding escaped
escaped-slashed [] = refl
escaped-slashed (name ∷ names) = ap (λ r. slash ∷ r) (flat_map-append escaped_byte name (slashed names) ∙ ap (λ r. flat_map escaped_byte name ++ r) (escaped-slashed names))

-- ---- the names of a path

open_bytes : (name : List ℕ) → list_any is_barred name ≡ false → AllByRecursion IsOpen name
open_bytes [] clear = tt
open_bytes (b ∷ bs) clear =
    let parts = or_parts (is_barred b) (list_any is_barred bs) clear in
    let tests = or_parts _ _ parts.0 in
    ((or_parts _ _ tests.0).1, open_bytes bs parts.1)

component_name : (name : List ℕ) → IsComponent name → IsName name
component_name name is = record { piece = record { some = omega (arith, is.some); whole = open_bytes name is.clear }; bytes = text_bytes name is.text }

component_names : (names : List (List ℕ)) → AllByRecursion IsComponent names → AllByRecursion IsName names
component_names [] all = tt
component_names (name ∷ names) all = (component_name name all.0, component_names names all.1)

few_bytes : (name : List ℕ) → AllByRecursion (λ b. b < 256) name → All IsByte name
few_bytes [] all = All-nil IsByte
few_bytes (b ∷ bs) all = All-cons IsByte b bs all.0 (few_bytes bs all.1)

area_is_name : (area : Area) → IsName (area_name area)
area_is_name Stor = record { piece = record { some = omega arith; whole = search rules }; bytes = few_bytes (codes "stor") (search rules) }
area_is_name Public = record { piece = record { some = omega arith; whole = search rules }; bytes = few_bytes (codes "public") (search rules) }
area_is_name Jobs = record { piece = record { some = omega arith; whole = search rules }; bytes = few_bytes (codes "jobs") (search rules) }

login_byte : (b : ℕ) → is_login_byte b ≡ true → b < 256
login_byte b is = grind (arith, nat_tests, is)

login_bytes : (name : List ℕ) → list_all is_login_byte name ≡ true → AllByRecursion IsOpen name × All IsByte name
login_bytes [] plain = (tt, All-nil IsByte)
login_bytes (b ∷ bs) plain =
    let parts = and_parts (is_login_byte b) (list_all is_login_byte bs) plain in
    let rest = login_bytes bs parts.1 in
    ((ne_eqb b slash (λ e. false≢true (rw e at parts.0)), rest.0), All-cons IsByte b bs (login_byte b parts.0) rest.1)

login_is_name : (name : List ℕ) → IsLogin name → IsName name
login_is_name name is =
    let all = login_bytes name is.plain in
    record { piece = record { some = omega (arith, is.some); whole = all.0 }; bytes = all.1 }

-- ---- the pieces of a target

abbrev names_in : List ℕ → AccountPath → List (List ℕ)
names_in login p = login ∷ area_name p.area ∷ p.parts

all_names : (login : List ℕ) (p : AccountPath) → IsLogin login → IsPath p → AllByRecursion IsName (names_in login p)
all_names login p named is =
    (login_is_name login named, (area_is_name p.area, component_names p.parts (recursion_from_All IsComponent p.parts is.components)))

target_is : (login : List ℕ) (p : AccountPath) → target_text login p ≡ slashed (map escaped (names_in login p))
unfolding path_text
target_is login p = escaped-slashed (names_in login p)

pieces_are : (names : List (List ℕ)) (name : List ℕ) → IsName name → AllByRecursion IsName names → map percent_decode (pieces (slashed (map escaped (name ∷ names)))) ≡ name ∷ names
pieces_are names name is all =
    ap (map percent_decode) (pieces-slashed (escaped name) (map escaped names) (escaped_piece name is.piece) (escaped_pieces names all))
    ∙ decoded_names (name ∷ names) (is, all)

begins : (login : List ℕ) (p : AccountPath) (more : List ℕ) → starts_with nat_eq (target_text login p ++ more) (codes "/") ≡ true
begins login p more = rw (target_is login p) refl

-- the pieces of a target that begins with a path, and goes on with nothing or a query
pieces_read : (login raw : List ℕ) (p : AccountPath) → IsLogin login → IsPath p → starts_with nat_eq raw (codes "/") ≡ true
    → before_first (λ b. nat_eq b question_mark) raw ≡ target_text login p → target_pieces raw ≡ names_in login p
unfolding target_pieces
pieces_read login raw p named is starts before =
    let all = all_names login p named is in
    cond-true _ _ _ starts
    ∙ ap (λ t. map percent_decode (pieces t)) (before ∙ target_is login p)
    ∙ pieces_are (area_name p.area ∷ p.parts) login all.0 all.1

-- ---- the pieces of the text are the same

either : (test : Bool) (x : List ℕ) → (if test then x else x) ≡ x
either true x = refl
either false x = refl

pieces_of_names : (names : List (List ℕ)) → AllByRecursion IsName names → AllByRecursion IsPiece names
pieces_of_names [] all = tt
pieces_of_names (name ∷ names) all = (all.0.piece, pieces_of_names names all.1)

text_names : (login : List ℕ) (p : AccountPath) → IsLogin login → IsPath p → text_pieces login (path_text login p) ≡ names_in login p
unfolding text_pieces path_text
text_names login p named is =
    let all = all_names login p named is in
    ap (with_login login) (pieces-slashed login (area_name p.area ∷ p.parts) all.0.piece (pieces_of_names (area_name p.area ∷ p.parts) all.1))
    ∙ ap (λ first. first ∷ area_name p.area ∷ p.parts) (either (bytes_eq login (codes "~~")) login)

path_read : (login raw : List ℕ) (p : AccountPath) → IsLogin login → IsPath p → starts_with nat_eq raw (codes "/") ≡ true
    → before_first (λ b. nat_eq b question_mark) raw ≡ target_text login p → path_of_target login raw ≡ Ok p
path_read login raw p named is starts before =
    ap (λ names. and_then (names_of login names) path_of) (pieces_read login raw p named is starts before ∙ sym (text_names login p named is))
    ∙ path_of_text-printed login p named is

no_question : (login : List ℕ) (p : AccountPath) → All (λ b. b ≢ 63) (target_text login p)
no_question login p = All-weaker IsTargetByte (λ b. b ≢ 63) (λ b is. is.no_question) (target_text login p) (target_bytes (path_text login p))

pub target_read : (login : List ℕ) (p : AccountPath) → IsLogin login → IsPath p → path_of_target login (target_text login p) ≡ Ok p
target_read login p named is =
    let starts = rw append-nil at (begins login p []) in
    path_read login (target_text login p) p named is starts (split_once_before_none 63 (target_text login p) (no_question login p))

pub queried_target_read : (login : List ℕ) (p : AccountPath) (query : List ℕ) → IsLogin login → IsPath p → path_of_target login (target_text login p ++ question_mark ∷ query) ≡ Ok p
queried_target_read login p query named is =
    path_read login (target_text login p ++ 63 ∷ query) p named is (begins login p (63 ∷ query)) (split_once_before_at 63 (target_text login p) query (no_question login p))
