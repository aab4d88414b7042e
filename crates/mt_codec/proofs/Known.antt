-- The form of each field that commands have.
use Rattle.std.proofs.Common.{◌≡◌, ℕ, ◌^◌, ◌<◌, ◌≤◌, Bool, true, false, cond, eqb, List, [], ◌∷◌, length, Option, Some, None, refl, sym, ap, ◌∙◌, arith}
use Rattle.std.specs.Prelude.{◌&&◌, ◌==◌, ◌*◌, ◌%◌, not, nat_le, nat_lt, IfSome, IsTrue, ⊤}
use Rattle.std.specs.Int.{w16, w32}
use Rattle.std.specs.List.{AllByRecursion, list_any}
use Rattle.std.specs.Str.{is_utf8}
use Rattle.std.proofs.lemmas.Bool.{and_parts, and_from, leb-true, le-leb, ltb-true, eqb-true}
use Rattle.std.proofs.lemmas.List.{length-append}
use Rattle.std.proofs.lemmas.List.Elements.{All-from_recursion, recursion_from_All}
use Rattle.mt_base.specs.Numbers.{big_endian_16, big_endian_32, big_endian_64}
use Rattle.mt_path.specs.AccountPath.{AccountPath, IsComponent, IsPath, area_name, area_number, is_component, local_text, slash, slashed}
use Rattle.mt_path.specs.declared.area.Area.{Area}
use Rattle.mt_path.specs.declared.area.Area.TheVariants.{Stor, Public, Jobs}
use Rattle.mt_path.specs.declared.limits.TheConstants.{LONGEST_COMPONENT, LONGEST_PATH}
use Rattle.mt_path.proofs.Components.{IsComponent-from_test, test_from_IsComponent}
use Rattle.mt_types.specs.declared.object.Field.{Field}
use Rattle.mt_base.specs.declared.limits.TheConstants.{LAST_MOMENT, NUMBERS_END}
use Rattle.mt_types.specs.declared.limits.TheConstants.{NUMBERS_A_COMMAND, LARGEST_DURABILITY, LONGEST_CONTENT_TYPE, LAST_PART, LONGEST_NAME, LONGEST_COMMAND_LINE, MOST_METADATA, LARGEST_METADATA}
use Rattle.mt_types.specs.Limits.{is_moment, is_number, is_durability, is_index, is_count, is_plain_text, is_content_type, is_job_name, is_command_line, is_line_text, is_metadata_name, is_metadata, is_by_name, is_placed, metadata_size}
use Rattle.mt_codec.specs.Fields.{text_spelling, long_text_spelling, path_spelling, body_spelling, optional_spelling}
use Rattle.mt_codec.specs.Spelling.{byte_spelling, field_spelling, metadata_spelling, flag_number, FitsBody, FitsText, undigested_body}
use Rattle.mt_types.specs.Limits.{FitsField, FitsMetadata}
use Rattle.mt_codec.specs.Reading.{Reader, tested, named, byte_at, number_at, sized}
use Rattle.mt_codec.specs.Readers.{is_few_fields, is_few_parts, moment_at, job_at, component_at, area_numbered, is_short, path_of, path_at, texts, content_type_at, body_of, body_at, durability_at, field_of, field_at, metadata_at, flag_numbered}
use Rattle.mt_codec.proofs.Forms.{IsForm, same, said, both_form, made_form, shown_form, tested_form, named_form, byte_form, two_form, four_form, eight_form, sized_form, list_form, optional_form}
use Rattle.mt_types.proofs.Metadata.{each_small}

-- a number that passes a test and is below what its bytes may hold because it does
narrowed : {spell : ℕ → List ℕ} {limit : ℕ} {f : Reader ℕ} → IsForm spell (λ n. n < limit) same f → (test : ℕ → Bool) → ((n : ℕ) → test n ≡ true → n < limit)
    → IsForm spell (λ n. IsTrue (test n)) same (tested test f)
narrowed form test below = said (tested_form form test (λ n. refl)) (λ n h. h.1) (λ n h. (below n h, h)) (λ n. refl)

pub moment_form : IsForm big_endian_64 (λ n. IsTrue (is_moment n)) same moment_at
moment_form = narrowed eight_form is_moment (λ n h. omega (arith, leb-true n LAST_MOMENT h))

pub job_form : IsForm big_endian_64 (λ n. IsTrue (is_number n)) same job_at
job_form = narrowed eight_form is_number (λ n h. omega (arith, ltb-true n NUMBERS_END (and_parts (n % NUMBERS_A_COMMAND == 0) (nat_lt n NUMBERS_END) h).1))

pub index_form : IsForm big_endian_16 (λ n. IsTrue (is_index n)) same (tested is_index (number_at w16))
index_form = narrowed two_form is_index (λ n h. omega (arith, leb-true n LAST_PART h))

pub count_form : IsForm big_endian_32 (λ n. IsTrue (is_count n)) same (tested is_count (number_at w32))
count_form = narrowed four_form is_count (λ n h. omega (arith, leb-true n 1024 (and_parts (nat_le 1 n) (nat_le n 1024) h).1))

pub durability_form : IsForm (optional_spelling byte_spelling) (λ d. IfSome d (λ n. IsTrue (is_durability n))) same durability_at
durability_form = optional_form (narrowed byte_form is_durability (λ n h. omega (arith, leb-true n LARGEST_DURABILITY (and_parts (nat_le 1 n) (nat_le n LARGEST_DURABILITY) h).1)))

-- a count in one byte
pub few_form : (test : ℕ → Bool) → ((n : ℕ) → test n ≡ true → n < 256) → IsForm (λ n. n ∷ []) (λ n. IsTrue (test n)) same (tested test byte_at)
few_form test below = narrowed byte_form test below

-- the same in two bytes
pub several_form : (test : ℕ → Bool) → ((n : ℕ) → test n ≡ true → n < 2 ^ 16) → IsForm big_endian_16 (λ n. IsTrue (test n)) same (tested test (number_at w16))
several_form test below = narrowed two_form test below

-- ---- texts

-- a text that passes a test and is short because it does
short_form : (test : List ℕ → Bool) → ((t : List ℕ) → test t ≡ true → length t < 2 ^ 16) → IsForm text_spelling (λ t. IsTrue (test t)) same (tested test (sized (number_at w16)))
short_form test short = said (tested_form (sized_form two_form) test (λ t. refl)) (λ t h. h.1) (λ t h. (short t h, h)) (λ t. refl)

pub content_type_form : IsForm text_spelling (λ t. IsTrue (is_content_type t)) same content_type_at
content_type_form = short_form is_content_type (λ t h. omega (arith, leb-true (length t) LONGEST_CONTENT_TYPE (and_parts (nat_le (length t) LONGEST_CONTENT_TYPE) (is_plain_text t) h).0))

-- a long text that passes a test, and is UTF-8
long_form : (test : List ℕ → Bool) → ((t : List ℕ) → test t ≡ true → length t < 2 ^ 32) → IsForm long_text_spelling (λ t. IsTrue (test t) × FitsText true t) same (texts test (sized (number_at w32)))
long_form test short =
    said (tested_form (sized_form four_form) (λ t. test t && is_utf8 t) (λ t. refl))
    (λ t h. let p = and_parts (test t) (is_utf8 t) h.1 in (p.0, p.1)) (λ t h. (short t h.0, and_from (test t) (is_utf8 t) h.0 h.1)) (λ t. refl)

pub job_name_form : IsForm long_text_spelling (λ t. IsTrue (is_job_name t) × FitsText true t) same (texts is_job_name (sized (number_at w32)))
job_name_form = long_form is_job_name (λ t h. omega (arith, leb-true (length t) LONGEST_NAME h))

pub command_line_form : IsForm long_text_spelling (λ t. IsTrue (is_command_line t) × FitsText true t) same (texts is_command_line (sized (number_at w32)))
command_line_form = long_form is_command_line (λ t h.
    let sizes = (and_parts (nat_le 1 (length t) && nat_le (length t) LONGEST_COMMAND_LINE) (not (list_any (λ b. b == 0) t)) h).0 in
    omega (arith, leb-true (length t) LONGEST_COMMAND_LINE (and_parts (nat_le 1 (length t)) (nat_le (length t) LONGEST_COMMAND_LINE) sizes).1))

pub line_text_form : IsForm long_text_spelling (λ t. IsTrue (is_line_text t) × (length t < 2 ^ 32) × FitsText true t) same (texts is_line_text (sized (number_at w32)))
line_text_form =
    said (tested_form (sized_form four_form) (λ t. is_line_text t && is_utf8 t) (λ t. refl))
    (λ t h. let p = and_parts (is_line_text t) (is_utf8 t) h.1 in (p.0, h.0, p.1)) (λ t h. (h.1, and_from (is_line_text t) (is_utf8 t) h.0 h.2)) (λ t. refl)

-- ---- paths and bodies

area_named : (area : Area) → area_numbered (area_number area) ≡ Some area
area_named Stor = refl
area_named Public = refl
area_named Jobs = refl

-- a name that is found among several is the one of this number
pub named_or : {A : Type 0} (n k : ℕ) (here y : A) (other : Option A) (code : A → ℕ) → code here ≡ k → (other ≡ Some y → code y ≡ n) → cond (eqb n k) (Some here) other ≡ Some y → code y ≡ n
named_or n k here y other code is else_is e = go (eqb n k) refl e
  where
    go : (b : Bool) → eqb n k ≡ b → cond b (Some here) other ≡ Some y → code y ≡ n
    go true test found = let h : here ≡ y = cc in ap code (sym h) ∙ is ∙ sym (eqb-true n k test)
    go false test found = else_is found

pub named_none : {A : Type 0} (y : A) (P : Type 0) → None ≡ Some y → P
named_none y P e = absurd cc

numbered_area : (n : ℕ) (area : Area) → area_numbered n ≡ Some area → area_number area ≡ n
numbered_area n area e =
    named_or n 0 Stor area _ area_number refl (named_or n 1 Public area _ area_number refl (named_or n 2 Jobs area None area_number refl (named_none area _))) e

area_below : (area : Area) → area_number area < 256
area_below Stor = omega arith
area_below Public = omega arith
area_below Jobs = omega arith

component_form : IsForm text_spelling IsComponent same component_at
component_form =
    said (tested_form (sized_form two_form) is_component (λ t. refl)) (λ t h. IsComponent-from_test t h.1) (λ t h. let short : length t ≤ LONGEST_COMPONENT = h.short in (omega arith, test_from_IsComponent t h)) (λ t. refl)

-- each name has a slash
names-slashed : (names : List (List ℕ)) → length names ≤ length (slashed names)
names-slashed [] = omega arith
names-slashed (name ∷ names) = omega (arith, length-append (slash ∷ name) (slashed names), names-slashed names)

-- a path has fewer components than two bytes may say
pub parts_short : (p : AccountPath) → IsPath p → length p.parts < 2 ^ 16
parts_short p is =
    omega (arith, is.short, names-slashed p.parts, length-append (slash ∷ area_name p.area) (slashed p.parts))

-- each component has a byte and a slash
names_filled : (names : List (List ℕ)) → AllByRecursion IsComponent names → 2 * length names ≤ length (slashed names)
names_filled [] all = omega arith
names_filled (name ∷ names) all =
    let some : 1 ≤ length name = all.0.some in
    omega (arith, some, length-append (slash ∷ name) (slashed names), names_filled names all.1)

parts_few : (p : AccountPath) → IsPath p → IsTrue (is_few_parts (length p.parts))
parts_few p is =
    let filled = names_filled p.parts (recursion_from_All IsComponent p.parts is.components) in
    le-leb (2 * length p.parts) LONGEST_PATH (omega (arith, is.short, filled, length-append (slash ∷ area_name p.area) (slashed p.parts)))

-- two bytes may say it
few_parts : (n : ℕ) → is_few_parts n ≡ true → n < 2 ^ 16
few_parts n h = omega (arith, leb-true (2 * n) LONGEST_PATH h)

pub path_form : IsForm path_spelling IsPath same path_at
unfolding path_spelling path_at
path_form =
    said
    (tested_form
    (made_form (both_form (named_form byte_form area_numbered area_number area_named numbered_area) (list_form (several_form is_few_parts few_parts) component_form))
    path_of (λ p. (p.area, p.parts)) path_spelling (λ p. (area_number p.area < 256) × (IsTrue (is_few_parts (length p.parts)) × AllByRecursion IsComponent p.parts)) same
    (λ p. refl) (λ p. refl) (λ p h. h) (λ p h. h) (λ p. refl))
    is_short (λ p. refl))
    (λ p h. record { components = All-from_recursion IsComponent p.parts h.0.1.1; short = leb-true (length (local_text p)) LONGEST_PATH h.1 })
    (λ p h. ((area_below p.area, (parts_few p h, recursion_from_All IsComponent p.parts h.components)), le-leb (length (local_text p)) LONGEST_PATH h.short))
    (λ p. refl)

pub body_form : IsForm body_spelling (FitsBody true) undigested_body body_at
unfolding body_at
body_form =
    said
    (tested_form
    (shown_form (both_form eight_form eight_form) body_of (λ b. (b.first, b.len)) body_spelling (λ b. (b.first < 2 ^ 64) × (b.len < 2 ^ 64)) undigested_body
    (λ p. refl) (λ p h. h) (λ b h. h) (λ p. refl) (λ b. refl) (λ b. refl))
    is_placed (λ b. refl))
    (λ b h. record { placed = h.1; first = h.0.0; len = h.0.1 })
    (λ b h. ((h.first, h.len), h.placed))
    (λ b. refl)

-- ---- what a put has besides

pub field_form : IsForm field_spelling (λ f. ((length f.name < 2 ^ 16) × IsTrue (is_metadata_name f.name)) × ((length f.value < 2 ^ 16) × IsTrue (is_plain_text f.value))) same field_at
unfolding field_spelling field_at
field_form =
    made_form
    (both_form (tested_form (sized_form two_form) is_metadata_name (λ t. refl)) (tested_form (sized_form two_form) is_plain_text (λ t. refl)))
    field_of (λ f. (f.name, f.value)) field_spelling (λ f. ((length f.name < 2 ^ 16) × IsTrue (is_metadata_name f.name)) × ((length f.value < 2 ^ 16) × IsTrue (is_plain_text f.value))) same
    (λ f. refl) (λ p. refl) (λ p h. h) (λ f h. h) (λ p. refl)

-- facts of each value of a list, changed
pub each_from : {A : Type 0} (P Q : A → Type 0) → ((x : A) → P x → Q x) → (xs : List A) → AllByRecursion P xs → AllByRecursion Q xs
each_from P Q change [] all = tt
each_from P Q change (x ∷ xs) all = (change x all.0, each_from P Q change xs all.1)

-- the same, of two facts
each_of_both : {A : Type 0} (P Q R : A → Type 0) → ((x : A) → P x → Q x → R x) → (xs : List A) → AllByRecursion P xs → AllByRecursion Q xs → AllByRecursion R xs
each_of_both P Q R join [] all each = tt
each_of_both P Q R join (x ∷ xs) all each = (join x all.0 each.0, each_of_both P Q R join xs all.1 each.1)

metadata_within : (fields : List Field) → IsTrue (is_metadata fields) → metadata_size fields ≤ LARGEST_METADATA
metadata_within fields is = leb-true (metadata_size fields) LARGEST_METADATA (and_parts (nat_le (metadata_size fields) LARGEST_METADATA) (is_by_name fields) is).0

-- names and values of metadata have fewer bytes than two bytes may say
pub fields_short : (fields : List Field) → FitsMetadata fields → AllByRecursion (λ f. (length f.name < 2 ^ 16) × (length f.value < 2 ^ 16)) fields
fields_short fields fits =
    each_from (λ f. (length f.name ≤ LARGEST_METADATA) × (length f.value ≤ LARGEST_METADATA)) (λ f. (length f.name < 2 ^ 16) × (length f.value < 2 ^ 16))
    (λ f small. let a = small.0 in let b = small.1 in (omega (arith, a), omega (arith, b))) fields
    (each_small fields LARGEST_METADATA (metadata_within fields fits.all))

pub metadata_form : IsForm metadata_spelling FitsMetadata same metadata_at
unfolding metadata_spelling metadata_at
metadata_form =
    said
    (tested_form (list_form (few_form is_few_fields (λ n h. omega (arith, leb-true n MOST_METADATA h))) field_form) is_metadata (λ fields. refl))
    (λ fields h. record {
      few = leb-true (length fields) MOST_METADATA h.0.0;
      each = each_from _ FitsField (λ f is. (is.0.1, is.1.1)) fields h.0.1;
      all = h.1;
    })
    (λ fields h.
    let short = each_small fields LARGEST_METADATA (metadata_within fields h.all) in
    let each = each_of_both (λ f. (length f.name ≤ LARGEST_METADATA) × (length f.value ≤ LARGEST_METADATA)) FitsField (λ f. ((length f.name < 2 ^ 16) × IsTrue (is_metadata_name f.name)) × ((length f.value < 2 ^ 16) × IsTrue (is_plain_text f.value)))
    (λ f small fits. let a = small.0 in let b = small.1 in ((omega (arith, a), fits.0), (omega (arith, b), fits.1))) fields short h.each in
    ((le-leb (length fields) MOST_METADATA h.few, each), h.all))
    (λ fields. refl)

flag_named : (flag : Bool) → flag_numbered (flag_number flag) ≡ Some flag
flag_named false = refl
flag_named true = refl

numbered_flag : (n : ℕ) (flag : Bool) → flag_numbered n ≡ Some flag → flag_number flag ≡ n
numbered_flag n flag e = named_or n 0 false flag _ flag_number refl (named_or n 1 true flag None flag_number refl (named_none flag _)) e

flag_below : (flag : Bool) → flag_number flag < 256
flag_below false = omega arith
flag_below true = omega arith

pub flag_form : IsForm (λ flag. byte_spelling (flag_number flag)) (λ flag. ⊤) same (named flag_numbered byte_at)
flag_form = said (named_form byte_form flag_numbered flag_number flag_named numbered_flag) (λ flag h. tt) (λ flag h. flag_below flag) (λ flag. refl)
