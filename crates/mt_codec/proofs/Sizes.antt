-- How many bytes commands have at most.
use Rattle.std.proofs.Common.{◌≡◌, ℕ, ◌+◌, ◌*◌, ◌≤◌, Bool, true, false, cond, List, [], ◌∷◌, ◌++◌, length, Option, Some, None, refl, arith}
use Rattle.std.specs.Prelude.{◌&&◌, ◌==◌, not, nat_le, IfSome}
use Rattle.std.specs.List.{flat_map, list_any, AllByRecursion}
use Rattle.std.proofs.Math.Nat.{suc-mul}
use Rattle.std.proofs.lemmas.Bool.{and_parts, leb-true}
use Rattle.std.proofs.lemmas.List.{length-append}
use Rattle.mt_base.specs.Numbers.{big_endian_16, big_endian_32, big_endian_64}
use Rattle.mt_path.specs.AccountPath.{AccountPath, IsPath, area_name, slash, slashed}
use Rattle.mt_path.specs.declared.area.Area.{Area}
use Rattle.mt_path.specs.declared.area.Area.TheVariants.{Stor, Public, Jobs}
use Rattle.mt_types.specs.declared.body.Body.{Body}
use Rattle.mt_types.specs.declared.object.Field.{Field}
use Rattle.mt_types.specs.declared.document.PhaseKind.{PhaseKind}
use Rattle.mt_types.specs.declared.document.PhaseKind.TheVariants.{Map, Reduce}
use Rattle.mt_types.specs.declared.document.Phase.{Phase}
use Rattle.mt_types.specs.declared.document.JobDocument.{JobDocument}
use Rattle.mt_types.specs.declared.document.InputLine.{InputLine}
use Rattle.mt_types.specs.declared.document.InputLine.TheVariants.{Named, Other}
use Rattle.mt_types.specs.declared.task.TaskRecord.{TaskRecord}
use Rattle.mt_types.specs.declared.task.TaskRecord.TheVariants.{Emit, Keep, Ref}
use Rattle.mt_types.specs.declared.task.Fate.{Fate}
use Rattle.mt_types.specs.declared.task.Fate.TheVariants.{Good, Bad}
use Rattle.mt_types.specs.declared.command.Command.{Command}
use Rattle.mt_types.specs.declared.command.Command.TheVariants.{Put, MakeDirectory, Link, Delete, NewJob, AddInputs, EndInput, Commit, Finish, Cancel, Close, NewUpload, PutPart, CommitUpload, AbortUpload}
use Rattle.mt_types.specs.declared.limits.TheConstants.{LONGEST_CONTENT_TYPE, LARGEST_METADATA, LONGEST_COMMAND_LINE}
use Rattle.mt_types.specs.Limits.{is_by_name, is_content_type, is_plain_text, metadata_size}
use Rattle.mt_codec.specs.Fields.{text_spelling, long_text_spelling, path_spelling, body_spelling, optional_spelling}
use Rattle.mt_codec.specs.Spelling.{byte_spelling, field_spelling, metadata_spelling, kind_spelling, phase_spelling, document_spelling, line_spelling, record_spelling, failure_number, fate_spelling, archive_spelling, is_marked, put_spelling, spelling, FitsCommandLine, FitsPhase, FitsDocument, FitsLine, FitsRecord, FitsFate, FitsPut, HasSpelling}
use Rattle.mt_types.specs.Limits.{FitsMetadata}
use Rattle.mt_codec.specs.Pieces.{lines_bound, size_bound}

-- ---- the length of parts that stand behind each other

two : (a b : List ℕ) → length (a ++ b) ≡ length a + length b
two a b = length-append a b

three : (a b c : List ℕ) → length (a ++ b ++ c) ≡ length a + length b + length c
three a b c = omega (arith, length-append (a ++ b) c, length-append a b)

four : (a b c d : List ℕ) → length (a ++ b ++ c ++ d) ≡ length a + length b + length c + length d
four a b c d = omega (arith, length-append (a ++ b ++ c) d, three a b c)

five : (a b c d e : List ℕ) → length (a ++ b ++ c ++ d ++ e) ≡ length a + length b + length c + length d + length e
five a b c d e = omega (arith, length-append (a ++ b ++ c ++ d) e, four a b c d)

-- values of at most k bytes each
list_size : {A : Type 0} (spell : A → List ℕ) (P : A → Type 0) (k : ℕ) → ((x : A) → P x → length (spell x) ≤ k) → (xs : List A) → AllByRecursion P xs → length (flat_map spell xs) ≤ length xs * k
list_size spell P k each [] all = omega arith
list_size spell P k each (x ∷ xs) all =
    omega (arith, two (spell x) (flat_map spell xs), each x all.0, list_size spell P k each xs all.1, suc-mul (length xs) k)

text_size : (t : List ℕ) → length (text_spelling t) ≡ 2 + length t
text_size t = two (big_endian_16 (length t)) t

long_text_size : (t : List ℕ) → length (long_text_spelling t) ≡ 4 + length t
long_text_size t = two (big_endian_32 (length t)) t

area_size : (area : Area) → 4 ≤ length (area_name area)
area_size Stor = omega arith
area_size Public = omega arith
area_size Jobs = omega arith

parts_size : (names : List (List ℕ)) → length (flat_map text_spelling names) ≤ 2 * length (slashed names)
parts_size [] = omega arith
parts_size (name ∷ names) =
    omega (arith, two (text_spelling name) (flat_map text_spelling names), text_size name, two (slash ∷ name) (slashed names), parts_size names)

path_size : (p : AccountPath) → IsPath p → length (path_spelling p) ≤ 2048
unfolding path_spelling
path_size p is =
    omega (arith, two (big_endian_16 (length p.parts)) (flat_map text_spelling p.parts), parts_size p.parts, two (slash ∷ area_name p.area) (slashed p.parts), area_size p.area, is.short)

body_size : (b : Body) → length (body_spelling b) ≡ 16
body_size b = refl

-- ---- puts

fields_size : (fields : List Field) → length (flat_map field_spelling fields) ≡ 4 * length fields + metadata_size fields
unfolding field_spelling
fields_size [] = refl
fields_size (f ∷ fields) =
    omega (arith, two (text_spelling f.name ++ text_spelling f.value) (flat_map field_spelling fields), two (text_spelling f.name) (text_spelling f.value), text_size f.name, text_size f.value, fields_size fields)

metadata_length : (fields : List Field) → FitsMetadata fields → length (metadata_spelling fields) ≤ 4497
unfolding metadata_spelling
metadata_length fields fits =
    omega (arith, fields_size fields, fits.few, leb-true (metadata_size fields) LARGEST_METADATA (and_parts (nat_le (metadata_size fields) LARGEST_METADATA) (is_by_name fields) fits.all).0)

content_type_size : (t : List ℕ) → is_content_type t ≡ true → length (text_spelling t) ≤ 257
content_type_size t is = omega (arith, text_size t, leb-true (length t) LONGEST_CONTENT_TYPE (and_parts (nat_le (length t) LONGEST_CONTENT_TYPE) (is_plain_text t) is).0)

durability_size : (d : Option ℕ) → length (optional_spelling byte_spelling d) ≤ 2
durability_size None = omega arith
durability_size (Some n) = omega arith

either_size : (b : Bool) (x y : List ℕ) (k : ℕ) → length x ≤ k → length y ≤ k → length (cond b x y) ≤ k
either_size true x y k here there = here
either_size false x y k here there = there

put_size : (p : AccountPath) (t : List ℕ) (b : Body) (d : Option ℕ) (fields : List Field) (moment : ℕ) → FitsPut true p t b d fields → length (put_spelling p t b d fields moment) ≤ 8192
put_size p t b d fields moment fits =
    let begin = big_endian_64 moment ++ path_spelling p ++ text_spelling t in
    let first : length begin ≤ 2313 = omega (arith, three (big_endian_64 moment) (path_spelling p) (text_spelling t), path_size p fits.path, content_type_size t fits.content_type) in
    either_size (is_marked d fields) _ _ 8192
    (omega (arith, four begin (optional_spelling byte_spelling d) (metadata_spelling fields) (body_spelling b), first, durability_size d, metadata_length fields fits.metadata, body_size b))
    (omega (arith, two begin (body_spelling b), first, body_size b))

-- ---- jobs

kind_size : (kind : PhaseKind) → length (kind_spelling kind) ≤ 5
unfolding kind_spelling
kind_size Map = omega arith
kind_size (Reduce count) = omega arith

command_line_size : (t : List ℕ) → FitsCommandLine true t → length (long_text_spelling t) ≤ 65540
command_line_size t fits =
    let sizes = (and_parts (nat_le 1 (length t) && nat_le (length t) LONGEST_COMMAND_LINE) (not (list_any (λ b. b == 0) t)) fits.0).0 in
    omega (arith, long_text_size t, leb-true (length t) LONGEST_COMMAND_LINE (and_parts (nat_le 1 (length t)) (nat_le (length t) LONGEST_COMMAND_LINE) sizes).1)

init_size : (init : Option (List ℕ)) → IfSome init (FitsCommandLine true) → length (optional_spelling long_text_spelling init) ≤ 65541
init_size None fits = omega arith
init_size (Some t) fits = omega (arith, command_line_size t fits)

phase_size : (p : Phase) → FitsPhase true p → length (phase_spelling p) ≤ 262159
unfolding phase_spelling
phase_size p fits =
    omega (
      arith,
      four (kind_spelling p.kind) (long_text_spelling p.exec) (optional_spelling long_text_spelling p.init) (length p.assets ∷ flat_map path_spelling p.assets),
      kind_size p.kind,
      command_line_size p.exec fits.exec,
      init_size p.init fits.init,
      list_size path_spelling IsPath 2048 path_size p.assets fits.assets,
      fits.few,
    )

document_size : (d : JobDocument) → FitsDocument true d → length (document_spelling d) ≤ 4194549 + length d.name
unfolding document_spelling
document_size d fits =
    omega (
      arith,
      two (long_text_spelling d.name) (length d.phases ∷ flat_map phase_spelling d.phases),
      long_text_size d.name,
      list_size phase_spelling (FitsPhase true) 262159 phase_size d.phases fits.phases,
      fits.few,
    )

lines_size : (lines : List InputLine) → AllByRecursion (FitsLine true) lines → length (flat_map line_spelling lines) ≤ lines_bound lines
unfolding line_spelling
lines_size [] all = omega arith
lines_size (Named p ∷ lines) all = omega (arith, two (0 ∷ path_spelling p) (flat_map line_spelling lines), path_size p all.0, lines_size lines all.1)
lines_size (Other t ∷ lines) all = omega (arith, two (1 ∷ long_text_spelling t) (flat_map line_spelling lines), long_text_size t, lines_size lines all.1)

place_size : (place : Option AccountPath) → IfSome place IsPath → length (optional_spelling path_spelling place) ≤ 2049
place_size None fits = omega arith
place_size (Some p) fits = omega (arith, path_size p fits)

reducer_size : (reducer : Option ℕ) → length (optional_spelling big_endian_32 reducer) ≤ 5
reducer_size None = omega arith
reducer_size (Some n) = omega arith

record_size : (r : TaskRecord Body) → FitsRecord true r → length (record_spelling r) ≤ 2071
unfolding record_spelling
record_size (Emit place reducer body) fits =
    omega (arith, three (optional_spelling path_spelling place) (optional_spelling big_endian_32 reducer) (body_spelling body), place_size place fits.0, reducer_size reducer, body_size body)
record_size (Keep place body) fits = omega (arith, two (path_spelling place) (body_spelling body), path_size place fits.0, body_size body)
record_size (Ref name) fits = omega (arith, path_size name fits)

fate_size : (fate : Fate Body) → FitsFate true fate → length (fate_spelling fate) ≤ 8480748
unfolding fate_spelling
fate_size (Good records) fits =
    omega (arith, two (big_endian_16 (length records)) (flat_map record_spelling records), list_size record_spelling (FitsRecord true) 2071 record_size records fits.1, fits.0)
fate_size (Bad failure status stderr) fits =
    omega (arith, three (byte_spelling (failure_number failure)) (big_endian_32 status) (text_spelling stderr), text_size stderr, fits.1)

parts_length : (parts : List ℕ) → length (flat_map big_endian_64 parts) ≡ 8 * length parts
parts_length [] = refl
parts_length (n ∷ parts) = omega (arith, two (big_endian_64 n) (flat_map big_endian_64 parts), parts_length parts)

-- ---- commands

pub command_size : (c : Command Body) → HasSpelling c → length (spelling c) ≤ size_bound c
unfolding spelling archive_spelling
command_size (Put path content_type body durability metadata moment) fits = put_size path content_type body durability metadata moment fits.fields
command_size (MakeDirectory path moment) fits = omega (arith, two (big_endian_64 moment) (path_spelling path), path_size path fits.fields)
command_size (Link path source moment) fits =
    omega (arith, three (big_endian_64 moment) (path_spelling path) (path_spelling source), path_size path fits.fields.0, path_size source fits.fields.1)
command_size (Delete path moment) fits = omega (arith, two (big_endian_64 moment) (path_spelling path), path_size path fits.fields)
command_size (NewJob document moment) fits = omega (arith, two (big_endian_64 moment) (document_spelling document), document_size document fits.fields)
command_size (AddInputs job lines moment) fits =
    omega (arith, three (big_endian_64 moment) (big_endian_64 job) (big_endian_32 (length lines) ++ flat_map line_spelling lines), two (big_endian_32 (length lines)) (flat_map line_spelling lines), lines_size lines fits.fields.2)
command_size (EndInput job moment) fits = omega arith
command_size (Commit job phase place fate moment) fits =
    omega (arith, five (big_endian_64 moment) (big_endian_64 job) (big_endian_32 phase) (big_endian_64 place) (fate_spelling fate), fate_size fate fits.fields.2)
command_size (Finish job moment) fits = omega arith
command_size (Cancel job moment) fits = omega arith
command_size (Close job cancelled archive moment) fits = omega arith
command_size (NewUpload path content_type moment) fits =
    omega (arith, three (big_endian_64 moment) (path_spelling path) (text_spelling content_type), path_size path fits.fields.0, content_type_size content_type fits.fields.1)
command_size (PutPart upload index body moment) fits = omega arith
command_size (CommitUpload upload parts body moment) fits =
    omega (arith, four (big_endian_64 moment) (big_endian_64 upload) (big_endian_16 (length parts) ++ flat_map big_endian_64 parts) (body_spelling body), two (big_endian_16 (length parts)) (flat_map big_endian_64 parts), parts_length parts, body_size body)
command_size (AbortUpload upload moment) fits = omega arith
