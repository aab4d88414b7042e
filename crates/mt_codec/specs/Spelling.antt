-- How commands are spelled, which have a spelling, and commands apart from the digests of their bodies.
use Rattle.std.specs.Prelude.{◌≡◌, ℕ, ◌<◌, ◌≤◌, ◌^◌, Bool, true, false, ⊤, IsTrue, List, [], ◌∷◌, ◌++◌, length, replicate, Option, Some, None, IfSome, if◌then◌else◌}
use Rattle.std.specs.List.{flat_map, AllByRecursion}
use Rattle.std.specs.Str.{is_utf8}
use Rattle.mt_base.specs.Numbers.{big_endian_16, big_endian_32, big_endian_64}
use Rattle.mt_path.specs.AccountPath.{AccountPath, IsPath}
use Rattle.mt_types.specs.declared.body.Body.{Body}
use Rattle.mt_types.specs.declared.object.Field.{Field}
use Rattle.mt_types.specs.declared.document.PhaseKind.{PhaseKind}
use Rattle.mt_types.specs.declared.document.PhaseKind.TheVariants.{Map, Reduce}
use Rattle.mt_types.specs.declared.document.Phase.{Phase}
use Rattle.mt_types.specs.declared.document.JobDocument.{JobDocument}
use Rattle.mt_types.specs.declared.document.InputLine.{InputLine}
use Rattle.mt_types.specs.declared.document.InputLine.TheVariants.{Named, Other}
use Rattle.mt_types.specs.declared.task.TaskRecord.{TaskRecord}
use Rattle.mt_types.specs.declared.task.TaskRecord.TheVariants.{Emit, Keep, Ref}
use Rattle.mt_types.specs.declared.task.TaskFailure.{TaskFailure}
use Rattle.mt_types.specs.declared.task.TaskFailure.TheVariants.{UserTaskError, TaskOutputTooLarge, TaskRecordError, TaskPlaceRefused, TaskObjectMissing}
use Rattle.mt_types.specs.declared.task.Fate.{Fate}
use Rattle.mt_types.specs.declared.task.Fate.TheVariants.{Good, Bad}
use Rattle.mt_types.specs.declared.command.Archive.{Archive}
use Rattle.mt_types.specs.declared.command.Command.{Command}
use Rattle.mt_types.specs.declared.command.Command.TheVariants.{Put, MakeDirectory, Link, Delete, NewJob, AddInputs, EndInput, Commit, Finish, Cancel, Close, NewUpload, PutPart, CommitUpload, AbortUpload}
use Rattle.mt_types.specs.Values.{command_with}
use Rattle.mt_types.specs.declared.limits.TheConstants.{MOST_PHASES, MOST_ASSETS, MOST_RECORDS, LONGEST_STDERR}
use Rattle.mt_types.specs.Limits.{is_moment, is_number, is_durability, is_count, is_index, is_content_type, is_job_name, is_command_line, is_line_text, is_placed, FitsMetadata}
use Rattle.mt_codec.specs.Fields.{text_spelling, long_text_spelling, path_spelling, body_spelling, optional_spelling}

-- ---- the grammar: each field, one after the other

-- one byte
abbrev pub byte_spelling : ℕ → List ℕ
byte_spelling n = n ∷ []

-- a piece of metadata: its name and its value
unfoldable pub field_spelling : Field → List ℕ
field_spelling f = text_spelling f.name ++ text_spelling f.value

-- how many, and each
unfoldable pub metadata_spelling : List Field → List ℕ
metadata_spelling fields = length fields ∷ flat_map field_spelling fields

-- a map phase is a 0, a reduce phase a 1 and the number of its reducers
unfoldable pub kind_spelling : PhaseKind → List ℕ
kind_spelling Map = 0 ∷ []
kind_spelling (Reduce count) = 1 ∷ big_endian_32 count

-- kind, command line, perhaps a command line before it, and the names of its assets
unfoldable pub phase_spelling : Phase → List ℕ
phase_spelling p =
    kind_spelling p.kind ++ long_text_spelling p.exec ++ optional_spelling long_text_spelling p.init
    ++ (length p.assets ∷ flat_map path_spelling p.assets)

-- the name of the job, and its phases
unfoldable pub document_spelling : JobDocument → List ℕ
document_spelling d = long_text_spelling d.name ++ (length d.phases ∷ flat_map phase_spelling d.phases)

-- a path behind a 0, any other text behind a 1
unfoldable pub line_spelling : InputLine → List ℕ
line_spelling (Named p) = 0 ∷ path_spelling p
line_spelling (Other t) = 1 ∷ long_text_spelling t

-- an emit is 1, a keep 2, a ref 3
unfoldable pub record_spelling : TaskRecord Body → List ℕ
record_spelling (Emit place reducer body) = 1 ∷ (optional_spelling path_spelling place ++ optional_spelling big_endian_32 reducer ++ body_spelling body)
record_spelling (Keep place body) = 2 ∷ (path_spelling place ++ body_spelling body)
record_spelling (Ref name) = 3 ∷ path_spelling name

-- the byte of a failure
abbrev pub failure_number : TaskFailure → ℕ
failure_number UserTaskError = 1
failure_number TaskOutputTooLarge = 2
failure_number TaskRecordError = 3
failure_number TaskPlaceRefused = 4
failure_number TaskObjectMissing = 5

-- a good one is a 0 and its records, a bad one a 1, the failure, the status and a front of standard error
unfoldable pub fate_spelling : Fate Body → List ℕ
fate_spelling (Good records) = 0 ∷ (big_endian_16 (length records) ++ flat_map record_spelling records)
fate_spelling (Bad failure status stderr) = 1 ∷ (byte_spelling (failure_number failure) ++ big_endian_32 status ++ text_spelling stderr)

-- no and yes
abbrev pub flag_number : Bool → ℕ
flag_number false = 0
flag_number true = 1

-- five bodies, in the order of the names of their objects
unfoldable pub archive_spelling : Archive Body → List ℕ
archive_spelling a = body_spelling a.err ++ body_spelling a.fail ++ body_spelling a.input ++ body_spelling a.status ++ body_spelling a.out

-- a put has a durability or metadata
abbrev pub is_marked : Option ℕ → List Field → Bool
is_marked None [] = false
is_marked None (f ∷ fields) = true
is_marked (Some n) fields = true

-- a put, with its first byte: 11 where it has a durability or metadata
abbrev pub put_spelling : AccountPath → List ℕ → Body → Option ℕ → List Field → ℕ → List ℕ
put_spelling path content_type body durability metadata moment =
    let begin = big_endian_64 moment ++ path_spelling path ++ text_spelling content_type in
    if is_marked durability metadata
    then 11 ∷ (begin ++ optional_spelling byte_spelling durability ++ metadata_spelling metadata ++ body_spelling body)
    else 1 ∷ (begin ++ body_spelling body)

-- the one spelling of a command
unfoldable pub spelling : Command Body → List ℕ
spelling (Put path content_type body durability metadata moment) = put_spelling path content_type body durability metadata moment
spelling (MakeDirectory path moment) = 2 ∷ (big_endian_64 moment ++ path_spelling path)
spelling (Link path source moment) = 3 ∷ (big_endian_64 moment ++ path_spelling path ++ path_spelling source)
spelling (Delete path moment) = 4 ∷ (big_endian_64 moment ++ path_spelling path)
spelling (NewJob document moment) = 5 ∷ (big_endian_64 moment ++ document_spelling document)
spelling (AddInputs job lines moment) = 6 ∷ (big_endian_64 moment ++ big_endian_64 job ++ (big_endian_32 (length lines) ++ flat_map line_spelling lines))
spelling (EndInput job moment) = 7 ∷ (big_endian_64 moment ++ big_endian_64 job)
spelling (Commit job phase place fate moment) = 8 ∷ (big_endian_64 moment ++ big_endian_64 job ++ big_endian_32 phase ++ big_endian_64 place ++ fate_spelling fate)
spelling (Finish job moment) = 9 ∷ (big_endian_64 moment ++ big_endian_64 job)
spelling (Cancel job moment) = 10 ∷ (big_endian_64 moment ++ big_endian_64 job)
spelling (Close job cancelled archive moment) = 12 ∷ (big_endian_64 moment ++ big_endian_64 job ++ byte_spelling (flag_number cancelled) ++ archive_spelling archive)
spelling (NewUpload path content_type moment) = 13 ∷ (big_endian_64 moment ++ path_spelling path ++ text_spelling content_type)
spelling (PutPart upload index body moment) = 14 ∷ (big_endian_64 moment ++ big_endian_64 upload ++ big_endian_16 index ++ body_spelling body)
spelling (CommitUpload upload parts body moment) = 15 ∷ (big_endian_64 moment ++ big_endian_64 upload ++ (big_endian_16 (length parts) ++ flat_map big_endian_64 parts) ++ body_spelling body)
spelling (AbortUpload upload moment) = 16 ∷ (big_endian_64 moment ++ big_endian_64 upload)

-- ---- which commands have a spelling

-- a fact that the type of a value in the program keeps by itself; a law asks it, of values of any size
abbrev pub Typed : Bool → Type 0 → Type 0
Typed true P = P
Typed false P = ⊤

-- a body without bytes has the place 0; its place and its length have eight bytes each
pub record FitsBody (typed : Bool) (b : Body) : Type 0 where
  pub placed : IsTrue (is_placed b)
  pub first : Typed typed (b.first < 2 ^ 64)
  pub len : Typed typed (b.len < 2 ^ 64)

-- a path of an account
abbrev pub FitsPath : Bool → AccountPath → Type 0
FitsPath typed p = Typed typed (IsPath p)

-- a text is UTF-8
abbrev pub FitsText : Bool → List ℕ → Type 0
FitsText typed t = Typed typed (IsTrue (is_utf8 t))

-- the number of a reducer has four bytes
abbrev pub FitsReducer : Bool → Option ℕ → Type 0
FitsReducer typed reducer = Typed typed (IfSome reducer (λ n. n < 2 ^ 32))

-- a reduce phase has a number of reducers within the limit
abbrev pub FitsKind : PhaseKind → Type 0
FitsKind Map = ⊤
FitsKind (Reduce count) = IsTrue (is_count count)

-- a command line within the limit
abbrev pub FitsCommandLine : Bool → List ℕ → Type 0
FitsCommandLine typed t = IsTrue (is_command_line t) × FitsText typed t

-- command lines within their limits, and few enough assets
pub record FitsPhase (typed : Bool) (p : Phase) : Type 0 where
  pub kind : FitsKind p.kind
  pub exec : FitsCommandLine typed p.exec
  pub init : IfSome p.init (FitsCommandLine typed)
  pub few : length p.assets ≤ MOST_ASSETS
  pub assets : AllByRecursion (FitsPath typed) p.assets

-- a name within its limit, one phase at least and few enough
pub record FitsDocument (typed : Bool) (d : JobDocument) : Type 0 where
  pub name : IsTrue (is_job_name d.name)
  pub text : FitsText typed d.name
  pub some : 1 ≤ length d.phases
  pub few : length d.phases ≤ MOST_PHASES
  pub phases : AllByRecursion (FitsPhase typed) d.phases

-- a path, or a text of one line that is not empty
abbrev pub FitsLine : Bool → InputLine → Type 0
FitsLine typed (Named p) = FitsPath typed p
FitsLine typed (Other t) = IsTrue (is_line_text t) × (length t < 2 ^ 32) × FitsText typed t

-- the paths and the body of a record
abbrev pub FitsRecord : Bool → TaskRecord Body → Type 0
FitsRecord typed (Emit place reducer body) = IfSome place (FitsPath typed) × FitsReducer typed reducer × FitsBody typed body
FitsRecord typed (Keep place body) = FitsPath typed place × FitsBody typed body
FitsRecord typed (Ref name) = FitsPath typed name

-- few enough records, or a short front of standard error
abbrev pub FitsFate : Bool → Fate Body → Type 0
FitsFate typed (Good records) = (length records ≤ MOST_RECORDS) × AllByRecursion (FitsRecord typed) records
FitsFate typed (Bad failure status stderr) = Typed typed (status < 2 ^ 32) × (length stderr ≤ LONGEST_STDERR)

-- each of the five bodies
pub record FitsArchive (typed : Bool) (a : Archive Body) : Type 0 where
  pub err : FitsBody typed a.err
  pub fail : FitsBody typed a.fail
  pub input : FitsBody typed a.input
  pub status : FitsBody typed a.status
  pub out : FitsBody typed a.out

-- what a put gives an object, and where
pub record FitsPut (typed : Bool) (p : AccountPath) (t : List ℕ) (b : Body) (d : Option ℕ) (fields : List Field) : Type 0 where
  pub path : FitsPath typed p
  pub content_type : IsTrue (is_content_type t)
  pub body : FitsBody typed b
  pub durability : IfSome d (λ n. IsTrue (is_durability n))
  pub metadata : FitsMetadata fields

-- the fields behind the moment
abbrev pub FitsFields : Bool → Command Body → Type 0
FitsFields typed (Put path content_type body durability metadata moment) = FitsPut typed path content_type body durability metadata
FitsFields typed (MakeDirectory path moment) = FitsPath typed path
FitsFields typed (Link path source moment) = FitsPath typed path × FitsPath typed source
FitsFields typed (Delete path moment) = FitsPath typed path
FitsFields typed (NewJob document moment) = FitsDocument typed document
FitsFields typed (AddInputs job lines moment) = IsTrue (is_number job) × (length lines < 2 ^ 32) × AllByRecursion (FitsLine typed) lines
FitsFields typed (EndInput job moment) = IsTrue (is_number job)
FitsFields typed (Commit job phase place fate moment) = IsTrue (is_number job) × Typed typed ((phase < 2 ^ 32) × (place < 2 ^ 64)) × FitsFate typed fate
FitsFields typed (Finish job moment) = IsTrue (is_number job)
FitsFields typed (Cancel job moment) = IsTrue (is_number job)
FitsFields typed (Close job cancelled archive moment) = IsTrue (is_number job) × FitsArchive typed archive
FitsFields typed (NewUpload path content_type moment) = FitsPath typed path × IsTrue (is_content_type content_type)
FitsFields typed (PutPart upload index body moment) = IsTrue (is_number upload) × IsTrue (is_index index) × FitsBody typed body
FitsFields typed (CommitUpload upload parts body moment) = IsTrue (is_number upload) × (length parts < 2 ^ 16) × Typed typed (AllByRecursion (λ n. n < 2 ^ 64) parts) × FitsBody typed body
FitsFields typed (AbortUpload upload moment) = IsTrue (is_number upload)

-- the moment of a command
abbrev pub moment_of : Command Body → ℕ
moment_of (Put path content_type body durability metadata moment) = moment
moment_of (MakeDirectory path moment) = moment
moment_of (Link path source moment) = moment
moment_of (Delete path moment) = moment
moment_of (NewJob document moment) = moment
moment_of (AddInputs job lines moment) = moment
moment_of (EndInput job moment) = moment
moment_of (Commit job phase place fate moment) = moment
moment_of (Finish job moment) = moment
moment_of (Cancel job moment) = moment
moment_of (Close job cancelled archive moment) = moment
moment_of (NewUpload path content_type moment) = moment
moment_of (PutPart upload index body moment) = moment
moment_of (CommitUpload upload parts body moment) = moment
moment_of (AbortUpload upload moment) = moment

-- the moment and the fields of a command are within their limits
pub record Fits (typed : Bool) (command : Command Body) : Type 0 where
  pub moment : IsTrue (is_moment (moment_of command))
  pub fields : FitsFields typed command

-- each field is within its limits, of a command whose values are those of the program
abbrev pub IsWithinLimits : Command Body → Type 0
IsWithinLimits command = Fits false command

-- the same, with what the program's values keep by their types: numbers within their bytes, texts and paths
abbrev pub HasSpelling : Command Body → Type 0
HasSpelling command = Fits true command

-- ---- commands apart from digests

-- a body with sixteen zero bytes in the place of its digest
abbrev pub undigested_body : Body → Body
undigested_body b = record { first = b.first; len = b.len; md5 = replicate 16 0 }

-- the command with sixteen zero bytes in the place of each digest
abbrev pub undigested : Command Body → Command Body
undigested = command_with undigested_body

-- the bytes spell this command, which has no digests
pub record Spells (bytes : List ℕ) (command : Command Body) : Type 0 where
  pub bytes_are : bytes ≡ spelling command
  pub fits : HasSpelling command
  pub plain : undigested command ≡ command
  pub limits : IsWithinLimits command
