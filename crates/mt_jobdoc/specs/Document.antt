-- What a job document asks for, from the JSON value that it is. Where a key comes twice, the last stands.
use Rattle.std.specs.Prelude.{◌≡◌, ℕ, ◌+◌, Bool, true, false, ◌==◌, nat_lt, nat_le, List, [], ◌∷◌, length, codes, bytes_eq, Option, Some, None, option_map, option_and_then, is_some, Result, Ok, Err, ⊤, if◌then◌else◌}
use Rattle.std.specs.Option.{ok_or}
use Rattle.std.specs.Result.{result_ok}
use Rattle.std.specs.Str.{is_utf8}
use Rattle.serde_json.specs.Data.{Data, Items, no_items, item}
use Rattle.serde_json.specs.Read.{read}
use Rattle.serde_json.specs.Find.{get, as_object, as_array, as_str, as_number, as_u64}
use Rattle.mt_path.specs.AccountPath.{AccountPath}
use Rattle.mt_path.specs.Names.{path_of_text}
use Rattle.mt_types.specs.Limits.{is_command_line, is_count, is_job_name}
use Rattle.mt_types.specs.declared.limits.TheConstants.{MOST_PHASES, MOST_ASSETS}
use Rattle.mt_types.specs.declared.document.PhaseKind.{PhaseKind}
use Rattle.mt_types.specs.declared.document.PhaseKind.TheVariants.{Map, Reduce}
use Rattle.mt_types.specs.declared.document.Phase.{Phase}
use Rattle.mt_types.specs.declared.document.JobDocument.{JobDocument}
use Rattle.mt_jobdoc.specs.declared.error.InvalidJob.{InvalidJob}
use Rattle.mt_jobdoc.specs.declared.error.InvalidJob.TheVariants.{NotJson, NoPhases, TooManyPhases, BadPhase, BadCount, Memory}

-- what the next step makes of an `Ok`
abbrev pub and_then : {A B : Type 0} → Result A InvalidJob → (A → Result B InvalidJob) → Result B InvalidJob
and_then (Ok x) next = next x
and_then (Err e) next = Err e

-- a value that passes the test
abbrev pub passing : {A : Type 0} → (A → Bool) → A → Option A
passing test x = if test x then Some x else None

-- ---- a phase

-- a type names whether its phase reduces
abbrev pub type_named : List ℕ → Option Bool
type_named text = if bytes_eq text (codes "map") then Some false else (if bytes_eq text (codes "reduce") then Some true else None)

abbrev pub by_type : Option Data → Option Bool
by_type None = Some false
by_type (Some v) = option_and_then type_named (as_str v)

-- whether a phase reduces: its type is `map`, also where it is absent, or `reduce`
abbrev pub reduces_in : Data → Option Bool
reduces_in d = by_type (get (codes "type") d)

-- its command line
abbrev pub exec_in : Data → Option (List ℕ)
exec_in d = option_and_then (passing is_command_line) (option_and_then as_str (get (codes "exec") d))

-- an empty command line counts as none
abbrev pub init_named : List ℕ → Option (Option (List ℕ))
init_named text = if length text == 0 then Some None else option_map (λ t. Some t) (passing is_command_line text)

abbrev pub by_init : Option Data → Option (Option (List ℕ))
by_init None = Some None
by_init (Some v) = option_and_then init_named (as_str v)

-- the command line that is run before, if there is one
abbrev pub init_in : Data → Option (Option (List ℕ))
init_in d = by_init (get (codes "init") d)

-- the items of an array
abbrev pub list_of : Items → List Data
list_of no_items = []
list_of (item d ds) = d ∷ list_of ds

-- the object that a text names
abbrev pub asset_in : List ℕ → Data → Option AccountPath
asset_in login d = option_and_then (λ text. result_ok (path_of_text login text)) (as_str d)

-- all of them, if each is one
abbrev pub assets_of : List ℕ → List Data → Option (List AccountPath)
assets_of login [] = Some []
assets_of login (d ∷ ds) = option_and_then (λ p. option_map (λ ps. p ∷ ps) (assets_of login ds)) (asset_in login d)

-- at most 64
abbrev pub few_assets : List ℕ → List Data → Option (List AccountPath)
few_assets login ds = if nat_le (length ds) MOST_ASSETS then assets_of login ds else None

abbrev pub by_assets : List ℕ → Option Data → Option (List AccountPath)
by_assets login None = Some []
by_assets login (Some v) = option_and_then (few_assets login) (option_map list_of (as_array v))

-- the objects that each of its tasks finds, none where they are absent
abbrev pub assets_in : List ℕ → Data → Option (List AccountPath)
assets_in login d = by_assets login (get (codes "assets") d)

abbrev pub by_count : Option Data → Option ℕ
by_count None = Some 1
by_count (Some v) = option_and_then (passing is_count) (option_and_then as_u64 (as_number v))

-- the number of its reducers, 1 where it is absent; only a number without sign, point and exponent is whole
abbrev pub count_in : Data → Option ℕ
count_in d = by_count (get (codes "count") d)

-- only a phase that reduces has its count looked at
abbrev pub kind_in : ℕ → Bool → Data → Result PhaseKind InvalidJob
kind_in k false d = Ok Map
kind_in k true d = and_then (ok_or (count_in d) (BadCount k)) (λ n. Ok (Reduce n))

-- the phase of the number k, or its first fault
unfoldable pub phase_of : List ℕ → ℕ → Data → Result Phase InvalidJob
phase_of login k d =
    and_then (ok_or (reduces_in d) (BadPhase k)) (λ reduces.
    and_then (ok_or (exec_in d) (BadPhase k)) (λ exec.
    and_then (ok_or (init_in d) (BadPhase k)) (λ init.
    and_then (ok_or (assets_in login d) (BadPhase k)) (λ assets.
    and_then (kind_in k reduces d) (λ kind.
    Ok (record { kind = kind; exec = exec; init = init; assets = assets }))))))

-- ---- a document

-- the phases of these, the first of the number k, or the first fault
unfoldable pub phases_of : List ℕ → ℕ → List Data → Result (List Phase) InvalidJob
phases_of login k [] = Ok []
phases_of login k (d ∷ ds) = and_then (phase_of login k d) (λ p. and_then (phases_of login (k + 1) ds) (λ ps. Ok (p ∷ ps)))

-- the JSON object that bytes are
unfoldable pub object_of : List ℕ → Result Data InvalidJob
object_of bytes = ok_or (option_and_then (passing (λ d. is_some (as_object d))) (if is_utf8 bytes then read bytes else None)) NotJson

-- 1 to 16 of them
abbrev pub some_phases : Option (List Data) → Result (List Data) InvalidJob
some_phases None = Err NoPhases
some_phases (Some []) = Err NoPhases
some_phases (Some (d ∷ ds)) = if nat_lt MOST_PHASES (length (d ∷ ds)) then Err TooManyPhases else Ok (d ∷ ds)

abbrev pub listed : Data → Result (List Data) InvalidJob
listed d = some_phases (option_and_then (λ v. option_map list_of (as_array v)) (get (codes "phases") d))

-- the phases of an object, or the first fault
abbrev pub phases_in : List ℕ → Data → Result (List Phase) InvalidJob
phases_in login d = and_then (listed d) (phases_of login 0)

abbrev pub by_name : Option (List ℕ) → List ℕ
by_name None = []
by_name (Some text) = if is_job_name text then text else []

-- its name, empty where it is no text, or one that is too long
abbrev pub name_in : Data → List ℕ
name_in d = by_name (option_and_then as_str (get (codes "name") d))

-- the document that an object is, or its first fault
unfoldable pub document_in : List ℕ → Data → Result JobDocument InvalidJob
document_in login d = and_then (listed d) (λ ds. and_then (phases_of login 0 ds) (λ phases. Ok (record { name = name_in d; phases = phases })))

-- the document that bytes are, or their first fault
unfoldable pub document_of : List ℕ → List ℕ → Result JobDocument InvalidJob
document_of login bytes = and_then (object_of bytes) (document_in login)

-- the answer is this one, but for want of memory
abbrev pub IsUnlessMemory : {A : Type 0} → Result A InvalidJob → Result A InvalidJob → Type 0
IsUnlessMemory answer (Err Memory) = ⊤
IsUnlessMemory answer result = answer ≡ result
