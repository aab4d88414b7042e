-- Names of paths, in request targets and in texts, and what is read from them.
use Rattle.std.specs.Prelude.{Bool, true, ◌≤◌, ◌<◌, ◌≡◌, ℕ, ◌||◌, ◌==◌, not, nat_lt, nat_eq, List, [], ◌∷◌, ◌++◌, length, drop, map, filter, codes, bytes_eq, Option, Some, None, Result, Ok, Err, ⊤, if◌then◌else◌}
use Rattle.std.specs.List.{before_first, list_all, slice_split, starts_with}
use Rattle.percent_encoding.specs.Percent.{percent_decode}
use Rattle.mt_path.specs.AccountPath.{AccountPath, area_name, is_component, local_text, slash, slashed}
use Rattle.mt_path.specs.declared.area.Area.{Area}
use Rattle.mt_path.specs.declared.area.Area.TheVariants.{Stor, Public, Jobs}
use Rattle.mt_path.specs.declared.error.PathError.{PathError}
use Rattle.mt_path.specs.declared.error.PathError.TheVariants.{Empty, TooLong, BadComponent, OtherLogin, NoArea, Memory}
use Rattle.mt_path.specs.declared.limits.TheConstants.{LONGEST_PATH}

-- `b'?'`
abbrev pub question_mark : ℕ
question_mark = 63

-- the pieces between slashes, without the empty ones
abbrev pub pieces : List ℕ → List (List ℕ)
pieces text = filter (λ piece. nat_lt 0 (length piece)) (slice_split (λ b. b == slash) text)

-- the pieces of a request target: of what stands before the first `?`, decoded; none where it begins with no slash
unfoldable pub target_pieces : List ℕ → List (List ℕ)
target_pieces raw =
    if starts_with nat_eq raw (codes "/")
    then map percent_decode (pieces (before_first (λ b. b == question_mark) raw)) else []

-- the login, where a first piece `~~` stands for it
abbrev pub with_login : List ℕ → List (List ℕ) → List (List ℕ)
with_login login [] = []
with_login login (first ∷ names) = (if bytes_eq first (codes "~~") then login else first) ∷ names

-- a name in a text begins with a slash, or with `~~/`
abbrev pub begins_as_text : List ℕ → Bool
begins_as_text text = starts_with nat_eq text (codes "/") || starts_with nat_eq text (codes "~~/")

-- the pieces of a name in a text, as they stand; none where it doesn't begin as one
unfoldable pub text_pieces : List ℕ → List ℕ → List (List ℕ)
text_pieces login text = if begins_as_text text then with_login login (pieces text) else []

-- the pieces behind the login, or the first refusal; the area's piece is no component yet
unfoldable pub names_of : List ℕ → List (List ℕ) → Result (List (List ℕ)) PathError
names_of login [] = Err Empty
names_of login (first ∷ names) =
    if nat_lt LONGEST_PATH (length (slashed names)) then Err TooLong
    else (if not (list_all is_component (drop 1 names)) then Err BadComponent
    else (if not (bytes_eq first login) then Err OtherLogin
    else Ok names))

-- the same of names that are not too long, behind a first piece that is the login or isn't
abbrev pub judged_names : Bool → List (List ℕ) → Result (List (List ℕ)) PathError
judged_names is_own names =
    if not (list_all is_component (drop 1 names)) then Err BadComponent
    else (if not is_own then Err OtherLogin
    else Ok names)

-- an error that says want of memory, or that names are too long, where they are
abbrev pub IsTooLong : List (List ℕ) → PathError → Type 0
IsTooLong names Memory = ⊤
IsTooLong names e = (e ≡ TooLong) × (LONGEST_PATH < length (slashed names))

-- what `names_of` gives is like this
pub record AreNames (names : List (List ℕ)) : Type 0 where
  pub components : list_all is_component (drop 1 names) ≡ true
  pub short : length (slashed names) ≤ LONGEST_PATH

-- the area of this name
abbrev pub area_of : List ℕ → Option Area
area_of name =
    if bytes_eq name (area_name Stor) then Some Stor
    else (if bytes_eq name (area_name Public) then Some Public
    else (if bytes_eq name (area_name Jobs) then Some Jobs
    else None))

-- the path in this area, if there is one
abbrev pub path_in : Option Area → List (List ℕ) → Result AccountPath PathError
path_in None parts = Err NoArea
path_in (Some area) parts = Ok (record { area = area; parts = parts })

-- the path of the names behind a login: the area's, and the components
unfoldable pub path_of : List (List ℕ) → Result AccountPath PathError
path_of [] = Err NoArea
path_of (first ∷ parts) = path_in (area_of first) parts

-- what the next step makes of an `Ok`
abbrev pub and_then : {A B : Type 0} → Result A PathError → (A → Result B PathError) → Result B PathError
and_then (Ok x) next = next x
and_then (Err e) next = Err e

-- the path that a request target names, or why it names none
abbrev pub path_of_target : List ℕ → List ℕ → Result AccountPath PathError
path_of_target login raw = and_then (names_of login (target_pieces raw)) path_of

-- the path that a text names, or why it names none
abbrev pub path_of_text : List ℕ → List ℕ → Result AccountPath PathError
path_of_text login text = and_then (names_of login (text_pieces login text)) path_of

-- the path of a name below a path, or why there is none
unfoldable pub child_of : AccountPath → List ℕ → Result AccountPath PathError
child_of p name =
    let child : AccountPath = record p { parts = p.parts ++ name ∷ [] } in
    if nat_lt LONGEST_PATH (length (local_text child)) then Err TooLong
    else (if not (is_component name) then Err BadComponent else Ok child)

-- an answer is this one, or want of memory
abbrev pub IsUnlessMemory : {T : Type 0} → Result T PathError → Result T PathError → Type 0
IsUnlessMemory answer (Err Memory) = ⊤
IsUnlessMemory answer result = answer ≡ result
