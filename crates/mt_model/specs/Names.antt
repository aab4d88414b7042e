-- The names that the store gives: the folders of jobs, and what tasks make.
use Rattle.std.specs.Prelude.{ℕ, ◌+◌, ◌*◌, ◌-◌, Bool, true, false, not, ◌&&◌, nat_le, List, [], ◌∷◌, ◌++◌, length, drop, take, map, bytes_eq, codes, is_some, if◌then◌else◌}
use Rattle.std.specs.Fmt.{decimal}
use Rattle.std.specs.List.{range_with_len}
use Rattle.mt_ident.specs.Identifiers.{identifier_text, identifier_number}
use Rattle.mt_model.specs.Types.{AccountPath, Area, Jobs, NUMBERS_A_COMMAND, Public, Stor}
use Rattle.mt_model.specs.Limits.{longest_root}
use Rattle.mt_model.specs.Listing.{name_of}

-- the number of what a command makes: its position, and an index within the command
abbrev pub number_at : ℕ → ℕ → ℕ
number_at position index = position * NUMBERS_A_COMMAND + index

-- a job's name, the text of its identifier
abbrev pub job_name : ℕ → List ℕ
job_name job = identifier_text 2 job

-- an object's etag, the text of its identifier
abbrev pub etag_of : ℕ → List ℕ
etag_of number = identifier_text 1 number

-- the folder of a job
abbrev pub job_folder : ℕ → AccountPath
job_folder job = record { area = Jobs; parts = job_name job ∷ [] }

-- the folder of what its tasks make
abbrev pub job_stor : ℕ → AccountPath
job_stor job = record { area = Jobs; parts = job_name job ∷ codes "stor" ∷ [] }

-- a name in the folder of a job
abbrev pub in_job_folder : ℕ → List ℕ → AccountPath
in_job_folder job name = record { area = Jobs; parts = job_name job ∷ name ∷ [] }

-- what the name of an output without a place begins with, as `log.0.`
abbrev pub output_prefix : List ℕ → ℕ → List ℕ
output_prefix root phase = root ++ codes "." ++ decimal phase ++ codes "."

-- where an output without a place stands: its name ends in the identifier of its number
abbrev pub anonymous_place : ℕ → List ℕ → ℕ → ℕ → AccountPath
anonymous_place job root phase number =
    record { area = Jobs; parts = job_name job ∷ codes "stor" ∷ (output_prefix root phase ++ identifier_text 3 number) ∷ [] }

-- a path where only outputs without a place stand, where its name ends in an identifier of an output
abbrev pub output_path : List ℕ → List ℕ → AccountPath
output_path id name = record { area = Jobs; parts = id ∷ codes "stor" ∷ name ∷ [] }

-- a name ends in the identifier of an output
abbrev pub ends_in_output : List ℕ → Bool
ends_in_output name = is_some (identifier_number 3 (drop (length name - 36) name))

-- below `stor` of this job, under a first name that ends in no identifier of an output
abbrev pub is_below_stor : ℕ → List (List ℕ) → Bool
is_below_stor job [] = false
is_below_stor job (id ∷ []) = false
is_below_stor job (id ∷ folder ∷ []) = false
is_below_stor job (id ∷ folder ∷ first ∷ rest) = bytes_eq id (job_name job) && bytes_eq folder (codes "stor") && not (ends_in_output first)

-- a list is not empty
abbrev pub is_nonempty : List (List ℕ) → Bool
is_nonempty [] = false
is_nonempty (name ∷ names) = true

-- where the tasks of a job may make objects
abbrev pub is_task_place : ℕ → Area → List (List ℕ) → Bool
is_task_place job Stor parts = is_nonempty parts
is_task_place job Public parts = is_nonempty parts
is_task_place job Jobs parts = is_below_stor job parts

-- the paths above a path, from the root on
abbrev pub paths_above : AccountPath → List AccountPath
paths_above p = map (λ n. record p { parts = take n p.parts }) (range_with_len 0 (length p.parts))

-- what the names of outputs begin with that come of this input: its last component, or `input` where that is long
abbrev pub root_of_input : AccountPath → List ℕ
root_of_input p = if nat_le (length (name_of p)) longest_root then name_of p else codes "input"

-- what they begin with where they come of a reducer
abbrev pub root_of_reducer : List ℕ
root_of_reducer = codes "reduce"
