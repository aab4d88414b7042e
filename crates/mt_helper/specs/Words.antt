-- The words of a helper: a login, a tool, and what the tool is asked for.
use Rattle.std.specs.Prelude.{ℕ, Bool, true, false, ◌&&◌, ◌==◌, nat_le, bytes_eq, List, [], ◌∷◌, length, map, codes, Option, Some, None, option_map, option_and_then, Result, Ok, Err, if◌then◌else◌}
use Rattle.std.specs.List.{slice_split}
use Rattle.std.specs.Result.{result_ok}
use Rattle.mt_bytes.specs.Decimals.{decimal_number}
use Rattle.mt_path.specs.AccountPath.{is_login, path_text}
use Rattle.mt_path.specs.Names.{path_of_text}
use Rattle.mt_split.specs.declared.key.KeyRule.{KeyRule}
use Rattle.mt_split.specs.declared.key.KeyRule.TheVariants.{Line, Fields}
use Rattle.mt_helper.specs.declared.limits.TheConstants.{MOST_PARTS, MOST_FIELDS, LAST_FIELD}
use Rattle.mt_helper.specs.declared.options.SplitOptions.{SplitOptions}
use Rattle.mt_helper.specs.declared.status.Refusal.{Refusal}
use Rattle.mt_helper.specs.declared.status.Refusal.TheVariants.{Usage, BadPath}
use Rattle.mt_helper.specs.declared.tool.Tool.{Tool}
use Rattle.mt_helper.specs.declared.tool.Tool.TheVariants.{Pipe, Tee, Cat, Split}

-- ---- values

-- a number between two bounds
abbrev pub within : ℕ → ℕ → Option ℕ → Option ℕ
within least most None = None
within least most (Some n) = if nat_le least n && nat_le n most then Some n else None

-- a decimal between two bounds
abbrev pub number_within : ℕ → ℕ → List ℕ → Option ℕ
number_within least most text = within least most (decimal_number text)

-- the number of a reducer
abbrev pub reducer_in : List ℕ → Option ℕ
reducer_in text = number_within 0 4294967295 text

-- a word of one byte
abbrev pub byte_in : List ℕ → Option ℕ
byte_in [] = None
byte_in (byte ∷ []) = Some byte
byte_in (byte ∷ more ∷ text) = None

-- all of them, if each is one
abbrev pub all_some : {A : Type 0} → List (Option A) → Option (List A)
all_some [] = Some []
all_some (x ∷ xs) = option_and_then (λ a. option_map (λ rest. a ∷ rest) (all_some xs)) x

-- the number of a field
abbrev pub field_in : List ℕ → Option ℕ
field_in text = number_within 1 LAST_FIELD text

-- numbers of fields with commas between them, at most 64
abbrev pub fields_among : List (List ℕ) → Option (List ℕ)
fields_among pieces = if nat_le (length pieces) MOST_FIELDS then all_some (map field_in pieces) else None

abbrev pub fields_in : List ℕ → Option (List ℕ)
fields_in text = fields_among (slice_split (λ b. b == 44) text)

-- ---- mpipe, mtee and mcat

-- `[PATH]`, behind a reducer, if there is one
abbrev pub piped : Option ℕ → List (List ℕ) → Option Tool
piped reducer [] = Some (Pipe None reducer)
piped reducer (word ∷ []) = if bytes_eq word (codes "-r") then None else Some (Pipe (Some word) reducer)
piped reducer (word ∷ other ∷ words) = None

-- `N [PATH]`
abbrev pub piped_to : List (List ℕ) → Option Tool
piped_to [] = None
piped_to (value ∷ words) = option_and_then (λ n. piped (Some n) words) (reducer_in value)

-- `[-r N] [PATH]`
abbrev pub pipe_of : List (List ℕ) → Option Tool
pipe_of [] = Some (Pipe None None)
pipe_of (word ∷ words) = if bytes_eq word (codes "-r") then piped_to words else piped None (word ∷ words)

-- `PATH`
abbrev pub tee_of : List (List ℕ) → Option Tool
tee_of [] = None
tee_of (word ∷ []) = Some (Tee word)
tee_of (word ∷ other ∷ words) = None

-- `PATH ..`, at least one
abbrev pub cat_of : List (List ℕ) → Option Tool
cat_of [] = None
cat_of (word ∷ words) = Some (Cat (word ∷ words))

-- ---- msplit

abbrev pub no_option : SplitOptions
no_option = record { count = None; delimiter = None; fields = None }

-- an option that came before is refused, and so is a value that is none
abbrev pub once : {A : Type 0} → Option A → Option A → Option (Option A)
once (Some old) value = None
once None None = None
once None (Some new) = Some (Some new)

-- what a slot holds after a call that took a value, or did not
abbrev pub taken : {A : Type 0} → Bool → A → Option A
taken true new = Some new
taken false new = None

-- the options so far with one more
abbrev pub with_option : SplitOptions → List ℕ → List ℕ → Option SplitOptions
with_option o name value =
    if bytes_eq name (codes "-n") then option_map (λ x. record o { count = x }) (once o.count (number_within 1 MOST_PARTS value))
    else (if bytes_eq name (codes "-d") then option_map (λ x. record o { delimiter = x }) (once o.delimiter (byte_in value))
    else (if bytes_eq name (codes "-f") then option_map (λ x. record o { fields = x }) (once o.fields (fields_in value))
    else None))

-- options, each with its value behind it, and nothing else
abbrev pub options_from : SplitOptions → List (List ℕ) → Option SplitOptions
options_from o [] = Some o
options_from o (name ∷ []) = None
options_from o (name ∷ value ∷ words) = option_and_then (λ more. options_from more words) (with_option o name value)

-- the key of a line: a delimiter alone is none; TAB stands between fields unless one is given
abbrev pub rule_by : Option ℕ → Option (List ℕ) → Option KeyRule
rule_by None None = Some Line
rule_by (Some delimiter) None = None
rule_by None (Some numbers) = Some (Fields 9 numbers)
rule_by (Some delimiter) (Some numbers) = Some (Fields delimiter numbers)

abbrev pub split_into : Option ℕ → Option KeyRule → Option Tool
split_into None rule = None
split_into (Some count) rule = option_map (λ r. Split count r) rule

abbrev pub split_by : SplitOptions → Option Tool
split_by o = split_into o.count (rule_by o.delimiter o.fields)

-- `-n N [-d C] [-f LIST]`, in any order
abbrev pub split_of : List (List ℕ) → Option Tool
split_of words = option_and_then split_by (options_from no_option words)

-- ---- all words

-- what a tool is asked for
abbrev pub tool_of : List ℕ → List (List ℕ) → Option Tool
tool_of name words =
    if bytes_eq name (codes "mpipe") then pipe_of words
    else (if bytes_eq name (codes "mtee") then tee_of words
    else (if bytes_eq name (codes "mcat") then cat_of words
    else (if bytes_eq name (codes "msplit") then split_of words
    else None)))

-- ---- paths

-- the text of the path that a text names, if it names one of this account
abbrev pub place_text : List ℕ → List ℕ → Option (List ℕ)
place_text login text = option_map (path_text login) (result_ok (path_of_text login text))

-- the texts of the paths that all of them name
abbrev pub place_texts : List ℕ → List (List ℕ) → Option (List (List ℕ))
place_texts login texts = all_some (map (place_text login) texts)

-- the tool with the texts of its paths
abbrev pub placed : List ℕ → Tool → Option Tool
placed login (Pipe None reducer) = Some (Pipe None reducer)
placed login (Pipe (Some place) reducer) = option_map (λ p. Pipe (Some p) reducer) (place_text login place)
placed login (Tee place) = option_map (λ p. Tee p) (place_text login place)
placed login (Cat names) = option_map (λ ps. Cat ps) (place_texts login names)
placed login (Split count rule) = Some (Split count rule)

abbrev pub or_bad_path : Option Tool → Result Tool Refusal
or_bad_path None = Err BadPath
or_bad_path (Some tool) = Ok tool

abbrev pub placed_or : List ℕ → Option Tool → Result Tool Refusal
placed_or login None = Err Usage
placed_or login (Some tool) = or_bad_path (placed login tool)

-- what the words ask for, or why they ask for nothing
abbrev pub asked_by : List (List ℕ) → Result Tool Refusal
asked_by [] = Err Usage
asked_by (login ∷ []) = Err Usage
asked_by (login ∷ name ∷ words) = if is_login login then placed_or login (tool_of name words) else Err Usage
