-- The line of a certificate that a text is: a JSON object with exactly the keys of one of five forms. Where a key comes twice, the last stands.
use Rattle.std.specs.Prelude.{ℕ, ◌^◌, Bool, false, ◌==◌, ◌&&◌, not, nat_lt, nat_le, List, [], ◌∷◌, length, codes, bytes_eq, Option, Some, None, option_map, option_and_then, is_some, if◌then◌else◌}
use Rattle.std.specs.List.{list_all}
use Rattle.std.specs.Option.{option_map_or}
use Rattle.std.specs.Result.{result_ok}
use Rattle.std.specs.Str.{is_utf8}
use Rattle.base64.specs.Engines.{standard}
use Rattle.base64.specs.GeneralPurpose.{decode_of}
use Rattle.serde_json.specs.Data.{Data}
use Rattle.serde_json.specs.Events.{members_len}
use Rattle.serde_json.specs.Find.{as_array, as_bool, as_null, as_number, as_object, as_str, as_u64, get}
use Rattle.serde_json.specs.Read.{read}
use Rattle.serde_json.specs.Written.{compact_text, has_float}
use Rattle.mt_path.specs.AccountPath.{AccountPath, is_component, path_text}
use Rattle.mt_path.specs.Names.{path_of_text}
use Rattle.mt_types.specs.declared.document.JobDocument.{JobDocument}
use Rattle.mt_types.specs.declared.document.Phase.{Phase}
use Rattle.mt_types.specs.declared.job.Item.{Item}
use Rattle.mt_ident.specs.Identifiers.{identifier_number}
use Rattle.mt_jobdoc.specs.Document.{document_in, list_of, passing}
use Rattle.mt_jobdoc.specs.Printed.{phases_data}
use Rattle.mt_certline.specs.declared.line.Line.{Line}
use Rattle.mt_certline.specs.declared.line.Line.TheVariants.{Begin, End, Input, Output, Task}
use Rattle.mt_certline.specs.declared.line.Listed.{Listed}
use Rattle.mt_certline.specs.declared.line.Sum.{Sum}
use Rattle.mt_certline.specs.declared.limits.TheConstants.{LONGEST_ROOT}

-- what the next step makes of what is there
infixl 10 ◌>>=◌
abbrev pub ◌>>=◌ : {A B : Type 0} → Option A → (A → Option B) → Option B
found >>= next = option_and_then next found

-- an object of so many members
abbrev pub has_members : ℕ → Data → Bool
has_members count d = option_map_or (λ ms. members_len ms == count) (as_object d) false

-- what is read of the value of a key
abbrev pub field : {A : Type 0} → List ℕ → (Data → Option A) → Data → Option A
field key reading d = get key d >>= reading

-- ---- values

-- a whole number below 2 ^ 64, in digits alone
abbrev pub whole_in : Data → Option ℕ
whole_in d = as_number d >>= as_u64

-- 16 bytes
abbrev pub is_digest : List ℕ → Bool
is_digest d = (length d == 16) && list_all (λ b. nat_lt b 256) d

-- the digest of a text in base64
unfoldable pub digest_of : List ℕ → Option (List ℕ)
digest_of text = result_ok (decode_of standard text) >>= passing is_digest

abbrev pub digest_in : Data → Option (List ℕ)
digest_in d = as_str d >>= digest_of

-- a path, as it is printed
abbrev pub path_named : List ℕ → List ℕ → Option AccountPath
path_named login text = result_ok (path_of_text login text) >>= passing (λ p. bytes_eq (path_text login p) text)

abbrev pub path_in : List ℕ → Data → Option AccountPath
path_in login d = as_str d >>= path_named login

-- a component of at most 200 bytes
abbrev pub is_root : List ℕ → Bool
is_root text = nat_le (length text) LONGEST_ROOT && is_component text

abbrev pub root_in : Data → Option (List ℕ)
root_in d = as_str d >>= passing is_root

-- none, or a whole number below 2 ^ 32
abbrev pub reducer_in : Data → Option (Option ℕ)
reducer_in d = if is_some (as_null d) then Some None else option_map (λ n. Some n) (whole_in d >>= passing (λ n. nat_lt n (2 ^ 32)))

-- an item of a feed
unfoldable pub item_in : List ℕ → Data → Option (Item Sum)
item_in login d =
    if not (has_members 5 d) then None else (
    field (codes "md5") digest_in d >>= (λ md5.
    field (codes "name") (path_in login) d >>= (λ name.
    field (codes "reducer") reducer_in d >>= (λ reducer.
    field (codes "root") root_in d >>= (λ root.
    field (codes "size") whole_in d >>= (λ size.
    Some (record { name = name; root = root; body = record { md5 = md5; size = size }; reducer = reducer })))))))

-- ---- a task

-- each of these, if all can be read
abbrev pub each : {A : Type 0} → (Data → Option A) → List Data → Option (List A)
each reading [] = Some []
each reading (d ∷ ds) = reading d >>= (λ x. option_map (λ xs. x ∷ xs) (each reading ds))

-- those of a list
abbrev pub list_in : {A : Type 0} → (Data → Option A) → Data → Option (List A)
list_in reading d = option_map list_of (as_array d) >>= each reading

-- the outputs of a task in this state; one that failed has none
abbrev pub outputs_as : List (Item Sum) → List ℕ → Option (Option (List (Item Sum)))
outputs_as items state =
    if bytes_eq state (codes "ok") then Some (Some items)
    else (if bytes_eq state (codes "failed") && (length items == 0) then Some None else None)

abbrev pub outputs_in : List (Item Sum) → Data → Option (Option (List (Item Sum)))
outputs_in items d = as_str d >>= outputs_as items

-- a committed task
unfoldable pub task_in : List ℕ → Data → Option Listed
task_in login d =
    if not (has_members 6 d) then None else (
    field (codes "items") (list_in (item_in login)) d >>= (λ items.
    field (codes "phase") whole_in d >>= (λ phase.
    field (codes "place") whole_in d >>= (λ place.
    field (codes "position") whole_in d >>= (λ position.
    field (codes "reads") (list_in whole_in) d >>= (λ reads.
    field (codes "state") (outputs_in items) d >>= (λ outputs.
    Some (record { phase = phase; place = place; position = position; outputs = outputs; reads = reads }))))))))

-- ---- the first line

-- the same JSON value: neither has a float, and they have one text
abbrev pub is_same_value : Data → Data → Bool
is_same_value d e = not (has_float d) && bytes_eq (compact_text d) (compact_text e)

-- the phases of a document, where they stand as they are printed
abbrev pub as_printed : List ℕ → JobDocument → Data → Option (List Phase)
as_printed login document d = if is_same_value d (phases_data login document) then Some document.phases else None

abbrev pub phases_in : List ℕ → Data → Option (List Phase)
phases_in login d = result_ok (document_in login d) >>= (λ document. field (codes "phases") (as_printed login document) d)

-- the number of the job, 62 bits of it
abbrev pub number_in : Data → Option ℕ
number_in d = as_str d >>= identifier_number 2

unfoldable pub begin_in : List ℕ → Data → Option Line
begin_in login d =
    if not (has_members 3 d) then None else (
    field (codes "certificate") whole_in d >>= (λ version.
    passing (λ v. v == 1) version >>= (λ one.
    field (codes "id") number_in d >>= (λ number.
    phases_in login d >>= (λ phases.
    Some (Begin number phases))))))

-- ---- the forms

-- `true`
abbrev pub true_in : Data → Option Bool
true_in d = as_bool d >>= passing (λ b. b)

-- a line of one key
unfoldable pub alone_in : List ℕ → Data → Option Line
alone_in login d =
    if not (has_members 1 d) then None
    else (if is_some (get (codes "input") d) then option_map (λ i. Input i) (field (codes "input") (item_in login) d)
    else (if is_some (get (codes "output") d) then option_map (λ p. Output p) (field (codes "output") (path_in login) d)
    else option_map (λ b. End) (field (codes "end") true_in d)))

-- the line that a value is
unfoldable pub line_in : List ℕ → Data → Option Line
line_in login d =
    if is_some (get (codes "certificate") d) then begin_in login d
    else (if is_some (get (codes "phase") d) then option_map (λ l. Task l) (task_in login d)
    else alone_in login d)

-- the line that a text is, without its LF
unfoldable pub line_of : List ℕ → List ℕ → Option Line
line_of login text = (if is_utf8 text then read text else None) >>= line_in login
