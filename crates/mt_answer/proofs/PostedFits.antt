-- What a body asks for is within the limits of a command.
use Rattle.std.proofs.Common.{◌≡◌, ℕ, ◌+◌, ◌-◌, ◌<◌, ◌≤◌, ◌^◌, ◌==◌, zero, suc, Bool, true, false, not, ◌||◌, cond, List, [], ◌∷◌, length, map, take, Option, Some, None, Result, Ok, Err, codes, option_and_then, refl, sym, ap, subst, ◌∙◌, arith}
use Rattle.std.specs.Prelude.{IsTrue, IfSome, nat_le, nat_lt, filter, slice_index}
use Rattle.std.specs.List.{AllByRecursion, list_any, onto_first, slice_split}
use Rattle.std.specs.Str.{is_utf8}
use Rattle.std.specs.Str.Lines.{lines, lines_of_parts}
use Rattle.std.proofs.lemmas.Bool.{and_from, le-leb, ltb-false, ltb-true}
use Rattle.std.proofs.lemmas.List.{length-take}
use Rattle.serde_json.specs.Data.{Data}
use Rattle.serde_json.specs.Find.{as_str, get}
use Rattle.mt_codec.specs.Spelling.{FitsCommandLine, FitsDocument, FitsKind, FitsLine, FitsPath, FitsPhase}
use Rattle.mt_jobdoc.specs.Document.{and_then, by_name, document_in, document_of, listed, name_in, object_of, phases_of}
use Rattle.mt_jobdoc.specs.declared.error.InvalidJob.{InvalidJob}
use Rattle.mt_jobdoc.proofs.Documents.{document-document}
use Rattle.mt_model.specs.Limits.{most_inputs}
use Rattle.mt_model.proofs.Maps.{length-map}
use Rattle.mt_path.specs.AccountPath.{AccountPath}
use Rattle.mt_path.specs.Names.{path_of_text}
use Rattle.mt_path.specs.declared.error.PathError.{PathError}
use Rattle.mt_request.specs.declared.jobs.JobDoing.{JobDoing}
use Rattle.mt_request.specs.declared.jobs.JobDoing.TheVariants as jobs
use Rattle.mt_types.specs.Limits.{is_command_line, is_job_name, is_line_text}
use Rattle.mt_types.specs.WellMade.{HasReducers, IsDocument, IsDocumentPhase}
use Rattle.mt_types.specs.declared.document.JobDocument.{JobDocument}
use Rattle.mt_types.specs.declared.document.Phase.{Phase}
use Rattle.mt_types.specs.declared.document.PhaseKind.{PhaseKind}
use Rattle.mt_types.specs.declared.document.PhaseKind.TheVariants.{Map, Reduce}
use Rattle.mt_answer.specs.JobLaws.{FitsPosted}
use Rattle.mt_answer.specs.Posting.{document_posted, input_line, lines_posted, named_or, posted_lines, posted_of}
use Rattle.mt_answer.specs.declared.posted.Posted.TheVariants as posted

-- ---- documents

by_test : (b : Bool) (text : List ℕ) → is_job_name text ≡ b → is_job_name (cond b text []) ≡ true
by_test true text is = is
by_test false text is = refl

named : (o : Option (List ℕ)) → is_job_name (by_name o) ≡ true
named None = refl
named (Some text) = by_test (is_job_name text) text refl

with_phases : (r : Result (List Phase) InvalidJob) (name : List ℕ) (d : JobDocument) → and_then r (λ ps. Ok (record { name = name; phases = ps })) ≡ Ok d → name ≡ d.name
with_phases (Ok ps) name d is =
    let whole : JobDocument = record { name = name; phases = ps } in
    let same : whole ≡ d = cc in
    ap (λ (x : JobDocument). x.name) same
with_phases (Err e) name d is = absurd (cc)

with_list : (r : Result (List Data) InvalidJob) (login name : List ℕ) (d : JobDocument)
    → and_then r (λ ds. and_then (phases_of login 0 ds) (λ ps. Ok (record { name = name; phases = ps }))) ≡ Ok d → name ≡ d.name
with_list (Ok ds) login name d is = with_phases (phases_of login 0 ds) name d is
with_list (Err e) login name d is = absurd (cc)

in_object : (login : List ℕ) (v : Data) (d : JobDocument) → document_in login v ≡ Ok d → is_job_name d.name ≡ true
unfolding document_in
in_object login v d is = subst (λ (name : List ℕ). is_job_name name ≡ true) (with_list (listed v) login (name_in v) d is) (named (option_and_then as_str (get (codes "name") v)))

in_value : (r : Result Data InvalidJob) (login : List ℕ) (d : JobDocument) → and_then r (document_in login) ≡ Ok d → is_job_name d.name ≡ true
in_value (Ok v) login d is = in_object login v d is
in_value (Err e) login d is = absurd (cc)

name_fits : (login body : List ℕ) (d : JobDocument) → document_of login body ≡ Ok d → is_job_name d.name ≡ true
unfolding document_of
name_fits login body d is = in_value (object_of body) login d is

kind_fits : (k : PhaseKind) → HasReducers k → FitsKind k
kind_fits Map is = tt
kind_fits (Reduce count) is = is

init_fits : (o : Option (List ℕ)) → IfSome o (λ t. IsTrue (is_command_line t)) → IfSome o (FitsCommandLine false)
init_fits None is = tt
init_fits (Some t) is = (is, tt)

any_paths : (ps : List AccountPath) → AllByRecursion (FitsPath false) ps
any_paths [] = tt
any_paths (p ∷ ps) = (tt, any_paths ps)

phases_fit : (ps : List Phase) → AllByRecursion IsDocumentPhase ps → AllByRecursion (FitsPhase false) ps
phases_fit [] all = tt
phases_fit (p ∷ ps) all = (
  record { kind = kind_fits p.kind all.0.kind; exec = (all.0.exec, tt); init = init_fits p.init all.0.init; few = all.0.few; assets = any_paths p.assets },
  phases_fit ps all.1,
)

document_fits : (d : JobDocument) → is_job_name d.name ≡ true → IsDocument d → FitsDocument false d
document_fits d name is = record { name = name; text = tt; some = is.some; few = is.few; phases = phases_fit d.phases is.phases }

made_fits : (login body : List ℕ) (r : Result JobDocument InvalidJob) → document_of login body ≡ r → FitsPosted (document_posted r)
made_fits login body (Ok d) is = document_fits d (name_fits login body d is) (document-document login body d is)
made_fits login body (Err e) is = tt

-- ---- lines

abbrev is_feed : ℕ → Bool
is_feed b = b == 10

-- without a line feed, and no longer
abbrev IsPart : ℕ → List ℕ → Type 0
IsPart n x = (list_any is_feed x ≡ false) × (length x ≤ n)

longer : (n m : ℕ) (parts : List (List ℕ)) → n ≤ m → AllByRecursion (IsPart n) parts → AllByRecursion (IsPart m) parts
longer n m [] more all = tt
longer n m (x ∷ parts) more all =
    let short : length x ≤ n = all.0.1 in
    ((all.0.0, omega (arith, short, more)), longer n m parts more all.1)

any_cons : (x : ℕ) (xs : List ℕ) → is_feed x ≡ false → list_any is_feed xs ≡ false → list_any is_feed (x ∷ xs) ≡ false
any_cons x xs here rest = ap (λ b. b || list_any is_feed xs) here ∙ rest

onto : (x n : ℕ) (parts : List (List ℕ)) → is_feed x ≡ false → AllByRecursion (IsPart n) parts → AllByRecursion (IsPart (n + 1)) (onto_first x parts)
onto x n [] here all = ((any_cons x [] here refl, omega arith), tt)
onto x n (y ∷ parts) here all =
    let short : length y ≤ n = all.0.1 in
    ((any_cons x y here all.0.0, omega (arith, short)), longer n (n + 1) parts (omega arith) all.1)

split_by : (b : Bool) (x n : ℕ) (parts : List (List ℕ)) → is_feed x ≡ b → AllByRecursion (IsPart n) parts → AllByRecursion (IsPart (n + 1)) (cond b ([] ∷ parts) (onto_first x parts))
split_by true x n parts here all = ((refl, omega arith), longer n (n + 1) parts (omega arith) all)
split_by false x n parts here all = onto x n parts here all

parts_are : (body : List ℕ) → AllByRecursion (IsPart (length body)) (slice_split is_feed body)
parts_are [] = ((refl, omega arith), tt)
parts_are (x ∷ body) =
    longer (length body + 1) (length (x ∷ body)) (slice_split is_feed (x ∷ body)) (omega arith) (split_by (is_feed x) x (length body) (slice_split is_feed body) refl (parts_are body))

or_parts : (a b : Bool) → (a || b) ≡ false → (a ≡ false) × (b ≡ false)
or_parts true b none = absurd (cc)
or_parts false b none = (refl, none)

any_take : (k : ℕ) (xs : List ℕ) → list_any is_feed xs ≡ false → list_any is_feed (take k xs) ≡ false
any_take zero xs none = refl
any_take (suc k) [] none = refl
any_take (suc k) (x ∷ xs) none =
    let parts = or_parts (is_feed x) (list_any is_feed xs) none in
    any_cons x (take k xs) parts.0 (any_take k xs parts.1)

take_is : (k n : ℕ) (x : List ℕ) → IsPart n x → IsPart n (take k x)
take_is k n x is =
    let short : length x ≤ n = is.1 in
    (any_take k x is.0, omega (arith, length-take k x, short))

strip_by : (b : Bool) (k n : ℕ) (x : List ℕ) → IsPart n x → IsPart n (cond b (take k x) x)
strip_by true k n x is = take_is k n x is
strip_by false k n x is = is

last_by : (b : Bool) (n : ℕ) (x : List ℕ) → IsPart n x → AllByRecursion (IsPart n) (cond b [] (x ∷ []))
last_by true n x is = tt
last_by false n x is = (is, tt)

lines_are : (n : ℕ) (parts : List (List ℕ)) → AllByRecursion (IsPart n) parts → AllByRecursion (IsPart n) (lines_of_parts parts)
lines_are n [] all = tt
lines_are n (x ∷ []) all = last_by (length x == 0) n x all.0
lines_are n (x ∷ y ∷ more) all = (strip_by (slice_index x (length x - 1) == 13) (length x - 1) n x all.0, lines_are n (y ∷ more) all.1)

-- a line that is posted
abbrev IsPosted : ℕ → List ℕ → Type 0
IsPosted n x = (nat_lt 0 (length x) ≡ true) × IsPart n x

kept_by : (b : Bool) (n : ℕ) (x : List ℕ) (xs : List (List ℕ)) → nat_lt 0 (length x) ≡ b → IsPart n x → AllByRecursion (IsPosted n) xs → AllByRecursion (IsPosted n) (cond b (x ∷ xs) xs)
kept_by true n x xs some is all = ((some, is), all)
kept_by false n x xs some is all = all

kept_are : (n : ℕ) (xs : List (List ℕ)) → AllByRecursion (IsPart n) xs → AllByRecursion (IsPosted n) (filter (λ line. nat_lt 0 (length line)) xs)
kept_are n [] all = tt
kept_are n (x ∷ xs) all = kept_by (nat_lt 0 (length x)) n x (filter (λ line. nat_lt 0 (length line)) xs) refl all.0 (kept_are n xs all.1)

posted_are : (body : List ℕ) → AllByRecursion (IsPosted (length body)) (posted_lines body)
posted_are body = kept_are (length body) (lines body) (lines_are (length body) (slice_split is_feed body) (parts_are body))

line_text : (x : List ℕ) → nat_lt 0 (length x) ≡ true → list_any is_feed x ≡ false → IsTrue (is_line_text x)
line_text x some none =
    let long : 0 < length x = ltb-true 0 (length x) some in
    and_from (nat_le 1 (length x)) (not (list_any (λ b. b == 10) x)) (le-leb 1 (length x) (omega (arith, long))) (ap not none)

named_fits : (n : ℕ) (x : List ℕ) (r : Result AccountPath PathError) → n < 2 ^ 32 → IsPosted n x → FitsLine false (named_or x r)
named_fits n x (Ok p) small is = tt
named_fits n x (Err e) small is =
    let short : length x ≤ n = is.1.1 in
    (line_text x is.0 is.1.0, omega (arith, short, small), tt)

lines_fit : (login : List ℕ) (n : ℕ) (xs : List (List ℕ)) → n < 2 ^ 32 → AllByRecursion (IsPosted n) xs → AllByRecursion (FitsLine false) (map (input_line login) xs)
lines_fit login n [] small all = tt
lines_fit login n (x ∷ xs) small all = (named_fits n x (path_of_text login x) small all.0, lines_fit login n xs small all.1)

lines_by : (b : Bool) (login : List ℕ) (n : ℕ) (xs : List (List ℕ)) → nat_lt most_inputs (length xs) ≡ b → n < 2 ^ 32 → AllByRecursion (IsPosted n) xs
    → FitsPosted (cond b posted.TooMany (posted.Lines (map (input_line login) xs)))
lines_by true login n xs few small all = tt
lines_by false login n xs few small all =
    let within : length xs ≤ most_inputs = ltb-false most_inputs (length xs) few in
    (subst (λ (k : ℕ). k ≤ most_inputs) (sym (length-map (input_line login) xs)) within, lines_fit login n xs small all)

text_by : (b : Bool) (login body : List ℕ) → length body < 2 ^ 32 → FitsPosted (cond b (lines_posted login (posted_lines body)) posted.NoText)
text_by true login body small = lines_by (nat_lt most_inputs (length (posted_lines body))) login (length body) (posted_lines body) refl small (posted_are body)
text_by false login body small = tt

pub posted_within : (login : List ℕ) (d : JobDoing) (body : List ℕ) → length body < 2 ^ 32 → FitsPosted (posted_of login d body)
unfolding posted_of
posted_within login jobs.MakeJob body small = made_fits login body (document_of login body) refl
posted_within login (jobs.PostLines job) body small = text_by (is_utf8 body) login body small
posted_within login (jobs.ListJobs stand page) body small = tt
posted_within login (jobs.EndInput job) body small = tt
posted_within login (jobs.CancelJob job) body small = tt
posted_within login (jobs.LookLive job text) body small = tt
