-- What a reply makes of a run: of a request for a page the rows that go on, of any other request its end.
use Rattle.std.specs.Prelude.{ℕ, Bool, true, false, ◌==◌, nat_eq, bytes_eq, List, [], ◌∷◌, ◌++◌, length, drop, codes, Option, Some, None, option_map, option_and_then, Result, Ok, Err, if◌then◌else◌}
use Rattle.std.specs.List.{starts_with}
use Rattle.mt_ident.specs.Identifiers.{identifier_number}
use Rattle.mt_path.specs.AccountPath.{slash}
use Rattle.mt_types.specs.Fields.{first_value}
use Rattle.mt_ask.specs.declared.ask.Ask.{Ask}
use Rattle.mt_ask.specs.declared.ask.Ask.TheVariants as asks
use Rattle.mt_ask.specs.declared.ask.PageAsk.{PageAsk}
use Rattle.mt_ask.specs.declared.ask.Words.{Words}
use Rattle.mt_page.specs.declared.row.PageRow.{PageRow}
use Rattle.mt_page.specs.Pages.{rows_of_page}
use Rattle.mt_response.specs.declared.reply.ReplyHead.{ReplyHead}
use Rattle.mt_script.specs.declared.end.ClientEnd.TheVariants as end
use Rattle.mt_script.specs.declared.end.Closing.{Closing}
use Rattle.mt_script.specs.Ends.{with_text, refused_by, silent}
use Rattle.mt_script.specs.Levels.{Listed, Settled, first_of, settled, taken}

-- ---- pages

-- all below a directory is shown
abbrev pub is_search : Ask → Bool
is_search (asks.List p) = false
is_search (asks.Find p) = true
is_search (asks.Get p) = false
is_search (asks.Put p) = false
is_search (asks.MakeDirectory p) = false
is_search (asks.Remove p) = false
is_search (asks.Link source p) = false
is_search asks.CreateJob = false
is_search (asks.AddInputs number) = false
is_search (asks.EndInput number) = false
is_search (asks.CancelJob number) = false
is_search (asks.JobStatus number) = false
is_search (asks.JobOutputs number) = false

-- the directory of a listing, whose first page is due
abbrev pub listed_by : Ask → List Listed
listed_by (asks.List p) = first_of p ∷ []
listed_by (asks.Find p) = first_of p ∷ []
listed_by (asks.Get p) = []
listed_by (asks.Put p) = []
listed_by (asks.MakeDirectory p) = []
listed_by (asks.Remove p) = []
listed_by (asks.Link source p) = []
listed_by asks.CreateJob = []
listed_by (asks.AddInputs number) = []
listed_by (asks.EndInput number) = []
listed_by (asks.CancelJob number) = []
listed_by (asks.JobStatus number) = []
listed_by (asks.JobOutputs number) = []

-- the type of a page of a directory
abbrev pub page_type : List ℕ
page_type = codes "application/x-json-stream; type=directory"

abbrev pub is_page_type : Option (List ℕ) → Bool
is_page_type None = false
is_page_type (Some value) = bytes_eq value page_type

-- the reply is a page of a directory
abbrev pub is_page : ReplyHead → Bool
is_page head = is_page_type (first_value (codes "content-type") head.fields)

-- no bytes are below each name
abbrev pub marker_bytes : Option (List ℕ) → List ℕ
marker_bytes None = []
marker_bytes (Some name) = name

abbrev pub page_or_bad : Option (List PageRow) → Result (List PageRow) Closing
page_or_bad None = Err (silent end.BadReply)
page_or_bad (Some rows) = Ok rows

-- what a reply to a request for a page is: its rows, judged as a whole, or how the run ends
abbrev pub page_of : PageAsk → ReplyHead → List ℕ → Result (List PageRow) Closing
page_of ask head body =
    if head.status == 200
    then (if is_page head then page_or_bad (rows_of_page ask.directory (marker_bytes ask.marker) body) else Err (with_text (codes "not a directory\n") end.Refused))
    else Err (refused_by body)

-- the rows of the first level's page are shown, until the next page is due
abbrev pub went : Words → List Listed → List PageRow → Settled
went w levels rows = settled (is_search w.ask) w.login (taken levels rows)

abbrev pub went_text : Words → List Listed → List PageRow → List ℕ
went_text w levels rows = (went w levels rows).text

abbrev pub went_levels : Words → List Listed → List PageRow → List Listed
went_levels w levels rows = (went w levels rows).levels

-- ---- one reply

-- the status of what the words want
abbrev pub success_of : Ask → ℕ
success_of (asks.List p) = 200
success_of (asks.Find p) = 200
success_of (asks.Get p) = 200
success_of (asks.Put p) = 204
success_of (asks.MakeDirectory p) = 204
success_of (asks.Remove p) = 204
success_of (asks.Link source p) = 204
success_of asks.CreateJob = 201
success_of (asks.AddInputs number) = 204
success_of (asks.EndInput number) = 202
success_of (asks.CancelJob number) = 202
success_of (asks.JobStatus number) = 200
success_of (asks.JobOutputs number) = 200

-- what stands before a job's identifier in its location
abbrev pub before_job : List ℕ → List ℕ
before_job login = slash ∷ login ++ codes "/jobs/"

abbrev pub behind_jobs : List ℕ → List ℕ → Option (List ℕ)
behind_jobs front value = if starts_with nat_eq value front then Some (drop (length front) value) else None

-- an identifier of a job
abbrev pub as_job : List ℕ → Option (List ℕ)
as_job id = option_map (λ number. id) (identifier_number 2 id)

-- the job's identifier in a location
abbrev pub job_in : List ℕ → List ℕ → Option (List ℕ)
job_in login value = option_and_then as_job (behind_jobs (before_job login) value)

abbrev pub created_by : Option (List ℕ) → Closing
created_by None = silent end.BadReply
created_by (Some id) = with_text (id ++ 10 ∷ []) end.Done

-- a job was made, of which the reply tells the location
abbrev pub created : List ℕ → ReplyHead → Closing
created login head = created_by (option_and_then (job_in login) (first_value (codes "location") head.fields))

-- a reply of the wanted status
abbrev pub success : List ℕ → Ask → ReplyHead → List ℕ → Closing
success login (asks.List p) head body = silent end.Done
success login (asks.Find p) head body = silent end.Done
success login (asks.Get p) head body = with_text body end.Done
success login (asks.Put p) head body = silent end.Done
success login (asks.MakeDirectory p) head body = silent end.Done
success login (asks.Remove p) head body = silent end.Done
success login (asks.Link source p) head body = silent end.Done
success login asks.CreateJob head body = created login head
success login (asks.AddInputs number) head body = silent end.Done
success login (asks.EndInput number) head body = silent end.Done
success login (asks.CancelJob number) head body = silent end.Done
success login (asks.JobStatus number) head body = with_text (body ++ 10 ∷ []) end.Done
success login (asks.JobOutputs number) head body = with_text body end.Done

abbrev pub is_success : Ask → ReplyHead → Bool
is_success ask head = head.status == success_of ask

-- what the reply to a request that isn't one for a page ends with
abbrev pub once_of : Words → ReplyHead → List ℕ → Closing
once_of w head body = if is_success w.ask head then success w.login w.ask head body else refused_by body
