-- What the body of a request asks of jobs: a document, or lines.
use Rattle.std.specs.Prelude.{ℕ, nat_lt, List, length, map, filter, Result, Ok, Err, if◌then◌else◌}
use Rattle.std.specs.Str.{is_utf8}
use Rattle.std.specs.Str.Lines.{lines}
use Rattle.mt_jobdoc.specs.Document.{document_of}
use Rattle.mt_jobdoc.specs.declared.error.InvalidJob.{InvalidJob}
use Rattle.mt_model.specs.Limits.{most_inputs}
use Rattle.mt_path.specs.AccountPath.{AccountPath}
use Rattle.mt_path.specs.Names.{path_of_text}
use Rattle.mt_path.specs.declared.error.PathError.{PathError}
use Rattle.mt_request.specs.declared.jobs.JobDoing.{JobDoing}
use Rattle.mt_request.specs.declared.jobs.JobDoing.TheVariants as jobs
use Rattle.mt_types.specs.declared.document.InputLine.{InputLine}
use Rattle.mt_types.specs.declared.document.InputLine.TheVariants.{Named, Other}
use Rattle.mt_types.specs.declared.document.JobDocument.{JobDocument}
use Rattle.mt_answer.specs.declared.posted.Posted.{Posted}
use Rattle.mt_answer.specs.declared.posted.Posted.TheVariants as posted

-- a text as a line: a path of this account, or any other text
abbrev pub named_or : List ℕ → Result AccountPath PathError → InputLine
named_or text (Ok p) = Named p
named_or text (Err e) = Other text

abbrev pub input_line : List ℕ → List ℕ → InputLine
input_line login text = named_or text (path_of_text login text)

-- the lines of a body: split at each LF, a CR before it dropped, empty ones passed over
abbrev pub posted_lines : List ℕ → List (List ℕ)
posted_lines body = filter (λ line. nat_lt 0 (length line)) (lines body)

abbrev pub document_posted : Result JobDocument InvalidJob → Posted
document_posted (Ok d) = posted.Document d
document_posted (Err e) = posted.NoDocument

-- lines; more than a job takes are told as too many
abbrev pub lines_posted : List ℕ → List (List ℕ) → Posted
lines_posted login texts = if nat_lt most_inputs (length texts) then posted.TooMany else posted.Lines (map (input_line login) texts)

-- a body of lines, which has to be a text
abbrev pub text_posted : List ℕ → List ℕ → Posted
text_posted login body = if is_utf8 body then lines_posted login (posted_lines body) else posted.NoText

-- what a body asks for; where neither a document nor lines are posted, it isn't looked at
unfoldable pub posted_of : List ℕ → JobDoing → List ℕ → Posted
posted_of login jobs.MakeJob body = document_posted (document_of login body)
posted_of login (jobs.PostLines job) body = text_posted login body
posted_of login (jobs.ListJobs stand page) body = posted.Nothing
posted_of login (jobs.EndInput job) body = posted.Nothing
posted_of login (jobs.CancelJob job) body = posted.Nothing
posted_of login (jobs.LookLive job text) body = posted.Nothing
