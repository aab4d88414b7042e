-- The texts of a job: names of what it read and made, what failed, its committed tasks, and its status. JSON is RFC 8259, its keys
-- in the order of their bytes, without spaces.
use Rattle.std.specs.Prelude.{ℕ, List, [], ◌∷◌, ◌++◌, map, length, codes, Option, Some, None, option_and_then}
use Rattle.std.specs.List.{filter_map, flat_map, slice_get}
use Rattle.std.specs.Str.Lossy.{utf8_lossy}
use Rattle.serde_json.specs.Data.{Data, Members, boolean, member, no_members, null, number, object, string, unsigned}
use Rattle.serde_json.specs.Written.{compact_text}
use Rattle.mt_ident.specs.Dates.{iso_time_text}
use Rattle.mt_jobdoc.specs.Printed.{phases_data}
use Rattle.mt_path.specs.AccountPath.{path_text}
use Rattle.mt_types.specs.declared.command.Archive.{Archive}
use Rattle.mt_types.specs.declared.document.InputLine.{InputLine}
use Rattle.mt_types.specs.declared.document.InputLine.TheVariants.{Named, Other}
use Rattle.mt_types.specs.declared.job.Job.{Job}
use Rattle.mt_types.specs.declared.job.Outcome.{Outcome}
use Rattle.mt_types.specs.declared.job.Outcome.TheVariants.{Good, Bad}
use Rattle.mt_types.specs.declared.job.TraceEntry.{TraceEntry}
use Rattle.mt_types.specs.declared.task.TaskFailure.{TaskFailure}
use Rattle.mt_types.specs.declared.task.TaskFailure.TheVariants.{UserTaskError, TaskOutputTooLarge, TaskRecordError, TaskPlaceRefused, TaskObjectMissing}
use Rattle.mt_model.specs.Feed.{feed, items_of}
use Rattle.mt_model.specs.Finished.{live_out, names_out, outputs_of}
use Rattle.mt_model.specs.Names.{job_name}
use Rattle.mt_model.specs.Tasks.{object_read, reducer_at}
use Rattle.mt_types.specs.declared.live.LiveText.{LiveText}
use Rattle.mt_types.specs.declared.live.LiveText.TheVariants as live

-- a text on a line of its own
abbrev pub line : List ℕ → List ℕ
line text = text ++ 10 ∷ []

-- each of these on a line of its own
abbrev pub lined : List (List ℕ) → List ℕ
lined texts = flat_map line texts

-- ---- names

-- a posted line as it is shown: a path with its login, and any other text as it was posted
abbrev pub posted_text : List ℕ → InputLine → List ℕ
posted_text login (Named p) = path_text login p
posted_text login (Other text) = text

module _ {B : Type 0} where
  -- the names of the inputs
  abbrev pub names_in : List ℕ → Job B → List (List ℕ)
  names_in login job = map (λ i. path_text login i.name) job.inputs

  -- the posted lines that named no object
  abbrev pub names_missing : List ℕ → Job B → List (List ℕ)
  names_missing login job = map (posted_text login) job.missing

  -- the name of the object that a map task of the job reads
  abbrev pub object_of_task : List ℕ → Job B → ℕ → ℕ → Option (List ℕ)
  object_of_task login job phase place =
      option_and_then (λ p. object_read login p.kind (feed job phase) place) (slice_get job.document.phases phase)

  -- the number of a reducer of the job
  abbrev pub reducer_of_task : Job B → ℕ → ℕ → Option ℕ
  reducer_of_task job phase place = option_and_then (λ p. reducer_at p.kind place) (slice_get job.document.phases phase)

  abbrev pub name_where_bad : Option (List ℕ) → Outcome B → Option (List ℕ)
  name_where_bad name (Good items) = None
  name_where_bad name (Bad failure status stderr) = name

  -- the name of the object that a failed map task read
  abbrev pub failed_name : List ℕ → Job B → TraceEntry B → Option (List ℕ)
  failed_name login job e = name_where_bad (object_of_task login job e.phase e.place) e.outcome

  -- the missing lines, and then what failed map tasks read, in the order of their commits
  abbrev pub names_failed : List ℕ → Job B → List (List ℕ)
  names_failed login job = names_missing login job ++ filter_map (failed_name login job) job.trace

-- ---- failures

abbrev pub failure_code : TaskFailure → List ℕ
failure_code UserTaskError = codes "UserTaskError"
failure_code TaskOutputTooLarge = codes "TaskOutputTooLarge"
failure_code TaskRecordError = codes "TaskRecordError"
failure_code TaskPlaceRefused = codes "TaskPlaceRefused"
failure_code TaskObjectMissing = codes "TaskObjectMissing"

abbrev pub failure_message : TaskFailure → List ℕ
failure_message UserTaskError = codes "the command ended with a status other than 0"
failure_message TaskOutputTooLarge = codes "the task's output is over the limit"
failure_message TaskRecordError = codes "a helper's record is not whole"
failure_message TaskPlaceRefused = codes "an output's place cannot hold an object"
failure_message TaskObjectMissing = codes "a named object is not there"

-- the name of the input stands where there is one
abbrev pub with_input : Option (List ℕ) → Members → Members
with_input None rest = rest
with_input (Some name) rest = member (codes "input") (string name) rest

-- and the number of the reducer
abbrev pub with_reducer : Option ℕ → Members → Members
with_reducer None rest = rest
with_reducer (Some reducer) rest = member (codes "reducer") (number (unsigned reducer)) rest

-- a posted line that named no object
unfoldable pub missing_error : List ℕ → Data
missing_error text =
    object (member (codes "code") (string (codes "ResourceNotFound")) (with_input (Some text)
    (member (codes "message") (string (codes "no such object")) (member (codes "phase") (number (unsigned 0)) no_members))))

-- a failed task; its standard error is read as text, with U+FFFD for what is none
unfoldable pub task_error : Option (List ℕ) → Option ℕ → ℕ → TaskFailure → ℕ → List ℕ → Data
task_error input reducer phase failure status stderr =
    object (member (codes "code") (string (failure_code failure)) (with_input input
    (member (codes "message") (string (failure_message failure)) (member (codes "phase") (number (unsigned phase)) (with_reducer reducer
    (member (codes "status") (number (unsigned status)) (member (codes "stderr") (string (utf8_lossy stderr)) no_members)))))))

-- the texts of these values
abbrev pub texts_of : List Data → List (List ℕ)
texts_of values = map compact_text values

-- what a job is said to be that was done then
abbrev pub state_word : Option ℕ → List ℕ
state_word None = codes "running"
state_word (Some moment) = codes "done"

abbrev pub time_data : Option ℕ → Data
time_data None = null
time_data (Some moment) = string (iso_time_text moment)

module _ {B : Type 0} where
  abbrev pub error_where_bad : Option (List ℕ) → Option ℕ → ℕ → Outcome B → Option Data
  error_where_bad input reducer phase (Good items) = None
  error_where_bad input reducer phase (Bad failure status stderr) = Some (task_error input reducer phase failure status stderr)

  -- of a committed task, if it failed
  abbrev pub failed_error : List ℕ → Job B → TraceEntry B → Option Data
  failed_error login job e =
      error_where_bad (object_of_task login job e.phase e.place) (reducer_of_task job e.phase e.place) e.phase e.outcome

  -- the missing lines, and then the failed tasks in the order of their commits
  abbrev pub errors_of : List ℕ → Job B → List Data
  errors_of login job = map missing_error (names_missing login job) ++ filter_map (failed_error login job) job.trace

  -- ---- tasks

  abbrev pub outcome_word : Outcome B → List ℕ
  outcome_word (Good items) = codes "ok"
  outcome_word (Bad failure status stderr) = codes "failed"

  -- a committed task
  unfoldable pub task_data : TraceEntry B → Data
  task_data e =
      object (member (codes "outputs") (number (unsigned (length (items_of e.outcome)))) (member (codes "phase") (number (unsigned e.phase))
      (member (codes "place") (number (unsigned e.place)) (member (codes "position") (number (unsigned e.position))
      (member (codes "state") (string (outcome_word e.outcome)) no_members)))))

  -- ---- status

  -- how much there is of a job
  unfoldable pub stats_data : List ℕ → Job B → Data
  stats_data login job =
      object (member (codes "errors") (number (unsigned (length (errors_of login job)))) (member (codes "inputs") (number (unsigned (length job.inputs)))
      (member (codes "outputs") (number (unsigned (length (outputs_of job)))) (member (codes "tasksDone") (number (unsigned (length job.trace))) no_members))))

  -- a job
  unfoldable pub status_data : List ℕ → Job B → Data
  status_data login job =
      object (member (codes "cancelled") (boolean job.cancelled) (member (codes "id") (string (job_name job.number))
      (member (codes "inputDone") (boolean job.ended) (member (codes "name") (string job.document.name)
      (member (codes "phases") (phases_data login job.document) (member (codes "state") (string (state_word job.done))
      (member (codes "stats") (stats_data login job) (member (codes "timeCreated") (string (iso_time_text job.created))
      (member (codes "timeDone") (time_data job.done) no_members)))))))))

  -- ---- the texts

  abbrev pub live_in : List ℕ → Job B → List ℕ
  live_in login job = lined (names_in login job)

  abbrev pub live_fail : List ℕ → Job B → List ℕ
  live_fail login job = lined (names_failed login job)

  abbrev pub live_err : List ℕ → Job B → List ℕ
  live_err login job = lined (texts_of (errors_of login job))

  abbrev pub live_tasks : List ℕ → Job B → List ℕ
  live_tasks login job = lined (texts_of (map task_data job.trace))

  abbrev pub live_status : List ℕ → Job B → List ℕ
  live_status login job = compact_text (status_data login job)

  -- a text of a job
  abbrev pub text_of : List ℕ → Job B → LiveText → List ℕ
  text_of login job live.In = live_in login job
  text_of login job live.Out = live_out login job
  text_of login job live.Fail = live_fail login job
  text_of login job live.Err = live_err login job
  text_of login job live.Tasks = live_tasks login job
  text_of login job live.Status = live_status login job

  -- how many lines it has; the status is one text without a line end
  abbrev pub line_count : List ℕ → Job B → LiveText → ℕ
  line_count login job live.In = length (names_in login job)
  line_count login job live.Out = length (names_out login job)
  line_count login job live.Fail = length (names_failed login job)
  line_count login job live.Err = length (errors_of login job)
  line_count login job live.Tasks = length job.trace
  line_count login job live.Status = 1

  -- the texts that a job leaves in its folder when it is done
  abbrev pub archive_of : List ℕ → Job B → Archive (List ℕ)
  archive_of login job = record {
    err = live_err login job;
    fail = live_fail login job;
    input = live_in login job;
    status = live_status login job;
    out = live_out login job;
  }
