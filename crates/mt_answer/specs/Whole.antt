-- What each request is answered, of objects and directories or of jobs.
use Rattle.std.specs.Prelude.{◌≤◌, ℕ, ⊤, List, length}
use Rattle.std.specs.List.{AllByRecursion}
use Rattle.mt_http.specs.declared.message.Head.{Head}
use Rattle.mt_model.specs.Honest.{HonestFrom}
use Rattle.mt_jobtext.specs.Archives.{ArchivesFrom}
use Rattle.mt_model.specs.State.{State}
use Rattle.mt_model.specs.Types.{Raw, Run}
use Rattle.mt_request.specs.Requests.{asked_of}
use Rattle.mt_request.specs.declared.asked.Asked.{Asked}
use Rattle.mt_request.specs.declared.asked.Asked.TheVariants as asked
use Rattle.mt_types.specs.declared.command.Command.{Command}
use Rattle.mt_types.specs.declared.command.Command.TheVariants.{Commit, CommitUpload}
use Rattle.mt_types.specs.declared.task.Fate.{Fate}
use Rattle.mt_answer.specs.Answer.{Answer, rows_answer_of}
use Rattle.mt_answer.specs.JobAnswer.{job_answer_of}

-- by what its head asks for
abbrev pub answer_asked : List ℕ → ℕ → State (List ℕ) → ℕ → Head → List ℕ → ℕ → Asked → Answer (List ℕ)
answer_asked login limit s used head body moment (asked.Rows request) = rows_answer_of request limit s used head body moment
answer_asked login limit s used head body moment (asked.Jobs request) = job_answer_of login limit s used head request body moment

-- WHAT A REQUEST IS ANSWERED, over the bytes of bodies: of this login, under this limit of the log, in this state, with a log of so
-- many bytes, by its head, its body and its moment
unfoldable pub answer_of : List ℕ → ℕ → State (List ℕ) → ℕ → Head → List ℕ → ℕ → Answer (List ℕ)
answer_of login limit s used head body moment = answer_asked login limit s used head body moment (asked_of login head)

-- at most one command is added
abbrev pub AddsOneAtMost : Type 0
AddsOneAtMost = (login : List ℕ) (limit : ℕ) (s : State (List ℕ)) (used : ℕ) (head : Head) (body : List ℕ) (moment : ℕ)
    → length (answer_of login limit s used head body moment).added ≤ 1

-- no child gives anything
abbrev pub gives_nothing : Run → List ℕ → Raw → Type 0
gives_nothing run input raw = ⊥

-- what is added is a step from its state on: well made, allowed, with room for one more, and honest though no child gives anything
abbrev pub AnswersAreSteps : Type 0
AnswersAreSteps = (login' : List ℕ) (fate_of : Raw → Fate (List ℕ)) (login : List ℕ) (limit : ℕ) (s : State (List ℕ)) (used : ℕ) (head : Head) (body : List ℕ) (moment : ℕ)
    → HonestFrom login' gives_nothing fate_of s (answer_of login limit s used head body moment).added

-- neither the commit of a task nor that of an upload
abbrev pub IsNoCommit : Command (List ℕ) → Type 0
IsNoCommit (Commit job phase place fate moment) = ⊥
IsNoCommit (CommitUpload upload parts body moment) = ⊥
IsNoCommit other = ⊤

-- what is added is no commit
abbrev pub AnswersAreNoCommits : Type 0
AnswersAreNoCommits = (login : List ℕ) (limit : ℕ) (s : State (List ℕ)) (used : ℕ) (head : Head) (body : List ℕ) (moment : ℕ)
    → AllByRecursion IsNoCommit (answer_of login limit s used head body moment).added

-- a job that it ends leaves its five texts, as it is then
abbrev pub AnswersHaveTexts : Type 0
AnswersHaveTexts = (login : List ℕ) (limit : ℕ) (s : State (List ℕ)) (used : ℕ) (head : Head) (body : List ℕ) (moment : ℕ)
    → ArchivesFrom login s (answer_of login limit s used head body moment).added
