-- What an error status says.
use Rattle.std.specs.Prelude.{◌≡◌, ℕ, ◌≤◌, List, [], length, Some}
use Rattle.md5.specs.Md5.{md5}
use Rattle.mt_answer.specs.JobAnswer.{job_answer_of}
use Rattle.mt_answer.specs.JobJudging.{job_refusal_of}
use Rattle.mt_answer.specs.Posting.{posted_of}
use Rattle.mt_answer.specs.Whole.{answer_of}
use Rattle.mt_error.specs.declared.refused.Refused.{Refused}
use Rattle.mt_http.specs.declared.message.Head.{Head}
use Rattle.mt_model.specs.State.{State}
use Rattle.mt_request.specs.declared.asked.JobRequest.{JobRequest}

-- an answer with a status of 400 or above adds no command
abbrev pub ErrorsAddNothing : Type 0
ErrorsAddNothing = (login : List ℕ) (limit : ℕ) (s : State (List ℕ)) (used : ℕ) (head : Head) (body : List ℕ) (moment : ℕ)
    → 400 ≤ (answer_of login limit s used head body moment).reply.status → (answer_of login limit s used head body moment).added ≡ []

-- a refused request about jobs is answered with such a status
abbrev pub RefusedJobsAreErrors : Type 0
RefusedJobsAreErrors = (login : List ℕ) (limit : ℕ) (s : State (List ℕ)) (used : ℕ) (head : Head) (request : JobRequest) (body : List ℕ) (moment : ℕ) (r : Refused)
    → job_refusal_of length request s (posted_of login request.doing body) (Some (md5 body)) ≡ Some r
    → 400 ≤ (job_answer_of login limit s used head request body moment).reply.status
