-- THE HEADLINE: what holds of a store, whatever happened to it. `Reply` to `Headline` are one page.
use Rattle.std.specs.Prelude.{◌≡◌, ℕ, true, List, [], ◌∷◌, ◌++◌, length, Some}
use Rattle.std.specs.List.{AllByRecursion, Contains}
use Rattle.mt_answer.specs.Answer.{Answer, stamp_of}
use Rattle.mt_answer.specs.JobLaws.{IsTold}
use Rattle.mt_answer.specs.Whole.{answer_of}
use Rattle.mt_base.specs.Lists.{IsPrefixOf}
use Rattle.mt_disk.specs.Files.{Files}
use Rattle.mt_http.specs.declared.message.Head.{Head}
use Rattle.mt_lives.specs.Lives.{HasWhole}
use Rattle.mt_model.specs.CommandStep.{replay}
use Rattle.mt_model.specs.Finished.{IsMeant, is_finished, live_out}
use Rattle.mt_model.specs.Honest.{Honest, HonestFrom}
use Rattle.mt_model.specs.Lawful.{Lawful}
use Rattle.mt_model.specs.State.{first_state, job_at}
use Rattle.mt_opening.specs.History.{Bytes, HasHistory, History}
use Rattle.mt_records.specs.Fate.{fate}
use Rattle.mt_reply.specs.ReplyFields.{stamp_fields}
use Rattle.mt_request.specs.Requests.{asked_of}
use Rattle.mt_request.specs.declared.asked.Asked.TheVariants as asked
use Rattle.mt_request.specs.declared.asked.JobRequest.{JobRequest}
use Rattle.mt_request.specs.declared.jobs.JobDoing.TheVariants as jobs
use Rattle.mt_types.specs.declared.job.Job.{Job}
use Rattle.mt_types.specs.declared.live.LiveText.TheVariants as live
use Rattle.mt_types.specs.declared.object.Field.{Field}
use Rattle.mt_types.specs.declared.task.Raw.{Raw}
use Rattle.mt_types.specs.declared.task.Run.{Run}

-- a reply: what was asked, after which commands of the store, and what was answered
pub record Reply : Type 0 where
  pub before : History
  pub limit : ℕ
  pub used : ℕ
  pub head : Head
  pub body : Bytes
  pub moment : ℕ
  pub answer : Answer Bytes

-- the commands that it reports
abbrev pub reported : Reply → History
reported r = r.before ++ r.answer.added

-- its last fields are its date and the number of the commands that it reports
abbrev pub NamesPosition : Reply → Type 0
NamesPosition r = (front : List Field) × (r.answer.reply.fields ≡ front ++ stamp_fields (stamp_of r.head (length (reported r)) r.moment))

-- a run, whatever ended it: each reply of which a byte was written; the files that were left, and all commands of the store that they hold
pub record Life : Type 0 where
  pub replies : List Reply
  pub after : History
  pub files : Files

-- of one login, and of what commands may give, run so on these bytes
module _ (login : Bytes) (gives : Run → Bytes → Raw → Type 0) where
  -- the one answer of the account that the commands before it make
  abbrev pub IsAnswer : Reply → Type 0
  IsAnswer r = r.answer ≡ answer_of login r.limit (replay first_state r.before) r.used r.head r.body r.moment

  -- a reply of a run from one whole history to another
  pub record IsReplyOf (before after : History) (r : Reply) : Type 0 where
    pub answer : IsAnswer r
    pub from : IsPrefixOf before r.before
    pub durable : IsPrefixOf (reported r) after

  -- a run on a store of this whole history: the commands that it added, each commit of what a command may give
  pub record IsLife (before : History) (l : Life) : Type 0 where
    pub added : History
    pub grew : l.after ≡ before ++ added
    pub honest : HonestFrom login gives (fate login) (replay first_state before) added
    pub image : HasWhole HasHistory l.after l.files
    pub replies : AllByRecursion (IsReplyOf before l.after) l.replies

  -- runs one after the other, each on what the run before it left
  abbrev pub Chain : History → List Life → History → Type 0
  Chain before [] after = after ≡ before
  Chain before (l ∷ ls) after = IsLife before l × Chain l.after ls after

  -- if it lists the outputs of a finished job, they are what its phases mean over its inputs
  abbrev pub ListsOutputs : Reply → Type 0
  ListsOutputs r = (request : JobRequest) (n : ℕ) (job : Job Bytes) → asked_of login r.head ≡ asked.Jobs request → request.doing ≡ jobs.LookLive (Some n) live.Out
      → job_at (replay first_state r.before).jobs n ≡ Some job → is_finished job ≡ true → r.answer.reply.status ≡ 200
      → IsTold r.answer (live_out login job) × IsMeant login gives (fate login) r.before job

  -- a reply after which the store has come to this history: it is the one answer at the position that it names, what it reports is there, and its
  -- outputs are correct
  pub record IsKept (h : History) (r : Reply) : Type 0 where
    pub answer : IsAnswer r
    pub position : NamesPosition r
    pub kept : IsPrefixOf (reported r) h
    pub outputs : ListsOutputs r

  -- THE HEADLINE, of runs from a new store on
  pub record Headline (ls : List Life) (h : History) : Type 0 where
    pub replies : AllByRecursion (λ l. AllByRecursion (IsKept h) l.replies) ls
    pub honest : Honest login gives (fate login) h
    pub lawful : Lawful (replay first_state h)
    pub jobs : (job : Job Bytes) → Contains (replay first_state h).jobs job → is_finished job ≡ true → IsMeant login gives (fate login) h job

  -- it holds of each chain
  abbrev pub ChainsMeetHeadline : Type 0
  ChainsMeetHeadline = (ls : List Life) (h : History) → Chain [] ls h → Headline ls h
