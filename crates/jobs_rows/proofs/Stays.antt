-- An account stays lawful.
use Rattle.std.proofs.Common.{◌≡◌, ℕ, ◌+◌, ◌<◌, Bool, true, List, [], Option, Some, None, refl, sym, ap, subst, ◌∙◌, false}
use Rattle.std.specs.Prelude.{All, IfSome, Ok}
use Rattle.std.specs.Option.{option_map_or}
use Rattle.std.proofs.lemmas.List.Elements.{All-weaker}
use Rattle.mt_path.specs.AccountPath.{AccountPath, IsPath}
use Rattle.std.specs.List.{AllByRecursion}
use Rattle.mt_types.specs.WellMade.{IsDocument, IsWellMadeFate, IsWellMadeLine}
use Rattle.mt_types.specs.declared.body.Body.{Body}
use Rattle.mt_types.specs.declared.command.Archive.{Archive}
use Rattle.mt_types.specs.declared.command.Command.{Command}
use Rattle.mt_types.specs.declared.command.Command.TheVariants.{Put, MakeDirectory, NewJob, AddInputs, EndInput, Commit, Finish, Cancel, Close}
use Rattle.mt_types.specs.declared.document.InputLine.{InputLine}
use Rattle.mt_types.specs.declared.document.JobDocument.{JobDocument}
use Rattle.mt_types.specs.declared.job.Job.{Job}
use Rattle.mt_types.specs.declared.limits.TheConstants.{MOST_COMMANDS}
use Rattle.mt_types.specs.declared.object.Entry.TheVariants as entry
use Rattle.mt_types.specs.declared.refusal.Refusal.{Refusal}
use Rattle.mt_types.specs.declared.task.Fate.{Fate}
use Rattle.mt_model.specs.CommandStep.{allowed, change, outside_jobs, put_object, step}
use Rattle.mt_model.specs.JobSteps.{add_inputs_refusal, close_refusal, commit_refusal, finish_refusal, input_refusal, job_refusal, new_job_refusal, running_refusal}
use Rattle.mt_model.specs.Lawful.{Lawful, LawfulJob}
use Rattle.mt_model.specs.Names.{number_at}
use Rattle.mt_model.specs.Rows.{Rows, first_rows, make_directory_refusal, put_refusal, with_row}
use Rattle.mt_model.specs.Sound.{Sound}
use Rattle.mt_model.specs.State.{State, job_at}
use Rattle.mt_model.specs.Tasks.{is_ready}
use Rattle.mt_model.proofs.LawfulSteps.{Lawful-add_inputs, Lawful-cancel, Lawful-close, Lawful-commit, Lawful-end_input, Lawful-finish, Lawful-first_state, Lawful-make_directory, Lawful-new_job, Lawful-put}
use Rattle.mt_tree.specs.Answer.{answer}
use Rattle.mt_jobs.specs.Shown.{state_of}

abbrev size : Body → ℕ
size b = b.len

-- what is answered Ok is not refused
pub not_refused : (o : Option Refusal) → answer o ≡ Ok tt → o ≡ None
not_refused None is = refl
not_refused (Some refusal) is = cc

-- an empty account is lawful
pub first : (rows : Rows Body) (jobs : List (Job Body)) → rows ≡ first_rows → jobs ≡ [] → Lawful (state_of 0 rows jobs)
first rows jobs a b = subst (λ r. Lawful (state_of 0 r jobs)) (sym a) (subst (λ j. Lawful (state_of {B = Body} 0 first_rows j)) (sym b) (Lawful-first_state Body))

module _ (position : ℕ) (rows : Rows Body) (jobs : List (Job Body)) (law : Lawful (state_of position rows jobs)) (room : position < MOST_COMMANDS) where
  abbrev s : State Body
  s = state_of position rows jobs

  stays : (left : Rows Body) (later : List (Job Body)) (c : Command Body) → Lawful (step s c) → state_of position left later ≡ change s c → Lawful (state_of (position + 1) left later)
  unfolding step
  stays left later c good is = subst Lawful (sym (ap (λ (t : State Body). record t { count = position + 1 }) is)) good

  -- ---- rows

  put_is : (path : AccountPath) (content_type : List ℕ) (body : Body) (number moment : ℕ) → number ≡ number_at position 0
      → state_of position (with_row rows path (entry.Object (put_object number body content_type None [] moment))) jobs ≡ change s (Put path content_type body None [] moment)
  unfolding change
  put_is path content_type body number moment same = ap (λ n. state_of position (with_row rows path (entry.Object (put_object n body content_type None [] moment))) jobs) same

  pub stays_put : (left : Rows Body) (path : AccountPath) (content_type : List ℕ) (body : Body) (number moment : ℕ) → IsPath path → number ≡ number_at position 0 → outside_jobs path (put_refusal rows path) ≡ None
      → left ≡ with_row rows path (entry.Object (put_object number body content_type None [] moment)) → Lawful (state_of (position + 1) left jobs)
  unfolding allowed
  stays_put left path content_type body number moment is_one same none is =
      stays left jobs (Put path content_type body None [] moment) (Lawful-put size s law path content_type body None [] moment is_one none)
      (ap (λ r. state_of position r jobs) is ∙ put_is path content_type body number moment same)

  directory_is : (path : AccountPath) (moment : ℕ) → state_of position (with_row rows path (entry.Directory moment)) jobs ≡ change s (MakeDirectory path moment)
  unfolding change
  directory_is path moment = refl

  pub stays_directory : (left : Rows Body) (path : AccountPath) (moment : ℕ) → IsPath path → outside_jobs path (make_directory_refusal rows path) ≡ None → left ≡ with_row rows path (entry.Directory moment) → Lawful (state_of (position + 1) left jobs)
  unfolding allowed
  stays_directory left path moment is_one none is =
      stays left jobs (MakeDirectory path moment) (Lawful-make_directory size s law path moment is_one none) (ap (λ r. state_of position r jobs) is ∙ directory_is path moment)

  -- ---- jobs

  pub all_sound : All Sound jobs
  all_sound = All-weaker (LawfulJob position) Sound (λ j l. l.sound) jobs law.jobs.each

  pub all_documents : All (λ j. IsDocument j.document) jobs
  all_documents = All-weaker (LawfulJob position) (λ j. IsDocument j.document) (λ j l. l.document) jobs law.jobs.each

  module _ (left : Rows Body) (later : List (Job Body)) where
    pub stays_made : (document : JobDocument) (moment : ℕ) → IsDocument document → new_job_refusal size rows document ≡ None → state_of position left later ≡ change s (NewJob document moment) → Lawful (state_of (position + 1) left later)
    unfolding allowed
    stays_made document moment made none is = stays left later (NewJob document moment) (Lawful-new_job size s law document moment made room none) is

    pub stays_added : (job : ℕ) (lines : List InputLine) (moment : ℕ) → AllByRecursion IsWellMadeLine lines → job_refusal (job_at jobs job) (add_inputs_refusal lines) ≡ None → state_of position left later ≡ change s (AddInputs job lines moment) → Lawful (state_of (position + 1) left later)
    unfolding allowed
    stays_added job lines moment made none is = stays left later (AddInputs job lines moment) (Lawful-add_inputs size s law job lines moment made none) is

    pub stays_ended : (job moment : ℕ) → job_refusal (job_at jobs job) input_refusal ≡ None → state_of position left later ≡ change s (EndInput job moment) → Lawful (state_of (position + 1) left later)
    unfolding allowed
    stays_ended job moment none is = stays left later (EndInput job moment) (Lawful-end_input size s law job moment none) is

    pub stays_committed : (job phase place : ℕ) (fate : Fate Body) (moment : ℕ) → IsWellMadeFate fate → job_refusal (job_at jobs job) (commit_refusal phase place) ≡ None → state_of position left later ≡ change s (Commit job phase place fate moment) → Lawful (state_of (position + 1) left later)
    unfolding allowed
    stays_committed job phase place fate moment made none is = stays left later (Commit job phase place fate moment) (Lawful-commit size s law job phase place fate moment made room none) is

    pub stays_finished : (job moment : ℕ) → job_refusal (job_at jobs job) finish_refusal ≡ None → state_of position left later ≡ change s (Finish job moment) → Lawful (state_of (position + 1) left later)
    unfolding allowed
    stays_finished job moment none is = stays left later (Finish job moment) (Lawful-finish size s law job moment none) is

    pub stays_cancelled : (job moment : ℕ) → job_refusal (job_at jobs job) running_refusal ≡ None → state_of position left later ≡ change s (Cancel job moment) → Lawful (state_of (position + 1) left later)
    unfolding allowed
    stays_cancelled job moment none is = stays left later (Cancel job moment) (Lawful-cancel size s law job moment none) is

    pub stays_closed : (job : ℕ) (cancelled : Bool) (archive : Archive Body) (moment : ℕ) → job_refusal (job_at jobs job) (close_refusal cancelled) ≡ None → state_of position left later ≡ change s (Close job cancelled archive moment) → Lawful (state_of (position + 1) left later)
    unfolding allowed
    stays_closed job cancelled archive moment none is = stays left later (Close job cancelled archive moment) (Lawful-close size s law job cancelled archive moment room none) is

-- a task that is ready has a job
pub ready_if : (o : Option (Job Body)) (phase place : ℕ) → option_map_or (λ j. is_ready j phase place) o false ≡ true → IfSome o (λ j. is_ready j phase place ≡ true)
ready_if None phase place is = tt
ready_if (Some job) phase place is = is
