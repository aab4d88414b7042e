-- Entries and ends that are taken from a list: what the tests say of the last job, and which lawful jobs go on so.
use Rattle.std.proofs.Common.{◌≡◌, ℕ, ◌<◌, ◌≤◌, Bool, true, false, not, ◌&&◌, nat_lt, List, [], ◌∷◌, ◌++◌, length, map, take, drop, Option, Some, None, refl, sym, ap, subst, ◌∙◌, append_assoc, true≢false}
use Rattle.std.specs.Prelude.{All, is_err}
use Rattle.std.specs.List.{slice_get}
use Rattle.std.specs.List.Sorted.{IsStrictlySortedBy}
use Rattle.std.specs.Option.{option_map_or}
use Rattle.std.specs.Ordering.{nat_cmp}
use Rattle.std.proofs.Math.Seq.{take-append_seam}
use Rattle.std.proofs.lemmas.Bool.{lt-ltb, ltb-true}
use Rattle.std.proofs.lemmas.List.{take-append-drop}
use Rattle.std.proofs.lemmas.List.Elements.{All-nil, All-push}
use Rattle.mt_types.specs.declared.command.Command.TheVariants.{EndInput}
use Rattle.mt_types.specs.declared.job.Job.{Job}
use Rattle.mt_types.specs.declared.job.TraceEntry.{TraceEntry}
use Rattle.mt_types.specs.declared.refusal.Refusal.{Refusal}
use Rattle.mt_types.specs.declared.refusal.Refusal.TheVariants.{AlreadyCommitted, JobState, NotATask, NotComplete}
use Rattle.mt_model.specs.Feed.{items_of}
use Rattle.mt_model.specs.JobSteps.{close_refusal, commit_refusal, done_at, input_refusal, job_refusal, with_end, with_entry}
use Rattle.mt_model.specs.Lawful.{LawfulItem, LawfulJob}
use Rattle.mt_model.specs.CommandStep.{change}
use Rattle.mt_model.specs.Rows.{Rows, first_refusal, refuse_if}
use Rattle.mt_model.specs.Sound.{before}
use Rattle.mt_model.specs.State.{State, job_at, with_job}
use Rattle.mt_model.specs.Tasks.{all_complete, is_committed, is_running, is_task, waits_finish}
use Rattle.mt_model.proofs.Entry.{sound_entry}
use Rattle.mt_model.proofs.LawfulEnds.{LawfulJob-closed}
use Rattle.mt_model.proofs.LawfulInputs.{LawfulJob-ended, and_both, and_left, and_right, open-allowed}
use Rattle.mt_model.proofs.Standing.{complete_closed}
use Rattle.mt_sched.specs.Plan.{is_task_in}
use Rattle.mt_sched.proofs.Plain.{task_plain}
use Rattle.mt_tree.specs.Answer.{answer}
use Rattle.mt_jobs.specs.Listed.{GoesOn, IsWellMadeEntry, NeverGoesOn, is_next_position, last_of}
use Rattle.mt_jobs.specs.Shown.{state_of}
use Rattle.mt_jobs.proofs.Heads.{All-behind, same_plan}
use Rattle.mt_jobs.proofs.Lasts.{all_below, last_below, last_found}

-- ---- lists

get_seam : {X : Type 0} (xs : List X) (x : X) (more : List X) → slice_get (xs ++ x ∷ more) (length xs) ≡ Some x
get_seam [] x more = refl
get_seam (y ∷ ys) x more = get_seam ys x more

some_last : {X : Type 0} (y : X) (ys : List X) → last_of (y ∷ ys) ≡ None → ⊥
some_last y [] none = cc
some_last y (z ∷ zs) none = some_last z zs none

-- ---- tests

none_refused : (r t c : Bool) → r ≡ true → t ≡ true → c ≡ false → first_refusal (refuse_if (not r) JobState) (first_refusal (refuse_if (not (r && t)) NotATask) (refuse_if c AlreadyCommitted)) ≡ None
none_refused true true false p q s = refl
none_refused true true true p q s = cc
none_refused true false c p q s = cc
none_refused false t c p q s = cc

not_done : (r w : Bool) (cancelled : Bool) → r ≡ true → (cancelled ≡ false → w ≡ true) → first_refusal (refuse_if (not r) JobState) (refuse_if (not cancelled && not w) NotComplete) ≡ None
not_done true true true p q = refl
not_done true true false p q = refl
not_done true false true p q = refl
not_done true false false p q = let never : false ≡ true = q refl in cc
not_done false w cancelled p q = cc

module _ {B : Type 0} where
  -- ---- an entry

  -- each entry is before a position that may be next
  before_case : (trace : List (TraceEntry B)) (position : ℕ) (o : Option (TraceEntry B)) → IsStrictlySortedBy nat_cmp (map (λ e. e.position) trace) → last_of trace ≡ o → option_map_or (λ e. nat_lt e.position position) o true ≡ true → All (λ e. e.position < position) trace
  before_case [] position None rising is above = All-nil (λ e. e.position < position)
  before_case (e ∷ es) position None rising is above = absurd (some_last e es is)
  before_case trace position (Some e) rising is above = all_below (λ (e : TraceEntry B). e.position) position trace e rising is (ltb-true e.position position above)

  -- an entry that passes the tests keeps a job lawful
  pub lawful_entered : (count : ℕ) (j : Job B) (e : TraceEntry B) → IsWellMadeEntry e → is_next_position count j.trace e.position ≡ true → commit_refusal e.phase e.place j ≡ None → LawfulJob count j → LawfulJob count (with_entry e j)
  lawful_entered count j e made next none law =
      let under : e.position < count = ltb-true e.position count (and_left (nat_lt e.position count) _ next) in
      let above : All (λ d. d.position < e.position) j.trace = before_case j.trace e.position (last_of j.trace) law.sound.rising refl (and_right (nat_lt e.position count) _ next) in
      record {
        number = law.number;
        positions = All-push (λ d. d.position < count) j.trace e law.positions under;
        few = law.few;
        inputs = law.inputs;
        missing = law.missing;
        few_each = All-push (λ d. length (items_of d.outcome) ≤ 4095) j.trace e law.few_each made.few;
        outputs = All-push (λ d. All LawfulItem (items_of d.outcome)) j.trace e law.outputs made.outputs;
        document = law.document;
        assets = law.assets;
        sound = sound_entry e.position j e none refl above law.sound;
      }

  same_task : (a b : Job B) (phase place : ℕ) → a.document ≡ b.document → a.inputs ≡ b.inputs → a.trace ≡ b.trace → a.ended ≡ b.ended → is_task a phase place ≡ is_task b phase place
  same_task a b phase place document inputs trace ended =
      sym (task_plain a phase place) ∙ ap (λ p. is_task_in p phase place) (same_plan a b document inputs trace ended) ∙ task_plain b phase place

  -- what stands in a lawful job that goes on with an entry
  module _ (count : ℕ) (j : Job B) (e : TraceEntry B) (job : Job B) (on : GoesOn (with_entry e j) job) (law : LawfulJob count job) where
    abbrev rest : List (TraceEntry B)
    rest = drop (length (j.trace ++ e ∷ [])) job.trace

    trace_is : job.trace ≡ j.trace ++ e ∷ rest
    trace_is =
        sym (take-append-drop (length (j.trace ++ e ∷ [])) job.trace)
        ∙ ap (λ l. l ++ rest) on.trace
        ∙ append_assoc j.trace (e ∷ []) rest

    there : slice_get job.trace (length j.trace) ≡ Some e
    there = ap (λ t. slice_get t (length j.trace)) trace_is ∙ get_seam j.trace e rest

    front : take (length j.trace) job.trace ≡ j.trace
    front = ap (take (length j.trace)) trace_is ∙ take-append_seam j.trace (e ∷ rest)

    task : is_task j e.phase e.place ≡ true
    task = sym (same_task (before job (length j.trace)) j e.phase e.place on.head.document on.head.inputs front on.ended) ∙ law.sound.tasks (length j.trace) e there

    free : is_committed j.trace e.phase e.place ≡ false
    free = sym (ap (λ t. is_committed t e.phase e.place) front) ∙ law.sound.once (length j.trace) e there

    pub goes_allowed : is_running j ≡ true → commit_refusal e.phase e.place j ≡ None
    goes_allowed runs = none_refused (is_running j) (is_task j e.phase e.place) (is_committed j.trace e.phase e.place) runs task free

    behind_case : (o : Option (TraceEntry B)) → last_of j.trace ≡ o → option_map_or (λ d. nat_lt d.position e.position) o true ≡ true
    behind_case None is = refl
    behind_case (Some d) is = lt-ltb d.position e.position (last_below (λ (x : TraceEntry B). x.position) j.trace e rest d (subst (λ (t : List (TraceEntry B)). IsStrictlySortedBy nat_cmp (map (λ x. x.position) t)) trace_is law.sound.rising) is)

    pub goes_next : is_next_position count j.trace e.position ≡ true
    goes_next = and_both (nat_lt e.position count) _ (lt-ltb e.position count (All-behind (λ (d : TraceEntry B). d.position < count) j.trace e rest (subst (All (λ (d : TraceEntry B). d.position < count)) trace_is law.positions))) (behind_case (last_of j.trace) refl)

  -- an entry that fails a test belongs to no lawful job
  pub never_next : (count : ℕ) (j : Job B) (e : TraceEntry B) → is_next_position count j.trace e.position ≡ false → NeverGoesOn count (with_entry e j)
  never_next count j e fails = λ job on law. true≢false (sym (goes_next count j e job on law) ∙ fails)

  pub never_allowed : (count : ℕ) (j : Job B) (e : TraceEntry B) → is_running j ≡ true → (commit_refusal e.phase e.place j ≡ None → ⊥) → NeverGoesOn count (with_entry e j)
  never_allowed count j e runs refused = λ job on law. refused (goes_allowed count j e job on law runs)

  -- ---- how it was done

  -- a lawful job that is done so may be closed before
  pub may_be_done : (count moment : ℕ) (cancelled : Bool) (j : Job B) → is_running j ≡ true → LawfulJob count (done_at moment cancelled j) → close_refusal cancelled j ≡ None
  may_be_done count moment cancelled j runs law =
      not_done (is_running j) (waits_finish j) cancelled runs
      (λ is. let complete = law.sound.finished refl is in and_both (is_running j && j.ended) (all_complete j) (and_both (is_running j) j.ended runs complete.0) complete.1)

  pub lawful_done : (count moment : ℕ) (cancelled : Bool) (j : Job B) → close_refusal cancelled j ≡ None → LawfulJob count j → LawfulJob count (done_at moment cancelled j)
  lawful_done count moment cancelled j none law = LawfulJob-closed count j moment cancelled (complete_closed j cancelled none) law

  pub lawful_ended : (count : ℕ) (j : Job B) → input_refusal j ≡ None → LawfulJob count j → LawfulJob count (with_end j)
  lawful_ended count j none law = LawfulJob-ended count j (open-allowed j none) law

  -- what the command that ends an input makes of the jobs
  pub jobs_ended : (rows : Rows B) (jobs later : List (Job B)) (job : ℕ) → state_of 0 rows later ≡ change (state_of 0 rows jobs) (EndInput job 0) → later ≡ with_job jobs job with_end
  unfolding change
  jobs_ended rows jobs later job is = ap (λ (s : State B). s.jobs) is

  -- ---- the refusal of a command on the last job

  pub last_refusal : (jobs : List (Job B)) (j : Job B) (test : Job B → Option Refusal) → IsStrictlySortedBy nat_cmp (map (λ x. x.number) jobs) → last_of jobs ≡ Some j → job_refusal (job_at jobs j.number) test ≡ test j
  last_refusal jobs j test rising is = ap (λ o. job_refusal o test) (last_found jobs j rising is)

-- what is answered without an error is not refused, and the other way round
pub allowed_if : (o : Option Refusal) → is_err (answer o) ≡ false → o ≡ None
allowed_if None is = refl
allowed_if (Some refusal) is = cc

pub refused_if : (o : Option Refusal) → is_err (answer o) ≡ true → o ≡ None → ⊥
refused_if None is none = cc
refused_if (Some refusal) is none = cc
