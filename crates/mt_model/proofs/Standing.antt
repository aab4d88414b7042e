-- What holds of the jobs of a history whatever their tasks made: their numbers rise, their traces are sound, and their
-- documents are documents.
use Rattle.std.proofs.Common.{◌≡◌, ℕ, ◌+◌, ◌<◌, ◌==◌, Bool, true, false, cond, ◌&&◌, List, [], ◌∷◌, ◌++◌, map, Option, Some, None, refl, sym, ap, subst, ◌∙◌, arith, true≢false, append-nil, append_assoc}
use Rattle.std.specs.Prelude.{All}
use Rattle.std.specs.Option.{unwrap_or}
use Rattle.std.specs.List.Sorted.{IsStrictlySortedBy}
use Rattle.std.specs.Ordering.{nat_cmp}
use Rattle.std.proofs.lemmas.Bool.{eqb-true}
use Rattle.std.proofs.lemmas.List.Elements.{All-nil, All-cons, All-head, All-tail, All-weaker, All-push}
use Rattle.mt_types.specs.WellMade.{IsDocument, IsWellMade}
use Rattle.mt_types.specs.declared.command.Command.{Command}
use Rattle.mt_types.specs.declared.command.Command.TheVariants.{Put, MakeDirectory, Link, Delete, NewJob, AddInputs, EndInput, Commit, Finish, Cancel, Close, NewUpload, PutPart, CommitUpload, AbortUpload}
use Rattle.mt_types.specs.declared.document.InputLine.{InputLine}
use Rattle.mt_types.specs.declared.document.InputLine.TheVariants.{Named, Other}
use Rattle.mt_types.specs.declared.document.JobDocument.{JobDocument}
use Rattle.mt_types.specs.declared.job.Item.{Item}
use Rattle.mt_types.specs.declared.job.Job.{Job}
use Rattle.mt_types.specs.declared.job.TraceEntry.{TraceEntry}
use Rattle.mt_types.specs.declared.object.Object.{Object}
use Rattle.mt_types.specs.declared.refusal.Refusal.{Refusal}
use Rattle.mt_types.specs.declared.task.Fate.{Fate}
use Rattle.mt_types.specs.declared.upload.Upload.{Upload}
use Rattle.mt_model.specs.CommandStep.{allowed, change, step}
use Rattle.mt_model.specs.JobSteps.{add_inputs_refusal, close_refusal, commit, commit_refusal, done_at, finish_refusal, input_refusal, job_refusal, new_job, resolve_task, running_refusal, with_end, with_entry, with_line, with_lines, with_named}
use Rattle.mt_model.specs.Lawful.{IsBelow}
use Rattle.mt_model.specs.Names.{number_at}
use Rattle.mt_model.specs.Rows.{Rows, object_at}
use Rattle.mt_model.specs.Sound.{Sound}
use Rattle.mt_model.specs.State.{State, first_state, job_at, upload_at, with_job}
use Rattle.mt_model.specs.Tasks.{all_complete, is_running, waits_finish}
use Rattle.mt_model.specs.UploadSteps.{commit_upload}
use Rattle.mt_model.proofs.Entry.{holds_if, sound_entry}
use Rattle.mt_model.proofs.LawfulEnds.{sound_done}
use Rattle.mt_model.proofs.LawfulInputs.{KeepsJob-end, KeepsJob-lines, and_left, and_right, lines_sound, open-allowed, sound_ended}
use Rattle.mt_model.proofs.LawfulEnds.{KeepsJob-done}
use Rattle.mt_model.proofs.LawfulJobs.{KeepsJob, found, same_numbers}
use Rattle.mt_model.proofs.LawfulNewJob.{all_numbers, sorted_nil, sorted_push}
use Rattle.mt_model.proofs.Maps.{map-append}
use Rattle.mt_model.proofs.RowLaws.{neither, not_refused}

module _ {B : Type 0} where
  -- the lines of a post grow the inputs alone
  pub record Posted (job later : Job B) : Type 0 where
    pub more : List (Item B)
    pub is : later ≡ record job { inputs = job.inputs ++ more; missing = later.missing }

  posted_none : (job : Job B) → Posted job job
  posted_none job = record { more = []; is = ap (λ i. record job { inputs = i }) (sym (append-nil job.inputs)) }

  posted_line : (rows : Rows B) (job : Job B) (l : InputLine) → Posted job (with_line rows job l)
  posted_line rows job (Named p) = by (object_at rows p)
    where
      by : (o : Option (Object B)) → Posted job (with_named p job o)
      by None = record { more = []; is = ap (λ i. record (with_named p job None) { inputs = i }) (sym (append-nil job.inputs)) }
      by (Some object) = record { more = _; is = refl }
  posted_line rows job (Other text) = record { more = []; is = ap (λ i. record (with_line rows job (Other text)) { inputs = i }) (sym (append-nil job.inputs)) }

  posted_on : (a b c : Job B) → Posted a b → Posted b c → Posted a c
  posted_on a b c p q = record {
    more = p.more ++ q.more;
    is = q.is ∙ ap {A = Job B} (λ j. record j { inputs = j.inputs ++ q.more; missing = c.missing }) p.is ∙ ap {A = List (Item B)} (λ i. record a { inputs = i; missing = c.missing }) (append_assoc a.inputs p.more q.more);
  }

  pub posted_lines : (rows : Rows B) (lines : List InputLine) (job : Job B) → Posted job (with_lines rows lines job)
  posted_lines rows [] job = posted_none job
  posted_lines rows (l ∷ ls) job = posted_on job (with_line rows job l) (with_lines rows ls (with_line rows job l)) (posted_line rows job l) (posted_lines rows ls (with_line rows job l))

  pub number_at_job : (n : ℕ) (jobs : List (Job B)) (j : Job B) → job_at jobs n ≡ Some j → j.number ≡ n
  number_at_job n [] j at = cc
  number_at_job n (x ∷ xs) j at = by (x.number == n) refl at (number_at_job n xs j)
    where
      by : (b : Bool) → x.number == n ≡ b → cond b (Some x) (job_at xs n) ≡ Some j → (job_at xs n ≡ Some j → j.number ≡ n) → j.number ≡ n
      by true is at more = ap (λ o. (unwrap_or o x).number) (sym at) ∙ eqb-true x.number n is
      by false is at more = more at

  pub record StandingJob (count : ℕ) (job : Job B) : Type 0 where
    pub number : IsBelow count job.number
    pub positions : All (λ e. e.position < count) job.trace
    pub sound : Sound job
    pub document : IsDocument job.document

  pub record Standing (count : ℕ) (jobs : List (Job B)) : Type 0 where
    pub rising : IsStrictlySortedBy nat_cmp (map (λ j. j.number) jobs)
    pub each : All (StandingJob count) jobs

  job_later : (n : ℕ) (j : Job B) → StandingJob n j → StandingJob (n + 1) j
  job_later n j s = record {
    number = let below : IsBelow n j.number = s.number in omega arith;
    positions = All-weaker (λ e. e.position < n) (λ e. e.position < n + 1) (λ e b. omega arith) j.trace s.positions;
    sound = s.sound;
    document = s.document;
  }

  later : (n : ℕ) (jobs : List (Job B)) → Standing n jobs → Standing (n + 1) jobs
  later n jobs s = record { rising = s.rising; each = All-weaker (StandingJob n) (StandingJob (n + 1)) (job_later n) jobs s.each }

  -- ---- a change of one job

  module _ (n number : ℕ) (f : Job B → Job B) where
    one_case : (j : Job B) (b : Bool) → j.number == number ≡ b → StandingJob n j → (j.number ≡ number → StandingJob n j → StandingJob (n + 1) (f j)) → StandingJob (n + 1) (cond b (f j) j)
    one_case j true is s good = good (eqb-true j.number number is) s
    one_case j false is s good = job_later n j s

    each_changed : (jobs : List (Job B)) → All (StandingJob n) jobs → All (λ j. j.number ≡ number → StandingJob n j → StandingJob (n + 1) (f j)) jobs → All (StandingJob (n + 1)) (with_job jobs number f)
    each_changed [] s good = All-nil (StandingJob (n + 1))
    each_changed (j ∷ js) s good =
        All-cons (StandingJob (n + 1)) (cond (j.number == number) (f j) j) (with_job js number f)
        (one_case j (j.number == number) refl (All-head (StandingJob n) j js s) (All-head (λ x. x.number ≡ number → StandingJob n x → StandingJob (n + 1) (f x)) j js good))
        (each_changed js (All-tail (StandingJob n) j js s) (All-tail (λ x. x.number ≡ number → StandingJob n x → StandingJob (n + 1) (f x)) j js good))

    changed : KeepsJob f → (jobs : List (Job B)) → Standing n jobs → All (λ j. j.number ≡ number → StandingJob n j → StandingJob (n + 1) (f j)) jobs → Standing (n + 1) (with_job jobs number f)
    changed keeps jobs s good = record {
      rising = subst (IsStrictlySortedBy nat_cmp) (sym (same_numbers number f keeps jobs)) s.rising;
      each = each_changed jobs s.each good;
    }

    -- by what was not refused
    allowed_change : KeepsJob f → (r : Job B → Option Refusal) (jobs : List (Job B)) → Standing n jobs → job_refusal (job_at jobs number) r ≡ None
        → ((j : Job B) → r j ≡ None → StandingJob n j → StandingJob (n + 1) (f j)) → Standing (n + 1) (with_job jobs number f)
    allowed_change keeps r jobs s e good =
        changed keeps jobs s
        (All-weaker (λ j. j.number ≡ number → r j ≡ None) (λ j. j.number ≡ number → StandingJob n j → StandingJob (n + 1) (f j))
        (λ j none same. good j (none same)) jobs (found number r jobs s.rising e))

  -- ---- each change

  new_standing : (n : ℕ) (rows : Rows B) (document : JobDocument) (moment : ℕ) → IsDocument document → StandingJob (n + 1) (new_job rows (number_at n 0) document moment)
  new_standing n rows document moment is = record {
    number = omega arith;
    positions = All-nil (λ e. e.position < n + 1);
    sound = record { tasks = λ k e is. cc; once = λ k e is. cc; rising = sorted_nil; finished = λ some. cc; cancelled = λ e. cc };
    document = is;
  }

  pushed : (n : ℕ) (jobs : List (Job B)) (j : Job B) → j.number ≡ number_at n 0 → StandingJob (n + 1) j → Standing n jobs → Standing (n + 1) (jobs ++ j ∷ [])
  pushed n jobs j at new s = record {
    rising = subst (IsStrictlySortedBy nat_cmp) (sym (map-append (λ (x : Job B). x.number) jobs (j ∷ [])))
        (sorted_push (map (λ (x : Job B). x.number) jobs) j.number s.rising (all_numbers (λ (x : Job B). x.number) j.number jobs
        (All-weaker (StandingJob n) (λ x. x.number < j.number) (λ x l. let under : IsBelow n x.number = l.number in omega arith) jobs s.each)));
    each = All-push (StandingJob (n + 1)) jobs j (All-weaker (StandingJob n) (StandingJob (n + 1)) (job_later n) jobs s.each) new;
  }

  lines_standing : (n : ℕ) (rows : Rows B) (lines : List InputLine) (j : Job B) → add_inputs_refusal lines j ≡ None → StandingJob n j → StandingJob (n + 1) (with_lines rows lines j)
  lines_standing n rows lines j none s =
      let p = posted_lines rows lines j in
      let l = job_later n j s in
      record {
        number = subst (IsBelow (n + 1)) (sym (ap (λ x. x.number) p.is)) l.number;
        positions = subst (All (λ e. e.position < n + 1)) (sym (ap (λ x. x.trace) p.is)) l.positions;
        sound = lines_sound rows lines j (open-allowed j (neither _ _ none).0) s.sound;
        document = subst IsDocument (sym (ap (λ x. x.document) p.is)) s.document;
      }

  ended_standing : (n : ℕ) (j : Job B) → input_refusal j ≡ None → StandingJob n j → StandingJob (n + 1) (with_end j)
  ended_standing n j none s =
      let l = job_later n j s in
      record { number = l.number; positions = l.positions; sound = sound_ended j (open-allowed j none) s.sound; document = s.document }

  done_standing : (n moment : ℕ) (cancelled : Bool) (j : Job B) → (cancelled ≡ false → (j.ended ≡ true) × (all_complete j ≡ true)) → StandingJob n j → StandingJob (n + 1) (done_at moment cancelled j)
  done_standing n moment cancelled j complete s =
      let l = job_later n j s in
      record { number = l.number; positions = l.positions; sound = sound_done j moment cancelled s.sound complete; document = s.document }

  pub waited : (j : Job B) → waits_finish j ≡ true → (j.ended ≡ true) × (all_complete j ≡ true)
  waited j waits = (and_right (is_running j) j.ended (and_left _ _ waits), and_right (is_running j && j.ended) _ waits)

  pub complete_closed : (j : Job B) (cancelled : Bool) → close_refusal cancelled j ≡ None → cancelled ≡ false → (j.ended ≡ true) × (all_complete j ≡ true)
  complete_closed j true none is = absurd (true≢false is)
  complete_closed j false none is = waited j (holds_if _ (not_refused _ _ (neither _ _ none).1))

  pub KeepsJob-entry : (e : TraceEntry B) → KeepsJob (with_entry e)
  KeepsJob-entry e = record { number = λ j. refl; done = λ j some. some }

  entry_standing : (n : ℕ) (e : TraceEntry B) (j : Job B) → e.position ≡ n → commit_refusal e.phase e.place j ≡ None → StandingJob n j → StandingJob (n + 1) (with_entry e j)
  entry_standing n e j at none s =
      let l = job_later n j s in
      record {
        number = l.number;
        positions = All-push (λ d. d.position < n + 1) j.trace e l.positions (omega (arith, at));
        sound = sound_entry n j e none at s.positions s.sound;
        document = s.document;
      }

  committed_standing : (s : State B) (number phase place : ℕ) (fate : Fate B) (moment : ℕ) → Standing s.count s.jobs → (o : Option (Job B)) → job_at s.jobs number ≡ o → job_refusal o (commit_refusal phase place) ≡ None
      → Standing (s.count + 1) (commit s o phase place fate moment).jobs
  committed_standing s number phase place fate moment stand None at none = later s.count s.jobs stand
  committed_standing s number phase place fate moment stand (Some j) at none =
      let e : TraceEntry B = record { phase = phase; place = place; position = s.count; outcome = (resolve_task s j phase place fate moment).outcome } in
      let same : j.number ≡ number = number_at_job number s.jobs j at in
      allowed_change s.count j.number (with_entry e) (KeepsJob-entry e) (commit_refusal phase place) s.jobs stand
      (ap (λ m. job_refusal (job_at s.jobs m) (commit_refusal phase place)) same ∙ ap (λ o. job_refusal o (commit_refusal phase place)) at ∙ none)
      (λ x r l. entry_standing s.count e x refl r l)

  pub uploaded : (s : State B) (o : Option (Upload B)) (body : B) (moment : ℕ) → (commit_upload s o body moment).jobs ≡ s.jobs
  uploaded s None body moment = refl
  uploaded s (Some u) body moment = refl

  pub standing_step : (size : B → ℕ) (s : State B) (c : Command B) → IsWellMade c → allowed size s c ≡ None → Standing s.count s.jobs → Standing (step s c).count (step s c).jobs
  unfolding allowed change step
  standing_step size s (Put path content_type body durability metadata moment) made none stand = later s.count s.jobs stand
  standing_step size s (MakeDirectory path moment) made none stand = later s.count s.jobs stand
  standing_step size s (Link path source moment) made none stand = later s.count s.jobs stand
  standing_step size s (Delete path moment) made none stand = later s.count s.jobs stand
  standing_step size s (NewJob document moment) made none stand =
      pushed s.count s.jobs (new_job s.rows (number_at s.count 0) document moment) refl (new_standing s.count s.rows document moment made) stand
  standing_step size s (AddInputs job lines moment) made none stand =
      allowed_change s.count job (with_lines s.rows lines) (KeepsJob-lines s.rows lines) (add_inputs_refusal lines) s.jobs stand none (lines_standing s.count s.rows lines)
  standing_step size s (EndInput job moment) made none stand =
      allowed_change s.count job with_end KeepsJob-end input_refusal s.jobs stand none (ended_standing s.count)
  standing_step size s (Commit job phase place fate moment) made none stand = committed_standing s job phase place fate moment stand (job_at s.jobs job) refl none
  standing_step size s (Finish job moment) made none stand =
      allowed_change s.count job (done_at moment false) (KeepsJob-done moment false) finish_refusal s.jobs stand none
      (λ j r l. done_standing s.count moment false j (λ is. waited j (holds_if _ (not_refused _ _ (neither _ _ r).1))) l)
  standing_step size s (Cancel job moment) made none stand =
      allowed_change s.count job (done_at moment true) (KeepsJob-done moment true) running_refusal s.jobs stand none
      (λ j r l. done_standing s.count moment true j (λ is. absurd (true≢false is)) l)
  standing_step size s (Close job cancelled archive moment) made none stand =
      allowed_change s.count job (done_at moment cancelled) (KeepsJob-done moment cancelled) (close_refusal cancelled) s.jobs stand none
      (λ j r l. done_standing s.count moment cancelled j (complete_closed j cancelled r) l)
  standing_step size s (NewUpload path content_type moment) made none stand = later s.count s.jobs stand
  standing_step size s (PutPart upload index body moment) made none stand = later s.count s.jobs stand
  standing_step size s (CommitUpload upload parts body moment) made none stand =
      subst (Standing (s.count + 1)) (sym (uploaded s (upload_at s.uploads upload) body moment)) (later s.count s.jobs stand)
  standing_step size s (AbortUpload upload moment) made none stand = later s.count s.jobs stand

  -- ---- the first state

  pub first_standing : Standing (first_state {B = B}).count (first_state {B = B}).jobs
  first_standing = record { rising = sorted_nil; each = All-nil (StandingJob 0) }
