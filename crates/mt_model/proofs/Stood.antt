-- Each entry of a trace has its commit in the history.
use Rattle.std.proofs.Common.{◌≡◌, ℕ, ◌+◌, ◌<◌, ◌≤◌, ◌==◌, Bool, true, false, cond, List, [], ◌∷◌, ◌++◌, length, map, Option, Some, None, refl, sym, ap, subst, ◌∙◌, arith, true≢false, append-nil, append_assoc, eq-eqb, ◌⊎◌, inl, inr}
use Rattle.std.specs.Prelude.{take, All}
use Rattle.std.specs.List.{slice_get}
use Rattle.std.specs.Option.{unwrap_or}
use Rattle.std.proofs.lemmas.Bool.{eqb-true, cases_lt}
use Rattle.std.proofs.lemmas.List.{take-append-le}
use Rattle.std.proofs.Math.Seq.{take-append_seam}
use Rattle.std.proofs.lemmas.Option.{slice_get_within}
use Rattle.std.proofs.lemmas.List.Elements.{All-nil, All-cons, All-head, All-tail, All-weaker, All-push}
use Rattle.mt_types.specs.WellMade.{IsWellMade}
use Rattle.mt_types.specs.declared.command.Command.{Command}
use Rattle.mt_types.specs.declared.limits.TheConstants.{MOST_COMMANDS}
use Rattle.mt_types.specs.declared.command.Command.TheVariants.{Put, MakeDirectory, Link, Delete, NewJob, AddInputs, EndInput, Commit, Finish, Cancel, Close, NewUpload, PutPart, CommitUpload, AbortUpload}
use Rattle.mt_types.specs.declared.document.Phase.{Phase}
use Rattle.mt_types.specs.declared.job.Item.{Item}
use Rattle.mt_types.specs.declared.job.Job.{Job}
use Rattle.mt_types.specs.declared.job.TraceEntry.{TraceEntry}
use Rattle.mt_types.specs.declared.task.Fate.{Fate}
use Rattle.mt_types.specs.declared.task.Raw.{Raw}
use Rattle.mt_types.specs.declared.task.Run.{Run}
use Rattle.mt_model.specs.CommandStep.{allowed, change, replay, step}
use Rattle.mt_model.specs.Feed.{feed}
use Rattle.mt_model.specs.JobSteps.{add_inputs_refusal, commit, commit_refusal, done_at, input_refusal, job_refusal, resolve_task, task_root, with_end, with_entry, with_lines}
use Rattle.mt_model.specs.Lawful.{Lawful, LawfulJob}
use Rattle.mt_model.specs.Resolve.{Committing, OutputsStand, Resolved, resolve}
use Rattle.mt_model.specs.State.{State, first_state, job_at, with_job}
use Rattle.mt_model.specs.Tasks.{is_task, root_at}
use Rattle.mt_model.specs.Honest.{Bytes, CameOfChild, Honest, HonestFrom, IsHonest, MayGive, OfFound}
use Rattle.mt_model.proofs.Standing.{Posted, Standing, first_standing, number_at_job, posted_lines, standing_step, uploaded}
use Rattle.mt_model.proofs.LawfulClose.{job_in}
use Rattle.mt_model.proofs.LawfulCommit.{task_good}
use Rattle.mt_model.proofs.LawfulHistories.{lawful_honest}
use Rattle.mt_model.proofs.OutputsLaw.{numbered_start}
use Rattle.mt_model.proofs.OutputsStay.{resolve_stands}
use Rattle.mt_model.proofs.Same.{IsEarlier}
use Rattle.mt_model.proofs.Entry.{holds_if, last_case}
use Rattle.mt_model.proofs.LawfulJobs.{found}
use Rattle.mt_model.proofs.LawfulInputs.{or_none}
use Rattle.mt_model.proofs.LawfulInputs.{and_right}
use Rattle.mt_model.proofs.RowLaws.{neither, not_refused}
use Rattle.mt_model.specs.Tasks.{is_running, may_run}
use Rattle.std.specs.List.{AllByRecursion}
use Rattle.std.specs.List.Sorted.{IsStrictlySortedBy}
use Rattle.std.specs.Option.{option_map}
use Rattle.std.specs.Ordering.{nat_cmp}
use Rattle.std.specs.declared.cmp.Ordering.TheVariants.{Less}
use Rattle.std.proofs.lemmas.Cmp.{nat_cmp_total, tied_itself}
use Rattle.std.proofs.lemmas.Map.Keys.{sorted_head, sorted_tail}
use Rattle.mt_model.specs.State.{upload_at}

-- ---- histories by their last command

replay-last : (s : State Bytes) (h : List (Command Bytes)) (c : Command Bytes) → replay s (h ++ c ∷ []) ≡ step (replay s h) c
unfolding replay
replay-last s [] c = refl
replay-last s (d ∷ h) c = replay-last (step s d) h c

count-replay : (s : State Bytes) (h : List (Command Bytes)) → (replay s h).count ≡ s.count + length h
unfolding replay step
count-replay s [] = omega arith
count-replay s (d ∷ h) = let more = count-replay (step s d) h in omega (arith, more)

-- ---- what a later value of a job keeps

pub record Grows (job later : Job Bytes) : Type 0 where
  pub number : later.number ≡ job.number
  pub document : later.document ≡ job.document
  pub assets : later.assets ≡ job.assets
  pub more : List (Item Bytes)
  pub inputs : later.inputs ≡ job.inputs ++ more
  pub rest : List (TraceEntry Bytes)
  pub trace : later.trace ≡ job.trace ++ rest
  pub all_in : job.ended ≡ true → later.inputs ≡ job.inputs
  pub ended : job.ended ≡ true → later.ended ≡ true

pub same_job : (job : Job Bytes) → Grows job job
same_job job = record { number = refl; document = refl; assets = refl; more = []; inputs = sym (append-nil job.inputs); rest = []; trace = sym (append-nil job.trace); all_in = λ e. refl; ended = λ e. e }

pub posted_grows : (job later : Job Bytes) → job.ended ≡ false → Posted job later → Grows job later
posted_grows job later free p = record {
  number = ap (λ j. j.number) p.is;
  document = ap (λ j. j.document) p.is;
  assets = ap (λ j. j.assets) p.is;
  more = p.more;
  inputs = ap (λ j. j.inputs) p.is;
  rest = [];
  trace = ap (λ j. j.trace) p.is ∙ sym (append-nil job.trace);
  all_in = λ e. absurd (true≢false (sym e ∙ free));
  ended = λ e. absurd (true≢false (sym e ∙ free));
}

pub ended_grows : (job : Job Bytes) → Grows job (with_end job)
ended_grows job = record { number = refl; document = refl; assets = refl; more = []; inputs = sym (append-nil job.inputs); rest = []; trace = sym (append-nil job.trace); all_in = λ e. refl; ended = λ e. refl }

pub done_grows : (moment : ℕ) (cancelled : Bool) (job : Job Bytes) → Grows job (done_at moment cancelled job)
done_grows moment cancelled job = record { number = refl; document = refl; assets = refl; more = []; inputs = sym (append-nil job.inputs); rest = []; trace = sym (append-nil job.trace); all_in = λ e. refl; ended = λ e. e }

pub entry_grows : (e : TraceEntry Bytes) (job : Job Bytes) → Grows job (with_entry e job)
entry_grows e job = record { number = refl; document = refl; assets = refl; more = []; inputs = sym (append-nil job.inputs); rest = e ∷ []; trace = refl; all_in = λ e. refl; ended = λ e. e }

pub earlier_on : (j job later : Job Bytes) (k : ℕ) → k ≤ length job.trace → IsEarlier j k job → Grows job later → IsEarlier j k later
earlier_on j job later k le e g = record {
  number = e.number ∙ sym g.number;
  document = e.document ∙ sym g.document;
  assets = e.assets ∙ sym g.assets;
  more = e.more ++ g.more;
  inputs = g.inputs ∙ ap (λ i. i ++ g.more) e.inputs ∙ append_assoc j.inputs e.more g.more;
  trace = e.trace ∙ sym (take-append-le k job.trace g.rest le) ∙ ap (take k) (sym g.trace);
  all_in = λ is. g.all_in (e.ended is) ∙ e.all_in is;
  ended = λ is. g.ended (e.ended is);
}

zero_more : (n : ℕ) → 0 + n ≡ n
zero_more n = omega arith

-- ---- the job of a number

both : {X : Type 0} (P Q R : X → Type 0) → ((x : X) → P x → Q x → R x) → (xs : List X) → All P xs → All Q xs → All R xs
both P Q R each [] a b = All-nil R
both P Q R each (x ∷ xs) a b = All-cons R x xs (each x (All-head P x xs a) (All-head Q x xs b)) (both P Q R each xs (All-tail P x xs a) (All-tail Q x xs b))

never_later : (n : ℕ) (xs : List (Job Bytes)) → AllByRecursion (λ y. nat_cmp n y ≡ Less) (map (λ j. j.number) xs) → All (λ y. y.number ≡ n → ⊥) xs
never_later n [] a = All-nil (λ y. y.number ≡ n → ⊥)
never_later n (y ∷ ys) a =
    All-cons (λ y. y.number ≡ n → ⊥) y ys
    (λ e. let same : nat_cmp n n ≡ Less = subst (λ m. nat_cmp n m ≡ Less) e a.0 in let tied = tied_itself nat_cmp_total n in cc)
    (never_later n ys a.1)

found_at : (n : ℕ) (jobs : List (Job Bytes)) → IsStrictlySortedBy nat_cmp (map (λ j. j.number) jobs) → All (λ x. x.number ≡ n → job_at jobs n ≡ Some x) jobs
found_at n [] s = All-nil (λ x. x.number ≡ n → job_at [] n ≡ Some x)
found_at n (x ∷ xs) s = by (x.number == n) refl (found_at n xs (sorted_tail nat_cmp x.number (map (λ j. j.number) xs) s))
  where
    by : (b : Bool) → x.number == n ≡ b → All (λ y. y.number ≡ n → job_at xs n ≡ Some y) xs → All (λ y. y.number ≡ n → job_at (x ∷ xs) n ≡ Some y) (x ∷ xs)
    by true is more =
        All-cons (λ y. y.number ≡ n → job_at (x ∷ xs) n ≡ Some y) x xs (λ e. ap (λ b. cond b (Some x) (job_at xs n)) is)
        (All-weaker (λ y. y.number ≡ n → ⊥) (λ y. y.number ≡ n → job_at (x ∷ xs) n ≡ Some y) (λ y never e. absurd (never e)) xs
        (never_later n xs (subst (λ m. AllByRecursion (λ y. nat_cmp m y ≡ Less) (map (λ j. j.number) xs)) (eqb-true x.number n is) (sorted_head nat_cmp x.number (map (λ j. j.number) xs) s))))
    by false is more =
        All-cons (λ y. y.number ≡ n → job_at (x ∷ xs) n ≡ Some y) x xs (λ e. absurd (true≢false (sym (eq-eqb x.number n e) ∙ is)))
        (All-weaker (λ y. y.number ≡ n → job_at xs n ≡ Some y) (λ y. y.number ≡ n → job_at (x ∷ xs) n ≡ Some y) (λ y at e. ap (λ b. cond b (Some x) (job_at xs n)) is ∙ at e) xs more)

pub some_job : (x j : Job Bytes) → Some x ≡ Some j → x ≡ j
some_job x j e = ap (λ o. unwrap_or o x) e

-- a command that is well made, behind a history that leads to a lawful state with room for it
record IsTaken (h : List (Command Bytes)) (c : Command Bytes) : Type 0 where
  lawful : Lawful (replay first_state h)
  room : (replay first_state h).count < MOST_COMMANDS
  made : IsWellMade c

module _ (login : List ℕ) (gives : Run → Bytes → Raw → Type 0) (fate_of : Raw → Fate Bytes) where
  -- the commit of an entry, in the history, and the job as it was then
  pub record Stood (h : List (Command Bytes)) (job : Job Bytes) (k : ℕ) (e : TraceEntry Bytes) : Type 0 where
    pub before : List (Command Bytes)
    pub after : List (Command Bytes)
    pub raw : Raw
    pub moment : ℕ
    pub j : Job Bytes
    pub p : Phase
    pub stands : h ≡ before ++ Commit job.number e.phase e.place (fate_of raw) moment ∷ after
    pub position : e.position ≡ length before
    pub earlier : IsEarlier j k job
    pub has : slice_get j.document.phases e.phase ≡ Some p
    pub task : is_task j e.phase e.place ≡ true
    pub given : MayGive login gives fate_of j e.phase e.place p (feed j e.phase) raw
    pub held : OutputsStand (replay first_state (before ++ Commit job.number e.phase e.place (fate_of raw) moment ∷ [])).rows (fate_of raw) e.outcome
    pub outcome : e.outcome ≡ (resolve (record { job = j.number; phase = e.phase; root = root_at p.kind (feed j e.phase) e.place; position = e.position; moment = moment }) (replay first_state before).rows (fate_of raw)).outcome

  -- each entry of the trace of a job has one
  abbrev pub HasStood : List (Command Bytes) → Job Bytes → Type 0
  HasStood h job = (k : ℕ) (e : TraceEntry Bytes) → slice_get job.trace k ≡ Some e → Stood h job k e

  stood_on : (h : List (Command Bytes)) (c : Command Bytes) (job later : Job Bytes) (k : ℕ) (e : TraceEntry Bytes) → k < length job.trace → Grows job later → Stood h job k e → Stood (h ++ c ∷ []) later k e
  stood_on h c job later k e less g t = record {
    before = t.before;
    after = t.after ++ c ∷ [];
    raw = t.raw;
    moment = t.moment;
    j = t.j;
    p = t.p;
    stands = ap (λ x. x ++ c ∷ []) t.stands ∙ append_assoc t.before (Commit job.number e.phase e.place (fate_of t.raw) t.moment ∷ t.after) (c ∷ [])
        ∙ ap (λ n. t.before ++ Commit n e.phase e.place (fate_of t.raw) t.moment ∷ (t.after ++ c ∷ [])) (sym g.number);
    position = t.position;
    earlier = earlier_on t.j job later k (omega (arith, less)) t.earlier g;
    has = t.has;
    task = t.task;
    given = t.given;
    held = subst (λ n. OutputsStand (replay first_state (t.before ++ Commit n e.phase e.place (fate_of t.raw) t.moment ∷ [])).rows (fate_of t.raw) e.outcome) (sym g.number) t.held;
    outcome = t.outcome;
  }

  -- where the trace stays
  has_stood_on : (h : List (Command Bytes)) (c : Command Bytes) (job later : Job Bytes) → Grows job later → later.trace ≡ job.trace → HasStood h job → HasStood (h ++ c ∷ []) later
  has_stood_on h c job later g same t k e at =
      let there : slice_get job.trace k ≡ Some e = ap (λ x. slice_get x k) (sym same) ∙ at in
      stood_on h c job later k e (slice_get_within job.trace k e there) g (t k e there)

  all_on : (h : List (Command Bytes)) (c : Command Bytes) (jobs : List (Job Bytes)) → All (HasStood h) jobs → All (HasStood (h ++ c ∷ [])) jobs
  all_on h c jobs all = All-weaker (HasStood h) (HasStood (h ++ c ∷ [])) (λ job t. has_stood_on h c job job (same_job job) refl t) jobs all

  -- ---- a change of one job

  one_case : (h : List (Command Bytes)) (c : Command Bytes) (number : ℕ) (f : Job Bytes → Job Bytes) (job : Job Bytes) (b : Bool) → job.number == number ≡ b → (job.number ≡ number → HasStood (h ++ c ∷ []) (f job)) → HasStood h job → HasStood (h ++ c ∷ []) (cond b (f job) job)
  one_case h c number f job true is changed t = changed (eqb-true job.number number is)
  one_case h c number f job false is changed t = has_stood_on h c job job (same_job job) refl t

  all_changed : (h : List (Command Bytes)) (c : Command Bytes) (number : ℕ) (f : Job Bytes → Job Bytes) (jobs : List (Job Bytes)) → All (λ job. job.number ≡ number → HasStood (h ++ c ∷ []) (f job)) jobs → All (HasStood h) jobs → All (HasStood (h ++ c ∷ [])) (with_job jobs number f)
  all_changed h c number f [] changed all = All-nil (HasStood (h ++ c ∷ []))
  all_changed h c number f (job ∷ jobs) changed all =
      All-cons (HasStood (h ++ c ∷ [])) (cond (job.number == number) (f job) job) (with_job jobs number f)
      (one_case h c number f job (job.number == number) refl (All-head (λ j. j.number ≡ number → HasStood (h ++ c ∷ []) (f j)) job jobs changed) (All-head (HasStood h) job jobs all))
      (all_changed h c number f jobs (All-tail (λ j. j.number ≡ number → HasStood (h ++ c ∷ []) (f j)) job jobs changed) (All-tail (HasStood h) job jobs all))

  -- ---- one more command

  -- the entry of a commit
  abbrev entry_of : State Bytes → Job Bytes → ℕ → ℕ → Fate Bytes → ℕ → TraceEntry Bytes
  entry_of s j phase place fate moment = record { phase = phase; place = place; position = s.count; outcome = (resolve_task s j phase place fate moment).outcome }

  -- the rows behind it, at which the outputs stand
  committed_rows : (h : List (Command Bytes)) (number phase place : ℕ) (fate : Fate Bytes) (moment : ℕ) (j : Job Bytes) → job_at (replay first_state h).jobs number ≡ Some j
      → (replay first_state (h ++ Commit number phase place fate moment ∷ [])).rows ≡ (resolve_task (replay first_state h) j phase place fate moment).rows
  unfolding change step
  committed_rows h number phase place fate moment j at =
      ap (λ s. s.rows) (replay-last first_state h (Commit number phase place fate moment)) ∙ ap (λ o. (commit (replay first_state h) o phase place fate moment).rows) at

  commit_stands : (h : List (Command Bytes)) (number phase place : ℕ) (fate : Fate Bytes) (moment : ℕ) (j : Job Bytes) → job_at (replay first_state h).jobs number ≡ Some j → IsTaken h (Commit number phase place fate moment) → commit_refusal phase place j ≡ None
      → OutputsStand (replay first_state (h ++ Commit number phase place fate moment ∷ [])).rows fate (resolve_task (replay first_state h) j phase place fate moment).outcome
  commit_stands h number phase place fate moment j at taken none =
      let s : State Bytes = replay first_state h in
      let law : Lawful s = taken.lawful in
      let l : LawfulJob s.count j = job_in number s.jobs j at (LawfulJob s.count) law.jobs.each in
      let task = task_good s.count j l phase place none in
      let few : phase < 16 = (let under = task.few in let most = l.document.few in omega (arith, under, most)) in
      let c : Committing = record { job = j.number; phase = phase; root = task_root j phase place; position = s.count; moment = moment } in
      let r : Resolved Bytes = resolve_task s j phase place fate moment in
      subst (λ rows. OutputsStand rows fate r.outcome) (sym (committed_rows h number phase place fate moment j at))
      (resolve_stands c few task.root_is.component task.root_is.short taken.room s.rows (numbered_start s law) fate taken.made)

  new_stood : (h : List (Command Bytes)) (number phase place : ℕ) (fate : Fate Bytes) (moment : ℕ) (j : Job Bytes) → job_at (replay first_state h).jobs number ≡ Some j → IsTaken h (Commit number phase place fate moment) → j.number ≡ number → commit_refusal phase place j ≡ None → CameOfChild login gives fate_of j phase place fate
      → let e : TraceEntry Bytes = entry_of (replay first_state h) j phase place fate moment in Stood (h ++ Commit number phase place fate moment ∷ []) (with_entry e j) (length j.trace) e
  new_stood h number phase place fate moment j at taken same none came =
      let s : State Bytes = replay first_state h in
      let e : TraceEntry Bytes = entry_of s j phase place fate moment in
      let parts = neither _ _ none in
      let more = neither _ _ parts.1 in
      let may : may_run j phase place ≡ true = holds_if _ (not_refused _ _ more.0) in
      let start : s.count ≡ length h = count-replay first_state h ∙ zero_more (length h) in
      record {
        before = h;
        after = [];
        raw = came.raw;
        moment = moment;
        j = j;
        p = came.of_phase;
        stands = ap (λ n. h ++ Commit n phase place fate moment ∷ []) (sym same) ∙ ap (λ f. h ++ Commit j.number phase place f moment ∷ []) came.judged;
        position = start;
        earlier = record { number = refl; document = refl; assets = refl; more = []; inputs = sym (append-nil j.inputs); trace = sym (take-append_seam j.trace (e ∷ [])); all_in = λ is. refl; ended = λ is. is };
        has = came.has;
        task = and_right (is_running j) _ may;
        given = came.given;
        held =
            subst (λ f. OutputsStand (replay first_state (h ++ Commit j.number phase place f moment ∷ [])).rows f e.outcome) came.judged
            (subst (λ n. OutputsStand (replay first_state (h ++ Commit n phase place fate moment ∷ [])).rows fate e.outcome) (sym same) (commit_stands h number phase place fate moment j at taken none));
        outcome =
            ap (λ o. (resolve (record { job = j.number; phase = phase; root = unwrap_or (option_map (λ p. root_at p.kind (feed j phase) place) o) []; position = s.count; moment = moment }) s.rows fate).outcome) came.has
            ∙ ap (λ f. (resolve (record { job = j.number; phase = phase; root = root_at came.of_phase.kind (feed j phase) place; position = s.count; moment = moment }) s.rows f).outcome) came.judged;
      }

  entry_stood : (h : List (Command Bytes)) (number phase place : ℕ) (fate : Fate Bytes) (moment : ℕ) (j : Job Bytes) → job_at (replay first_state h).jobs number ≡ Some j → IsTaken h (Commit number phase place fate moment) → j.number ≡ number → commit_refusal phase place j ≡ None → CameOfChild login gives fate_of j phase place fate
      → HasStood h j → HasStood (h ++ Commit number phase place fate moment ∷ []) (with_entry (entry_of (replay first_state h) j phase place fate moment) j)
  entry_stood h number phase place fate moment j there taken same none came t k d at = by (cases_lt k (length j.trace))
    where
      by : (k < length j.trace) ⊎ (length j.trace ≤ k) → Stood (h ++ Commit number phase place fate moment ∷ []) (with_entry (entry_of (replay first_state h) j phase place fate moment) j) k d
      by (inl less) =
          let e : TraceEntry Bytes = entry_of (replay first_state h) j phase place fate moment in
          stood_on h (Commit number phase place fate moment) j (with_entry e j) k d less (entry_grows e j) (t k d ((last_case j.trace e d k at).0 less))
      by (inr le) =
          let e : TraceEntry Bytes = entry_of (replay first_state h) j phase place fate moment in
          let m = (last_case j.trace e d k at).1 le in
          subst (λ x. Stood (h ++ Commit number phase place fate moment ∷ []) (with_entry e j) x d) (sym m.0)
          (subst (λ x. Stood (h ++ Commit number phase place fate moment ∷ []) (with_entry e j) (length j.trace) x) (sym m.1) (new_stood h number phase place fate moment j there taken same none came))

  commit_stood : (h : List (Command Bytes)) (number phase place : ℕ) (fate : Fate Bytes) (moment : ℕ) → IsTaken h (Commit number phase place fate moment) → IsStrictlySortedBy nat_cmp (map (λ j. j.number) (replay first_state h).jobs)
      → (o : Option (Job Bytes)) → job_at (replay first_state h).jobs number ≡ o → job_refusal o (commit_refusal phase place) ≡ None → OfFound (λ j. CameOfChild login gives fate_of j phase place fate) o
      → All (HasStood h) (replay first_state h).jobs → All (HasStood (h ++ Commit number phase place fate moment ∷ [])) (commit (replay first_state h) o phase place fate moment).jobs
  commit_stood h number phase place fate moment taken rising None at none came all = all_on h (Commit number phase place fate moment) (replay first_state h).jobs all
  commit_stood h number phase place fate moment taken rising (Some j) at none came all =
      let s : State Bytes = replay first_state h in
      let c : Command Bytes = Commit number phase place fate moment in
      let e : TraceEntry Bytes = entry_of s j phase place fate moment in
      let same : j.number ≡ number = number_at_job number s.jobs j at in
      let ats : All (λ x. x.number ≡ number → job_at s.jobs number ≡ Some x) s.jobs = found_at number s.jobs rising in
      all_changed h c j.number (with_entry e) s.jobs
      (both (λ x. x.number ≡ number → job_at s.jobs number ≡ Some x) (HasStood h) (λ x. x.number ≡ j.number → HasStood (h ++ c ∷ []) (with_entry e x))
      (λ x is t e'. let one : j ≡ x = some_job j x (sym at ∙ is (e' ∙ same)) in
      subst (λ y. HasStood (h ++ c ∷ []) (with_entry e y)) one (entry_stood h number phase place fate moment j at taken same none came (subst (HasStood h) (sym one) t)))
      s.jobs ats all) all

  abbrev KeepsOne : ℕ → (Job Bytes → Job Bytes) → Job Bytes → Type 0
  KeepsOne number f j = j.number ≡ number → Grows j (f j) × ((f j).trace ≡ j.trace)

  -- a change of one job that grows it and leaves its trace
  job_stood : (h : List (Command Bytes)) (c : Command Bytes) (number : ℕ) (f : Job Bytes → Job Bytes) (jobs : List (Job Bytes)) → All (λ j. j.number ≡ number → Grows j (f j) × ((f j).trace ≡ j.trace)) jobs → All (HasStood h) jobs → All (HasStood (h ++ c ∷ [])) (with_job jobs number f)
  job_stood h c number f jobs grows all =
      all_changed h c number f jobs
      (both (λ j. j.number ≡ number → Grows j (f j) × ((f j).trace ≡ j.trace)) (HasStood h) (λ j. j.number ≡ number → HasStood (h ++ c ∷ []) (f j))
      (λ j g t e. has_stood_on h c j (f j) (g e).0 (g e).1 t) jobs grows all) all

  each_job : (P : Job Bytes → Type 0) → ((j : Job Bytes) → P j) → (jobs : List (Job Bytes)) → All P jobs
  each_job P p [] = All-nil P
  each_job P p (j ∷ js) = All-cons P j js (p j) (each_job P p js)

  open_input : (j : Job Bytes) → input_refusal j ≡ None → j.ended ≡ false
  open_input j none = (or_none j.ended _ (not_refused _ _ none)).0

  step_stood : (h : List (Command Bytes)) (c : Command Bytes) → IsTaken h c → IsStrictlySortedBy nat_cmp (map (λ j. j.number) (replay first_state h).jobs)
      → allowed length (replay first_state h) c ≡ None → IsHonest login gives fate_of (replay first_state h) c → All (HasStood h) (replay first_state h).jobs → All (HasStood (h ++ c ∷ [])) (step (replay first_state h) c).jobs
  unfolding allowed change step
  step_stood h (Put path content_type body durability metadata moment) taken rising none honest all = all_on h (Put path content_type body durability metadata moment) (replay first_state h).jobs all
  step_stood h (MakeDirectory path moment) taken rising none honest all = all_on h (MakeDirectory path moment) (replay first_state h).jobs all
  step_stood h (Link path source moment) taken rising none honest all = all_on h (Link path source moment) (replay first_state h).jobs all
  step_stood h (Delete path moment) taken rising none honest all = all_on h (Delete path moment) (replay first_state h).jobs all
  step_stood h (NewJob document moment) taken rising none honest all =
      All-push (HasStood (h ++ NewJob document moment ∷ [])) (replay first_state h).jobs _ (all_on h (NewJob document moment) (replay first_state h).jobs all) (λ k e at. cc)
  step_stood h (AddInputs job lines moment) taken rising none honest all =
      job_stood h (AddInputs job lines moment) job (with_lines (replay first_state h).rows lines) (replay first_state h).jobs
      (All-weaker (λ j. j.number ≡ job → add_inputs_refusal lines j ≡ None) (λ j. j.number ≡ job → Grows j (with_lines (replay first_state h).rows lines j) × ((with_lines (replay first_state h).rows lines j).trace ≡ j.trace))
      (λ j r e. let p = posted_lines (replay first_state h).rows lines j in (posted_grows j (with_lines (replay first_state h).rows lines j) (open_input j (neither _ _ (r e)).0) p, ap (λ x. x.trace) p.is))
      (replay first_state h).jobs (found job (add_inputs_refusal lines) (replay first_state h).jobs rising none)) all
  step_stood h (EndInput job moment) taken rising none honest all =
      job_stood h (EndInput job moment) job with_end (replay first_state h).jobs (each_job (KeepsOne job with_end) (λ j e. (ended_grows j, refl)) (replay first_state h).jobs) all
  step_stood h (Commit job phase place fate moment) taken rising none honest all =
      commit_stood h job phase place fate moment taken rising (job_at (replay first_state h).jobs job) refl none honest all
  step_stood h (Finish job moment) taken rising none honest all =
      job_stood h (Finish job moment) job (done_at moment false) (replay first_state h).jobs (each_job (KeepsOne job (done_at moment false)) (λ j e. (done_grows moment false j, refl)) (replay first_state h).jobs) all
  step_stood h (Cancel job moment) taken rising none honest all =
      job_stood h (Cancel job moment) job (done_at moment true) (replay first_state h).jobs (each_job (KeepsOne job (done_at moment true)) (λ j e. (done_grows moment true j, refl)) (replay first_state h).jobs) all
  step_stood h (Close job cancelled archive moment) taken rising none honest all =
      job_stood h (Close job cancelled archive moment) job (done_at moment cancelled) (replay first_state h).jobs (each_job (KeepsOne job (done_at moment cancelled)) (λ j e. (done_grows moment cancelled j, refl)) (replay first_state h).jobs) all
  step_stood h (NewUpload path content_type moment) taken rising none honest all = all_on h (NewUpload path content_type moment) (replay first_state h).jobs all
  step_stood h (PutPart upload index body moment) taken rising none honest all = all_on h (PutPart upload index body moment) (replay first_state h).jobs all
  step_stood h (CommitUpload upload parts body moment) taken rising none honest all =
      subst (All (HasStood (h ++ CommitUpload upload parts body moment ∷ []))) (sym (uploaded (replay first_state h) (upload_at (replay first_state h).uploads upload) body moment)) (all_on h (CommitUpload upload parts body moment) (replay first_state h).jobs all)
  step_stood h (AbortUpload upload moment) taken rising none honest all = all_on h (AbortUpload upload moment) (replay first_state h).jobs all

  -- ---- a whole history, from a front of it on

  pub front_honest : (s : State Bytes) (h cs : List (Command Bytes)) → HonestFrom login gives fate_of s (h ++ cs) → HonestFrom login gives fate_of (replay s h) cs
  unfolding HonestFrom replay
  front_honest s [] cs honest = honest
  front_honest s (d ∷ h) cs honest = front_honest (step s d) h cs honest.1

  pub short_honest : (s : State Bytes) (h cs : List (Command Bytes)) → HonestFrom login gives fate_of s (h ++ cs) → HonestFrom login gives fate_of s h
  unfolding HonestFrom
  short_honest s [] cs honest = tt
  short_honest s (d ∷ h) cs honest = (honest.0, short_honest (step s d) h cs honest.1)

  pub honest_on : (s : State Bytes) (h cs : List (Command Bytes)) → HonestFrom login gives fate_of s h → HonestFrom login gives fate_of (replay s h) cs → HonestFrom login gives fate_of s (h ++ cs)
  unfolding HonestFrom replay
  honest_on s [] cs honest more = more
  honest_on s (d ∷ h) cs honest more = (honest.0, honest_on (step s d) h cs honest.1 more)

  -- the jobs stand
  stand_from : (s : State Bytes) (h : List (Command Bytes)) → HonestFrom login gives fate_of s h → Standing s.count s.jobs → Standing (replay s h).count (replay s h).jobs
  unfolding HonestFrom replay
  stand_from s [] honest stand = stand
  stand_from s (d ∷ h) honest stand = stand_from (step s d) h honest.1 (standing_step length s d honest.0.made honest.0.free stand)

  pub all_stand : (h : List (Command Bytes)) → Honest login gives fate_of h → Standing (replay first_state h).count (replay first_state h).jobs
  all_stand h honest = stand_from first_state h honest first_standing

  stood_from : (h cs : List (Command Bytes)) → Honest login gives fate_of (h ++ cs) → All (HasStood h) (replay first_state h).jobs → All (HasStood (h ++ cs)) (replay first_state (h ++ cs)).jobs
  unfolding HonestFrom
  stood_from h [] honest all = subst (λ x. All (HasStood x) (replay first_state x).jobs) (sym (append-nil h)) all
  stood_from h (c ∷ cs) honest all =
      let after = front_honest first_state h (c ∷ cs) honest in
      let before = short_honest first_state h (c ∷ cs) honest in
      let rising = (all_stand h before).rising in
      let taken : IsTaken h c = record { lawful = lawful_honest login gives fate_of h before; room = after.0.room; made = after.0.made } in
      let one = step_stood h c taken rising after.0.free after.0.honest all in
      let next : All (HasStood (h ++ c ∷ [])) (replay first_state (h ++ c ∷ [])).jobs = subst (λ t. All (HasStood (h ++ c ∷ [])) t.jobs) (sym (replay-last first_state h c)) one in
      let same : h ++ c ∷ [] ++ cs ≡ h ++ c ∷ cs = append_assoc h (c ∷ []) cs in
      subst (λ x. All (HasStood x) (replay first_state x).jobs) same (stood_from (h ++ c ∷ []) cs (subst (Honest login gives fate_of) (sym same) honest) next)

  pub all_stood : (h : List (Command Bytes)) → Honest login gives fate_of h → All (HasStood h) (replay first_state h).jobs
  unfolding replay
  all_stood h honest = stood_from [] h honest (All-nil (HasStood []))

-- ---- of children that may give more

module _ (login : List ℕ) (few more : Run → Bytes → Raw → Type 0) (fate_of : Raw → Fate Bytes) (wider : (run : Run) (input : Bytes) (raw : Raw) → few run input raw → more run input raw) where
  came_wider : (phase place : ℕ) (fate : Fate Bytes) (o : Option (Job Bytes)) → OfFound (λ j. CameOfChild login few fate_of j phase place fate) o → OfFound (λ j. CameOfChild login more fate_of j phase place fate) o
  came_wider phase place fate None came = tt
  came_wider phase place fate (Some j) came = record { of_phase = came.of_phase; raw = came.raw; has = came.has; given = wider _ _ came.raw came.given; judged = came.judged }

  command_wider : (s : State Bytes) (c : Command Bytes) → IsHonest login few fate_of s c → IsHonest login more fate_of s c
  command_wider s (Put path content_type body durability metadata moment) is = tt
  command_wider s (MakeDirectory path moment) is = tt
  command_wider s (Link path source moment) is = tt
  command_wider s (Delete path moment) is = tt
  command_wider s (NewJob document moment) is = tt
  command_wider s (AddInputs job lines moment) is = tt
  command_wider s (EndInput job moment) is = tt
  command_wider s (Commit job phase place fate moment) is = came_wider phase place fate (job_at s.jobs job) is
  command_wider s (Finish job moment) is = tt
  command_wider s (Cancel job moment) is = tt
  command_wider s (Close job cancelled archive moment) is = tt
  command_wider s (NewUpload path content_type moment) is = tt
  command_wider s (PutPart upload index body moment) is = tt
  command_wider s (CommitUpload upload parts body moment) is = is
  command_wider s (AbortUpload upload moment) is = tt

  pub honest_wider : (s : State Bytes) (h : List (Command Bytes)) → HonestFrom login few fate_of s h → HonestFrom login more fate_of s h
  unfolding HonestFrom
  honest_wider s [] honest = tt
  honest_wider s (c ∷ cs) honest =
      (record { room = honest.0.room; made = honest.0.made; free = honest.0.free; honest = command_wider s c honest.0.honest }, honest_wider (step s c) cs honest.1)
