-- The inputs of a job are what was posted.
use Rattle.std.proofs.Common.{◌≡◌, ℕ, ◌+◌, ◌*◌, ◌<◌, ◌≤◌, ◌==◌, Bool, true, false, cond, List, [], ◌∷◌, ◌++◌, Option, Some, None, refl, sym, ap, subst, ◌∙◌, arith, append-nil, append_assoc, eq-eqb, ne_eqb}
use Rattle.std.specs.Prelude.{All}
use Rattle.std.specs.List.{cons_option}
use Rattle.std.specs.Option.{option_map}
use Rattle.std.proofs.lemmas.Bool.{eqb-true}
use Rattle.std.proofs.lemmas.List.Elements.{All-nil, All-cons, All-head, All-tail, All-weaker, All-push}
use Rattle.mt_path.specs.AccountPath.{AccountPath}
use Rattle.mt_types.specs.declared.command.Command.{Command}
use Rattle.mt_types.specs.declared.command.Command.TheVariants.{Put, MakeDirectory, Link, Delete, NewJob, AddInputs, EndInput, Commit, Finish, Cancel, Close, NewUpload, PutPart, CommitUpload, AbortUpload}
use Rattle.mt_types.specs.declared.document.InputLine.{InputLine}
use Rattle.mt_types.specs.declared.document.InputLine.TheVariants.{Named, Other}
use Rattle.mt_types.specs.declared.job.Item.{Item}
use Rattle.mt_types.specs.declared.job.Job.{Job}
use Rattle.mt_types.specs.declared.object.Object.{Object}
use Rattle.mt_types.specs.declared.task.Fate.{Fate}
use Rattle.mt_types.specs.declared.limits.TheConstants.{NUMBERS_A_COMMAND}
use Rattle.mt_model.specs.CommandStep.{allowed, change, replay, step}
use Rattle.mt_model.specs.JobSteps.{add_inputs_refusal, commit, done_at, job_refusal, resolve_task, with_end, with_entry, with_line, with_lines, with_named}
use Rattle.mt_model.specs.Laws.{TakenFrom}
use Rattle.mt_model.specs.Names.{number_at, root_of_input}
use Rattle.mt_model.specs.Posted.{input_of_line, inputs_of_lines, posted_by, posted_from}
use Rattle.mt_model.specs.Rows.{Rows, object_at}
use Rattle.mt_model.specs.State.{State, first_state, job_at, upload_at, with_job}
use Rattle.mt_model.proofs.LawfulClose.{job_in}
use Rattle.mt_model.proofs.LawfulInputs.{KeepsJob-lines}
use Rattle.mt_model.proofs.Replays.{replay_more}
use Rattle.mt_model.proofs.Standing.{Standing, StandingJob, first_standing, number_at_job, standing_step, uploaded}

module _ {B : Type 0} where
  -- ---- the lines of one post

  named_inputs : (p : AccountPath) (j : Job B) (rest : List (Item B)) (o : Option (Object B))
      → (with_named p j o).inputs ++ rest ≡ j.inputs ++ cons_option (option_map (λ x. record { name = p; root = root_of_input p; body = x.body; reducer = None }) o) rest
  named_inputs p j rest None = refl
  named_inputs p j rest (Some x) = append_assoc j.inputs (record { name = p; root = root_of_input p; body = x.body; reducer = None } ∷ []) rest

  line_inputs : (rows : Rows B) (j : Job B) (rest : List (Item B)) (l : InputLine) → (with_line rows j l).inputs ++ rest ≡ j.inputs ++ cons_option (input_of_line rows l) rest
  line_inputs rows j rest (Named p) = named_inputs p j rest (object_at rows p)
  line_inputs rows j rest (Other text) = refl

  lines_inputs : (rows : Rows B) (lines : List InputLine) (j : Job B) → (with_lines rows lines j).inputs ≡ j.inputs ++ inputs_of_lines rows lines
  lines_inputs rows [] j = sym (append-nil j.inputs)
  lines_inputs rows (l ∷ ls) j = lines_inputs rows ls (with_line rows j l) ∙ line_inputs rows j (inputs_of_lines rows ls) l

  -- ---- a history with one command more

  posted_last : (s : State B) (h : List (Command B)) (c : Command B) (n : ℕ) → posted_from s (h ++ c ∷ []) n ≡ posted_from s h n ++ posted_by (replay s h) c n
  unfolding posted_from replay
  posted_last s [] c n = append-nil (posted_by s c n)
  posted_last s (d ∷ h) c n = ap (λ l. posted_by s d n ++ l) (posted_last (step s d) h c n) ∙ sym (append_assoc (posted_by s d n) (posted_from (step s d) h n) (posted_by (replay (step s d) h) c n))

  -- the inputs of each job are what was posted to it, and nothing was posted to a number that is still to come
  record Posts (h : List (Command B)) (count : ℕ) (jobs : List (Job B)) : Type 0 where
    each : All (λ j. j.inputs ≡ posted_from first_state h j.number) jobs
    none : (n : ℕ) → count * NUMBERS_A_COMMAND ≤ n → posted_from first_state h n ≡ []

  -- over a command that posts nothing
  module _ (h : List (Command B)) (c : Command B) (quiet : (n : ℕ) → posted_by (replay first_state h) c n ≡ []) where
    same_posts : (n : ℕ) → posted_from first_state (h ++ c ∷ []) n ≡ posted_from first_state h n
    same_posts n = posted_last first_state h c n ∙ ap (λ l. posted_from first_state h n ++ l) (quiet n) ∙ append-nil (posted_from first_state h n)

    abbrev Before : Job B → Type 0
    Before j = j.inputs ≡ posted_from first_state h j.number

    abbrev After : Job B → Type 0
    After j = j.inputs ≡ posted_from first_state (h ++ c ∷ []) j.number

    on : (j : Job B) → Before j → After j
    on j is = is ∙ sym (same_posts j.number)

    none_on : (count : ℕ) (jobs : List (Job B)) → Posts h count jobs → (n : ℕ) → (count + 1) * NUMBERS_A_COMMAND ≤ n → posted_from first_state (h ++ c ∷ []) n ≡ []
    none_on count jobs p n le = same_posts n ∙ p.none n (omega (arith, le))

    quiet_posts : (count : ℕ) (jobs : List (Job B)) → Posts h count jobs → Posts (h ++ c ∷ []) (count + 1) jobs
    quiet_posts count jobs p = record { each = All-weaker Before After on jobs p.each; none = none_on count jobs p }

    -- and changes one job but for its number and its inputs
    changed_one : (f : Job B → Job B) → ((j : Job B) → (f j).number ≡ j.number) → ((j : Job B) → (f j).inputs ≡ j.inputs) → (j : Job B) (b : Bool) → Before j → After (cond b (f j) j)
    changed_one f number inputs j true is = inputs j ∙ on j is ∙ ap (posted_from first_state (h ++ c ∷ [])) (sym (number j))
    changed_one f number inputs j false is = on j is

    changed_all : (m : ℕ) (f : Job B → Job B) → ((j : Job B) → (f j).number ≡ j.number) → ((j : Job B) → (f j).inputs ≡ j.inputs) → (jobs : List (Job B)) → All Before jobs → All After (with_job jobs m f)
    changed_all m f number inputs [] all = All-nil After
    changed_all m f number inputs (j ∷ js) all =
        All-cons After (cond (j.number == m) (f j) j) (with_job js m f) (changed_one f number inputs j (j.number == m) (All-head Before j js all)) (changed_all m f number inputs js (All-tail Before j js all))

    job_posts : (m : ℕ) (f : Job B → Job B) → ((j : Job B) → (f j).number ≡ j.number) → ((j : Job B) → (f j).inputs ≡ j.inputs) → (count : ℕ) (jobs : List (Job B)) → Posts h count jobs → Posts (h ++ c ∷ []) (count + 1) (with_job jobs m f)
    job_posts m f number inputs count jobs p = record { each = changed_all m f number inputs jobs p.each; none = none_on count jobs p }

    commit_posts : (s : State B) (o : Option (Job B)) (phase place : ℕ) (fate : Fate B) (moment count : ℕ) → Posts h count s.jobs → Posts (h ++ c ∷ []) (count + 1) (commit s o phase place fate moment).jobs
    commit_posts s None phase place fate moment count p = quiet_posts count s.jobs p
    commit_posts s (Some j) phase place fate moment count p =
        job_posts j.number (with_entry (record { phase = phase; place = place; position = s.count; outcome = (resolve_task s j phase place fate moment).outcome })) (λ x. refl) (λ x. refl) count s.jobs p

    new_posts : (count : ℕ) (jobs : List (Job B)) (j : Job B) → j.number ≡ number_at count 0 → j.inputs ≡ [] → Posts h count jobs → Posts (h ++ c ∷ []) (count + 1) (jobs ++ j ∷ [])
    new_posts count jobs j number inputs p = record {
      each = All-push After jobs j (All-weaker Before After on jobs p.each) (inputs ∙ sym (same_posts j.number ∙ p.none j.number (omega (arith, number))));
      none = none_on count jobs p;
    }

  -- ---- a post

  module _ (h : List (Command B)) (job : ℕ) (lines : List InputLine) (moment : ℕ) where
    abbrev rows : Rows B
    rows = (replay first_state h).rows

    abbrev post : Command B
    post = AddInputs job lines moment

    abbrev Held : Job B → Type 0
    Held j = j.inputs ≡ posted_from first_state h j.number

    abbrev HeldNow : Job B → Type 0
    HeldNow j = j.inputs ≡ posted_from first_state (h ++ post ∷ []) j.number

    posted_here : (n : ℕ) (b : Bool) → job == n ≡ b → posted_from first_state (h ++ post ∷ []) n ≡ posted_from first_state h n ++ cond b (inputs_of_lines rows lines) []
    posted_here n b is = posted_last first_state h post n ∙ ap (λ t. posted_from first_state h n ++ cond t (inputs_of_lines rows lines) []) is

    line_case : (j : Job B) (b : Bool) → j.number == job ≡ b → Held j → HeldNow (cond b (with_lines rows lines j) j)
    line_case j true is held =
        let own : job == j.number ≡ true = eq-eqb job j.number (sym (eqb-true j.number job is)) in
        let number : (with_lines rows lines j).number ≡ j.number = (KeepsJob-lines rows lines).number j in
        lines_inputs rows lines j ∙ ap (λ l. l ++ inputs_of_lines rows lines) held ∙ sym (posted_here j.number true own) ∙ ap (posted_from first_state (h ++ post ∷ [])) (sym number)
    line_case j false is held =
        held ∙ sym (posted_here j.number false (ne_eqb job j.number (λ e. other e is)) ∙ append-nil (posted_from first_state h j.number))
      where
        other : job ≡ j.number → j.number == job ≡ false → ⊥
        other e is = let yes : j.number == job ≡ true = eq-eqb j.number job (sym e) in cc

    all_lines : (jobs : List (Job B)) → All Held jobs → All HeldNow (with_job jobs job (with_lines rows lines))
    all_lines [] all = All-nil HeldNow
    all_lines (j ∷ js) all =
        All-cons HeldNow (cond (j.number == job) (with_lines rows lines j) j) (with_job js job (with_lines rows lines)) (line_case j (j.number == job) refl (All-head Held j js all)) (all_lines js (All-tail Held j js all))

    found_below : (count : ℕ) (jobs : List (Job B)) → Standing count jobs → (o : Option (Job B)) → job_at jobs job ≡ o → job_refusal o (add_inputs_refusal lines) ≡ None → job < count * NUMBERS_A_COMMAND
    found_below count jobs stand None at none = cc
    found_below count jobs stand (Some j) at none =
        let s : StandingJob count j = job_in job jobs j at (StandingJob count) stand.each in
        let below : j.number < count * NUMBERS_A_COMMAND = s.number in
        let same : j.number ≡ job = number_at_job job jobs j at in
        omega (arith, below, same)

    lines_posts : (count : ℕ) (jobs : List (Job B)) → Standing count jobs → job_refusal (job_at jobs job) (add_inputs_refusal lines) ≡ None → Posts h count jobs → Posts (h ++ post ∷ []) (count + 1) (with_job jobs job (with_lines rows lines))
    lines_posts count jobs stand none p =
        let below = found_below count jobs stand (job_at jobs job) refl none in
        record {
          each = all_lines jobs p.each;
          none = λ n le. posted_here n false (ne_eqb job n (λ e. omega (arith, e, le, below))) ∙ append-nil (posted_from first_state h n) ∙ p.none n (omega (arith, le));
        }

  -- ---- each command

  step_posts : (size : B → ℕ) (h : List (Command B)) (c : Command B) → allowed size (replay first_state h) c ≡ None → Standing (replay first_state h).count (replay first_state h).jobs
      → Posts h (replay first_state h).count (replay first_state h).jobs → Posts (h ++ c ∷ []) (step (replay first_state h) c).count (step (replay first_state h) c).jobs
  unfolding allowed change step
  step_posts size h (Put path content_type body durability metadata moment) none stand p = quiet_posts h (Put path content_type body durability metadata moment) (λ n. refl) _ _ p
  step_posts size h (MakeDirectory path moment) none stand p = quiet_posts h (MakeDirectory path moment) (λ n. refl) _ _ p
  step_posts size h (Link path source moment) none stand p = quiet_posts h (Link path source moment) (λ n. refl) _ _ p
  step_posts size h (Delete path moment) none stand p = quiet_posts h (Delete path moment) (λ n. refl) _ _ p
  step_posts size h (NewJob document moment) none stand p = new_posts h (NewJob document moment) (λ n. refl) _ _ _ refl refl p
  step_posts size h (AddInputs job lines moment) none stand p = lines_posts h job lines moment _ _ stand none p
  step_posts size h (EndInput job moment) none stand p = job_posts h (EndInput job moment) (λ n. refl) job with_end (λ j. refl) (λ j. refl) _ _ p
  step_posts size h (Commit job phase place fate moment) none stand p = commit_posts h (Commit job phase place fate moment) (λ n. refl) (replay first_state h) (job_at (replay first_state h).jobs job) phase place fate moment _ p
  step_posts size h (Finish job moment) none stand p = job_posts h (Finish job moment) (λ n. refl) job (done_at moment false) (λ j. refl) (λ j. refl) _ _ p
  step_posts size h (Cancel job moment) none stand p = job_posts h (Cancel job moment) (λ n. refl) job (done_at moment true) (λ j. refl) (λ j. refl) _ _ p
  step_posts size h (Close job cancelled archive moment) none stand p = job_posts h (Close job cancelled archive moment) (λ n. refl) job (done_at moment cancelled) (λ j. refl) (λ j. refl) _ _ p
  step_posts size h (NewUpload path content_type moment) none stand p = quiet_posts h (NewUpload path content_type moment) (λ n. refl) _ _ p
  step_posts size h (PutPart upload index body moment) none stand p = quiet_posts h (PutPart upload index body moment) (λ n. refl) _ _ p
  step_posts size h (CommitUpload upload parts body moment) none stand p =
      let s : State B = replay first_state h in
      subst (Posts (h ++ CommitUpload upload parts body moment ∷ []) (s.count + 1)) (sym (uploaded s (upload_at s.uploads upload) body moment)) (quiet_posts h (CommitUpload upload parts body moment) (λ n. refl) _ _ p)
  step_posts size h (AbortUpload upload moment) none stand p = quiet_posts h (AbortUpload upload moment) (λ n. refl) _ _ p

  module _ (size : B → ℕ) where
    -- what is known behind a front of a history
    record Known (h : List (Command B)) (s : State B) : Type 0 where
      stand : Standing s.count s.jobs
      posts : Posts h s.count s.jobs

    known_from : (h cs : List (Command B)) → Known h (replay first_state h) → TakenFrom size (replay first_state h) cs → Known (h ++ cs) (replay first_state (h ++ cs))
    unfolding TakenFrom
    known_from h [] known taken = subst (λ x. Known x (replay first_state x)) (sym (append-nil h)) known
    known_from h (c ∷ cs) known taken =
        let s : State B = replay first_state h in
        let one : Known (h ++ c ∷ []) (step s c) = record { stand = standing_step size s c taken.1 taken.2 known.stand; posts = step_posts size h c taken.2 known.stand known.posts } in
        let next : replay first_state (h ++ c ∷ []) ≡ step s c = replay_more first_state h c in
        let same : h ++ c ∷ [] ++ cs ≡ h ++ c ∷ cs = append_assoc h (c ∷ []) cs in
        subst (λ x. Known x (replay first_state x)) same
        (known_from (h ++ c ∷ []) cs (subst (Known (h ++ c ∷ [])) (sym next) one) (subst (λ t. TakenFrom size t cs) (sym next) taken.3))

    pub inputs_posted : (h : List (Command B)) → TakenFrom size first_state h → All (λ j. j.inputs ≡ posted_from first_state h j.number) (replay first_state h).jobs
    unfolding replay posted_from
    inputs_posted h taken = (known_from [] h (record { stand = first_standing; posts = record { each = All-nil (λ (j : Job B). j.inputs ≡ posted_from first_state [] j.number); none = λ n le. refl } }) taken).posts.each
