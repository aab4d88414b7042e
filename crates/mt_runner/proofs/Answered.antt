-- What the answer of a turn says, from what the turn did.
use Rattle.std.proofs.Common.{◌≡◌, ◌≢◌, ◌⊎◌, inl, inr, ◌==◌, ℕ, ◌+◌, ◌<◌, ◌≤◌, min, Bool, true, false, not, ◌&&◌, List, [], ◌∷◌, ◌++◌, length, map, refl, ap, sym, subst, ◌∙◌, arith, length-append, Option, Some, None, ⊎_elim}
use Rattle.std.specs.Prelude.{cond, filter, is_some, ◌||◌}
use Rattle.std.specs.List.{AllByRecursion, AllZip, Contains, list_any}
use Rattle.std.specs.Option.{option_map_or}
use Rattle.std.proofs.lemmas.List.Folds.{list_any-append}
use Rattle.mt_base.specs.Counts.{NeverFell, Rose, RoseBy}
use Rattle.mt_types.specs.declared.body.Body.{Body}
use Rattle.mt_types.specs.declared.command.Command.TheVariants.{Commit}
use Rattle.mt_types.specs.declared.job.Job.{Job}
use Rattle.mt_types.specs.declared.job.Task.{Task}
use Rattle.mt_types.specs.declared.job.TraceEntry.{TraceEntry}
use Rattle.mt_types.specs.declared.task.Fate.{Fate}
use Rattle.mt_model.specs.CommandStep.{change, step}
use Rattle.mt_model.specs.JobSteps.{commit, resolve_task, with_entry}
use Rattle.mt_model.specs.Lawful.{Lawful}
use Rattle.mt_model.specs.State.{State, job_at, with_job}
use Rattle.mt_model.specs.Tasks.{is_committed, is_ready, may_run}
use Rattle.mt_sched.specs.Plan.{first_but, has_task}
use Rattle.mt_sched.proofs.Ready.{ready_tasks_are_ready}
use Rattle.mt_spawn.specs.Children.{Child}
use Rattle.mt_opening.specs.Current.{EngineState}
use Rattle.mt_tasks.specs.Standing.{is_ready_in, ready_tasks, waiting}
use Rattle.mt_tasks.specs.Adding as adding
use Rattle.mt_runner.specs.Attempts.{AreOf, Attempt, HasWaited, attempts, number_of, started_of, the_task}
use Rattle.mt_runner.specs.Attends.{Attends, Ended, Finishes, Live, Lost, NothingReady, SameOrClosed, Stopped, Took, Tried, Unheard, Waiting, WorkSide, Works, attempts_in, is_ready_now, ready_of}
use Rattle.mt_runner.specs.ByAnswer.{Company, GoesOn, HasTicket, IsLoss, OneFewer}
use Rattle.mt_runner.specs.Progress.{Progress, Progressed}
use Rattle.mt_runner.specs.declared.runner.Started.{Started}
use Rattle.mt_runner.specs.declared.turn.Turn.{Turn}
use Rattle.mt_runner.specs.declared.turn.Turn.TheVariants as turn
use Rattle.mt_runner.proofs.Lists.{In, any_in, in_from, in_mapped}
use Rattle.mt_runner.proofs.Progressing.{ended_ready, has_some, lost_ready, some_next}
use Rattle.mt_runner.proofs.Standing.{not_both}

-- ---- the engine

module _ {F : Type 0} (slots now : ℕ) where
  goes_works : (xs : List (Attempt F)) (old : WorkSide F) (end : Turn) (new : WorkSide F) → old.engine.log.closed ≡ false → Works slots now xs old end new → GoesOn end new.engine.log.closed
  goes_works xs old (turn.Closed n) new is_open w = absurd w
  goes_works xs old (turn.Committed t) new is_open w = w.4
  goes_works xs old turn.Idle new is_open w = ap (λ (e : EngineState). e.log.closed) w.1 ∙ is_open
  goes_works xs old turn.NotYet new is_open w = ap (λ (e : EngineState). e.log.closed) w.3 ∙ is_open
  goes_works xs old turn.SpawnFault new is_open w = ap (λ (e : EngineState). e.log.closed) w.4 ∙ is_open
  goes_works xs old turn.Full new is_open w = ap (λ (e : EngineState). e.log.closed) w.3 ∙ is_open
  goes_works xs old turn.Disk new is_open w = tt
  goes_works xs old turn.Memory new is_open w = tt

  goes_finishes : (n : ℕ) (xs : List (Attempt F)) (old : WorkSide F) (end : Turn) (new : WorkSide F) → old.engine.log.closed ≡ false → Finishes n now xs old end new → GoesOn end new.engine.log.closed
  goes_finishes n xs old (turn.Closed m) new is_open w = w.3
  goes_finishes n xs old (turn.Committed t) new is_open w = absurd w
  goes_finishes n xs old turn.Idle new is_open w = absurd w
  goes_finishes n xs old turn.NotYet new is_open w = absurd w
  goes_finishes n xs old turn.SpawnFault new is_open w = absurd w
  goes_finishes n xs old turn.Full new is_open w = ap (λ (e : EngineState). e.log.closed) w.1 ∙ is_open
  goes_finishes n xs old turn.Disk new is_open w = tt
  goes_finishes n xs old turn.Memory new is_open w = tt

  pub goes_by : (old : WorkSide F) (end : Turn) (new : WorkSide F) → old.engine.log.closed ≡ false → Attends slots now old end new → GoesOn end new.engine.log.closed
  goes_by old end new is_open a =
      let mid : a.mid.engine.log.closed ≡ false = ap (λ (e : EngineState). e.log.closed) a.engine ∙ is_open in
      ⊎_elim (λ f. goes_finishes f.0 (attempts_in a.mid) a.mid end new mid f.2) (λ k. goes_works (attempts_in a.mid) a.mid end new mid k.1) a.does

pub open_by : (end : Turn) (closed : Bool) → GoesOn end closed → end ≢ turn.Disk → end ≢ turn.Memory → closed ≡ false
open_by (turn.Closed n) closed g disk memory = g
open_by (turn.Committed t) closed g disk memory = g
open_by turn.Idle closed g disk memory = g
open_by turn.NotYet closed g disk memory = g
open_by turn.SpawnFault closed g disk memory = g
open_by turn.Full closed g disk memory = g
open_by turn.Disk closed g disk memory = absurd (disk refl)
open_by turn.Memory closed g disk memory = absurd (memory refl)

-- ---- company, and one fewer

module _ {F : Type 0} (slots : ℕ) (s : State Body) (old new : WorkSide F) where
  pub company_by : (end : Turn) → Progress slots s old end new → Company slots s old.seen.company end new.seen.company
  company_by (turn.Closed n) p = p.1
  company_by (turn.Committed t) p = p.1
  company_by turn.Idle p = p.2
  company_by turn.NotYet p = p.3
  company_by turn.SpawnFault p = p.3
  company_by turn.Full p = p.0
  company_by turn.Disk p = ⊎_elim (λ r. inl r) (λ h. inr h.0) p.1
  company_by turn.Memory p = p

  pub fewer_by : (end : Turn) → Progress slots s old end new → OneFewer slots s end new.kept
  fewer_by (turn.Closed n) p = tt
  fewer_by (turn.Committed t) p = p.2
  fewer_by turn.Idle p = tt
  fewer_by turn.NotYet p = tt
  fewer_by turn.SpawnFault p = tt
  fewer_by turn.Full p = tt
  fewer_by turn.Disk p = tt
  fewer_by turn.Memory p = tt

  pub disk_by : (end : Turn) → Progress slots s old end new → end ≡ turn.Disk → Rose old.disk_faults new.disk_faults
  disk_by (turn.Closed n) p is = cc
  disk_by (turn.Committed t) p is = cc
  disk_by turn.Idle p is = cc
  disk_by turn.NotYet p is = cc
  disk_by turn.SpawnFault p is = cc
  disk_by turn.Full p is = cc
  disk_by turn.Disk p is = p.0
  disk_by turn.Memory p is = cc

-- ---- an idle turn

pub idle_by : {F : Type 0} (slots : ℕ) (s : State Body) (old new : WorkSide F) (end : Turn) → Progress slots s old end new → end ≡ turn.Idle → (waiting s ≡ None) × (ready_tasks s ≡ [])
idle_by {F} slots s old new end p is = let q : Progress slots s old turn.Idle new = subst (λ (e : Turn). Progress slots s old e new) is p in (q.0, q.1)

no_number : {X : Type 0} (o : Option ℕ) (n : ℕ) → o ≡ Some n → o ≡ None → X
no_number o n some none = let bad : None ≡ Some n = sym none ∙ some in absurd (cc)

no_fewer : (slots k : ℕ) (ts : List Task) → k + 1 ≡ min slots (length ts) → ts ≡ [] → ⊥
no_fewer slots k ts few none = let zero : length ts ≡ 0 = ap length none in omega (arith, few, zero)

module _ {F : Type 0} (slots now : ℕ) (s : State Body) (law : Lawful s) (nothing : ready_tasks s ≡ []) where
  never_took : (ys : List (Attempt F)) (old new : WorkSide F) → Took slots s ys old new → ⊥
  never_took ys old new t = ended_ready slots now s law ys t.0 old new t.1 nothing

  never_unheard : (xs ys : List (Attempt F)) (old new : WorkSide F) → Tried slots s xs ys → Unheard ys old new → ⊥
  never_unheard xs [] old new t u = omega (arith, u.some)
  never_unheard xs (y ∷ ys) old new t u = has_some (ready_tasks s) y.task (ready_tasks_are_ready s.jobs law.jobs.rising y.task ∙ t.all_ready.0) nothing

  never_works : (xs : List (Attempt F)) (old : WorkSide F) (end : Turn) (new : WorkSide F) → old.engine.state ≡ s → Works slots now xs old end new → end ≡ turn.Idle
  never_works xs old (turn.Closed n) new same w = absurd w
  never_works xs old (turn.Committed t) new same w = absurd (never_took w.0 old new (t, subst (λ (q : State Body). Ended slots q w.0 t old new) same w.2))
  never_works xs old turn.Idle new same w = refl
  never_works xs old turn.NotYet new same w =
      let h : Waiting slots s w.0 old new = subst (λ (q : State Body). Waiting slots q w.0 old new) same w.2 in
      absurd (no_many h.some h.many)
    where
      no_many : 0 < length w.0 → length w.0 ≡ min slots (length (ready_tasks s)) → ⊥
      no_many some many = let zero : length (ready_tasks s) ≡ 0 = ap length nothing in omega (arith, some, many, zero)
  never_works xs old turn.SpawnFault new same w =
      by (subst (λ (q : State Body). Tried slots q xs w.0) same w.1) (subst (λ (q : State Body). Stopped q w.0 old new ⊎ (Lost w.0 old new ⊎ Took slots q w.0 old new)) same w.2)
    where
      by : Tried slots s xs w.0 → Stopped s w.0 old new ⊎ (Lost w.0 old new ⊎ Took slots s w.0 old new) → turn.SpawnFault ≡ turn.Idle
      by t (inl h) = absurd (some_next (map the_task w.0) (ready_tasks s) h.next nothing)
      by t (inr (inl h)) = absurd (lost_ready slots now s law xs w.0 old new t h nothing)
      by t (inr (inr h)) = absurd (never_took w.0 old new h)
  never_works xs old turn.Full new same w = absurd (never_took w.0 old new (subst (λ (q : State Body). Took slots q w.0 old new) same w.2))
  never_works xs old turn.Disk new same w =
      by (subst (λ (q : State Body). (Stopped q w.0 old new × (new.engine ≡ old.engine)) ⊎ (Took slots q w.0 old new × (new.engine.log.closed ≡ true))) same w.2)
    where
      by : (Stopped s w.0 old new × (new.engine ≡ old.engine)) ⊎ (Took slots s w.0 old new × (new.engine.log.closed ≡ true)) → turn.Disk ≡ turn.Idle
      by (inl h) = absurd (some_next (map the_task w.0) (ready_tasks s) h.0.next nothing)
      by (inr h) = absurd (never_took w.0 old new h.0)
  never_works xs old turn.Memory new same w =
      by (subst (λ (q : State Body). Tried slots q xs w.0) same w.1)
      (subst (λ (q : State Body). ((Stopped q w.0 old new ⊎ (Unheard w.0 old new ⊎ Lost w.0 old new)) × (new.engine ≡ old.engine)) ⊎ (Took slots q w.0 old new × SameOrClosed old.engine new.engine)) same w.2)
    where
      by : Tried slots s xs w.0 → ((Stopped s w.0 old new ⊎ (Unheard w.0 old new ⊎ Lost w.0 old new)) × (new.engine ≡ old.engine)) ⊎ (Took slots s w.0 old new × SameOrClosed old.engine new.engine) → turn.Memory ≡ turn.Idle
      by t (inl (inl h, e)) = absurd (some_next (map the_task w.0) (ready_tasks s) h.next nothing)
      by t (inl (inr (inl h), e)) = absurd (never_unheard xs w.0 old new t h)
      by t (inl (inr (inr h), e)) = absurd (lost_ready slots now s law xs w.0 old new t h nothing)
      by t (inr h) = absurd (never_took w.0 old new h.0)

pub not_idle : {F : Type 0} (slots now : ℕ) (old : WorkSide F) (end : Turn) (new : WorkSide F) → Lawful old.engine.state → Attends slots now old end new → (waiting old.engine.state ≡ None) → (ready_tasks old.engine.state ≡ []) → end ≡ turn.Idle
not_idle {F} slots now old end new law a none nothing =
    ⊎_elim (λ f. no_number (waiting old.engine.state) f.0 f.1 none)
    (λ k. never_works slots now old.engine.state law nothing (attempts_in a.mid) a.mid end new (ap (λ (e : EngineState). e.state) a.engine) k.1) a.does

-- ---- a task that was committed isn't ready any more

changed_at : {B : Type 0} (number n : ℕ) (f : Job B → Job B) → ((x : Job B) → (f x).number ≡ x.number) → (xs : List (Job B)) (o : Option (Job B)) → job_at xs n ≡ o
    → (P : Job B → Bool) → ((x : Job B) → x.number == n ≡ true → P (cond (x.number == number) (f x) x) ≡ false) → option_map_or P (job_at (with_job xs number f) n) false ≡ false
changed_at {B} number n f keeps [] o at P each = refl
changed_at {B} number n f keeps (x ∷ xs) o at P each = by (x.number == n) refl (changed_at number n f keeps xs (job_at xs n) refl P each)
  where
    kept : (b : Bool) → (cond b (f x) x).number ≡ x.number
    kept true = keeps x
    kept false = refl

    same : (cond (x.number == number) (f x) x).number == n ≡ x.number == n
    same = ap (λ (m : ℕ). m == n) (kept (x.number == number))

    by : (b : Bool) → x.number == n ≡ b → option_map_or P (job_at (with_job xs number f) n) false ≡ false → option_map_or P (job_at (with_job (x ∷ xs) number f) n) false ≡ false
    by true is rest = ap (λ (b : Bool). option_map_or P (cond {A = Option (Job B)} b (Some (cond (x.number == number) (f x) x)) (job_at (with_job xs number f) n)) false) (same ∙ is) ∙ each x is
    by false is rest = ap (λ (b : Bool). option_map_or P (cond {A = Option (Job B)} b (Some (cond (x.number == number) (f x) x)) (job_at (with_job xs number f) n)) false) (same ∙ is) ∙ rest

has_entry : {B : Type 0} (trace : List (TraceEntry B)) (e : TraceEntry B) → is_committed (trace ++ e ∷ []) e.phase e.place ≡ true
has_entry {B} trace e = list_any-append (λ (x : TraceEntry B). (x.phase == e.phase) && (x.place == e.place)) trace (e ∷ []) ∙ last (list_any (λ (x : TraceEntry B). (x.phase == e.phase) && (x.place == e.place)) trace) _ (self e.phase e.place)
  where
    self : (a b : ℕ) → ((a == a) && (b == b)) ≡ true
    self a b = grind arith

    last : (a b : Bool) → b ≡ true → (a || (b || false)) ≡ true
    last true b is = refl
    last false true is = refl
    last false false is = cc

unready : {B : Type 0} (job : Job B) (phase place : ℕ) → is_committed job.trace phase place ≡ true → is_ready job phase place ≡ false
unready {B} job phase place is = by (may_run job phase place) (is_committed job.trace phase place) is
  where
    by : (a b : Bool) → b ≡ true → (a && not b) ≡ false
    by true true is = refl
    by false true is = refl
    by a false is = cc

numbered : {B : Type 0} (xs : List (Job B)) (n : ℕ) (j : Job B) → job_at xs n ≡ Some j → j.number == n ≡ true
numbered {B} [] n j at = cc
numbered {B} (x ∷ xs) n j at = here (x.number == n) refl at (numbered xs n j)
  where
    here : (b : Bool) → x.number == n ≡ b → cond {A = Option (Job B)} b (Some x) (job_at xs n) ≡ Some j → (job_at xs n ≡ Some j → j.number == n ≡ true) → j.number == n ≡ true
    here true is found rest = let same : x ≡ j = cc in subst (λ (y : Job B). y.number == n ≡ true) same is
    here false is found rest = rest found

pub committed_unready : {B : Type 0} (s : State B) (t : Task) (f : Fate B) (moment : ℕ) → is_ready_in (step s (Commit t.job t.phase t.place f moment)) t ≡ false
unfolding change step
committed_unready {B} s t f moment = by (job_at s.jobs t.job) refl
  where
    by : (o : Option (Job B)) → job_at s.jobs t.job ≡ o → option_map_or (λ (j : Job B). is_ready j t.phase t.place) (job_at (commit s o t.phase t.place f moment).jobs t.job) false ≡ false
    by None at = ap (λ (o : Option (Job B)). option_map_or (λ (j : Job B). is_ready j t.phase t.place) o false) at
    by (Some job) at =
        let e : TraceEntry B = record { phase = t.phase; place = t.place; position = s.count; outcome = (resolve_task s job t.phase t.place f moment).outcome } in
        changed_at job.number t.job (with_entry e) (λ x. refl) s.jobs (job_at s.jobs t.job) refl (λ (j : Job B). is_ready j t.phase t.place)
        (λ x is. ap (λ (b : Bool). is_ready (cond b (with_entry e x) x) t.phase t.place) (same_number x.number job.number t.job is (numbered s.jobs t.job job at)) ∙ unready (with_entry e x) t.phase t.place (has_entry x.trace e))
      where
        same_number : (a b n : ℕ) → a == n ≡ true → b == n ≡ true → a == b ≡ true
        same_number a b n e1 e2 = grind arith

-- ---- a child whose task stays ready stays

module _ {F : Type 0} where
  in_filter : (p : Attempt F → Bool) (xs : List (Attempt F)) (x : Attempt F) → In x xs → p x ≡ true → In x (filter p xs)
  in_filter p [] x h is = absurd h
  in_filter p (y ∷ ys) x (inl e) is = subst (λ (b : Bool). In x (cond {A = List (Attempt F)} b (y ∷ filter p ys) (filter p ys))) (sym (ap p e ∙ is)) (inl e)
  in_filter p (y ∷ ys) x (inr h) is = by (p y) (in_filter p ys x h is)
    where
      by : (b : Bool) → In x (filter p ys) → In x (cond {A = List (Attempt F)} b (y ∷ filter p ys) (filter p ys))
      by true there = inr there
      by false there = there

  in_first : (xs ys : List (Attempt F)) (x : Attempt F) → In x xs → In x (xs ++ ys)
  in_first [] ys x h = absurd h
  in_first (z ∷ xs) ys x (inl e) = inl e
  in_first (z ∷ xs) ys x (inr h) = inr (in_first xs ys x h)

  -- in a list with one more it is in the list, or that one
  in_but : (front : List (Attempt F)) (z : Attempt F) (back : List (Attempt F)) (x : Attempt F) → In x (front ++ z ∷ back) → In x (front ++ back) ⊎ (z ≡ x)
  in_but [] z back x (inl e) = inr e
  in_but [] z back x (inr h) = inl h
  in_but (y ∷ front) z back x (inl e) = inl (inl e)
  in_but (y ∷ front) z back x (inr h) = ⊎_elim (λ there. inl (inr there)) (λ same. inr same) (in_but front z back x h)

  has_ticket : (ks : List Started) (cs : List (Child F)) (xs : List (Attempt F)) (x : Attempt F) → AreOf ks cs xs → In x xs → HasTicket x.ticket ks
  has_ticket ks cs xs x are there = subst (λ (js : List Started). list_any (λ n. x.ticket == n) (map number_of js) ≡ true) (sym are.kept) (any_in number_of x.ticket (map started_of xs) (started_of x) (in_mapped started_of xs x there) refl)

  waited_there : (ys zs : List (Attempt F)) (x : Attempt F) → AllZip HasWaited ys zs → In x ys → (z : Attempt F) × In z zs × (z.ticket ≡ x.ticket)
  waited_there [] zs x w h = absurd h
  waited_there (y ∷ ys) [] x w h = absurd w
  waited_there (y ∷ ys) (z ∷ zs) x w (inl e) = (z, inl refl, w.0.ticket ∙ ap (λ (a : Attempt F). a.ticket) e)
  waited_there (y ∷ ys) (z ∷ zs) x w (inr h) = let r = waited_there ys zs x w.1 h in (r.0, inr r.1, r.2)

  module _ (slots now : ℕ) (x : Attempt F) where
    stay_works : (xs : List (Attempt F)) (old : WorkSide F) (end : Turn) (new : WorkSide F) → Lawful old.engine.state → In x xs → is_ready_in old.engine.state x.task ≡ true → is_ready_in new.engine.state x.task ≡ true
        → Works slots now xs old end new → IsLoss end ⊎ HasTicket x.ticket new.kept
    stay_works xs old (turn.Closed n) new law there was is w = absurd w
    stay_works xs old (turn.Committed t) new law there was is w =
        let h : Ended slots old.engine.state w.0 t old new = w.2 in
        let tried : In x w.0 = subst (λ (ys : List (Attempt F)). In x ys) (sym w.1.are) (in_first xs w.1.started x there) in
        by h (in_but h.gone.front h.x h.gone.back x (subst (λ (ys : List (Attempt F)). In x ys) h.gone.were tried)) w.3
      where
        by : (h : Ended slots old.engine.state w.0 t old new) → In x (h.gone.front ++ h.gone.back) ⊎ (h.x ≡ x) → adding.Committed t now old.engine.state new.engine.state → IsLoss (turn.Committed t) ⊎ HasTicket x.ticket new.kept
        by h (inl in_rest) c = inr (has_ticket new.kept new.seen.live (h.gone.front ++ h.gone.back) x h.gone.are in_rest)
        by h (inr same) c =
            let mine : x.task ≡ t = ap the_task (sym same) ∙ h.its in
            let not_ready : is_ready_in new.engine.state x.task ≡ false =
            ap (λ (u : Task). is_ready_in new.engine.state u) mine ∙ (ap (λ (q : State Body). is_ready_in q t) c.1 ∙ committed_unready old.engine.state t c.0 now) in
            not_both (is_ready_in new.engine.state x.task) is not_ready
    stay_works xs old turn.Idle new law there was is w = absurd (has_some (ready_tasks old.engine.state) x.task (ready_tasks_are_ready old.engine.state.jobs law.jobs.rising x.task ∙ was) w.0.none)
    stay_works xs old turn.NotYet new law there was is w =
        let tried : In x w.0 = subst (λ (ys : List (Attempt F)). In x ys) (sym w.1.are) (in_first xs w.1.started x there) in
        let z = waited_there w.0 w.2.zs x w.2.waited tried in
        inr (subst (λ (n : ℕ). HasTicket n new.kept) z.2 (has_ticket new.kept new.seen.live w.2.zs z.0 w.2.are z.1))
    stay_works xs old turn.SpawnFault new law there was is w = inl tt
    stay_works xs old turn.Full new law there was is w = inl tt
    stay_works xs old turn.Disk new law there was is w = inl tt
    stay_works xs old turn.Memory new law there was is w = inl tt

    stay_finishes : (n : ℕ) (xs : List (Attempt F)) (old : WorkSide F) (end : Turn) (new : WorkSide F) → In x xs → Finishes n now xs old end new → IsLoss end ⊎ HasTicket x.ticket new.kept
    stay_finishes n xs old (turn.Closed m) new there w = inr (has_ticket new.kept new.seen.live xs x w.1.are there)
    stay_finishes n xs old (turn.Committed t) new there w = absurd w
    stay_finishes n xs old turn.Idle new there w = absurd w
    stay_finishes n xs old turn.NotYet new there w = absurd w
    stay_finishes n xs old turn.SpawnFault new there w = absurd w
    stay_finishes n xs old turn.Full new there w = inl tt
    stay_finishes n xs old turn.Disk new there w = inl tt
    stay_finishes n xs old turn.Memory new there w = inl tt

    pub stays_by : (old : WorkSide F) (end : Turn) (new : WorkSide F) → Lawful old.engine.state → Attends slots now old end new → Contains (attempts_in old) x → is_ready_in old.engine.state x.task ≡ true → is_ready_in new.engine.state x.task ≡ true
        → IsLoss end ⊎ HasTicket x.ticket new.kept
    stays_by old end new law a there was is =
        let left : In x (attempts_in a.mid) = subst (λ (ys : List (Attempt F)). In x ys) (sym a.left) (in_filter (is_ready_now old.engine.state) (attempts_in old) x (in_from (attempts_in old) x there) was) in
        let same : a.mid.engine.state ≡ old.engine.state = ap (λ (e : EngineState). e.state) a.engine in
        ⊎_elim (λ f. stay_finishes f.0 (attempts_in a.mid) a.mid end new left f.2)
        (λ k. stay_works (attempts_in a.mid) a.mid end new (subst (λ (q : State Body). Lawful q) (sym same) law) left (ap (λ (q : State Body). is_ready_in q x.task) same ∙ was) is k.1) a.does
