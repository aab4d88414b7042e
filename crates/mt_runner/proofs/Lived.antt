-- Turns as steps of a life: what becomes of the children, over a base and a history.
use Rattle.std.proofs.Common.{◌≡◌, ◌==◌, inr, ℕ, ◌<◌, Bool, true, false, cond, List, [], ◌∷◌, ◌++◌, map, eqb, refl, ap, sym, subst, ◌∙◌, append_assoc, Option, Some, None, ⊎_elim}
use Rattle.std.specs.Prelude.{filter, replicate}
use Rattle.std.specs.List.{AllByRecursion, AllZip, IsDistinct}
use Rattle.std.specs.Option.{option_map_or}
use Rattle.std.proofs.lemmas.List.{length-replicate, map-append}
use Rattle.mt_disk.specs.Files.{Files}
use Rattle.mt_log.specs.LogImage.{payloads_of}
use Rattle.mt_body.specs.Stored.{bytes_of}
use Rattle.mt_types.specs.declared.body.Body.{Body}
use Rattle.mt_types.specs.declared.command.Archive.{Archive}
use Rattle.mt_types.specs.declared.command.Command.{Command}
use Rattle.mt_types.specs.declared.command.Command.TheVariants.{Close, Commit}
use Rattle.mt_types.specs.declared.job.Job.{Job}
use Rattle.mt_types.specs.declared.job.Task.{Task}
use Rattle.mt_types.specs.declared.limits.TheConstants.{MOST_COMMANDS}
use Rattle.mt_types.specs.declared.task.Fate.{Fate}
use Rattle.mt_types.specs.declared.task.Made.{Made}
use Rattle.mt_types.specs.declared.task.Made.TheVariants as made
use Rattle.mt_types.specs.declared.task.Raw.{Raw}
use Rattle.mt_types.specs.declared.task.RecordFile.{RecordFile}
use Rattle.mt_types.specs.declared.task.Run.{Run}
use Rattle.mt_types.specs.Values.{job_with}
use Rattle.mt_model.specs.CommandStep.{replay}
use Rattle.mt_model.specs.Honest.{Bytes, IsHonest}
use Rattle.mt_model.specs.Lawful.{Lawful}
use Rattle.mt_model.specs.State.{State, first_state, job_at}
use Rattle.mt_model.specs.Tasks.{is_ready}
use Rattle.mt_model.proofs.Replays.{replay_on}
use Rattle.mt_model.proofs.TasksWith.{is_ready-with}
use Rattle.mt_records.specs.Fate.{fate}
use Rattle.mt_lives.specs.World.{End, Finish, LifeStep, Lose, World, attempt_at}
use Rattle.mt_spawn.specs.Children.{Child, MayBe}
use Rattle.mt_spawn.specs.Orders.{size_of, sizes_of}
use Rattle.mt_spawn.specs.declared.task.FileSize.{FileSize}
use Rattle.mt_spawn.specs.declared.task.Left.{Left}
use Rattle.mt_spawn.specs.declared.task.Sizes.{Sizes}
use Rattle.mt_spawn.specs.declared.task.Sizes.TheVariants as sizes
use Rattle.mt_opening.specs.Current.{EngineState, IsCurrent}
use Rattle.mt_opening.specs.History.{History}
use Rattle.mt_sched.specs.Plan.{is_same_task}
use Rattle.mt_tasks.specs.Adding.{Adds, IsCloseOf, IsCommitOf, IsFree}
use Rattle.mt_tasks.specs.Right.{IsRight}
use Rattle.mt_tasks.specs.Standing.{is_ready_in}
use Rattle.mt_tasks.specs.declared.outcomes.OutcomeEnd.{OutcomeEnd}
use Rattle.mt_tasks.specs.declared.outcomes.OutcomeEnd.TheVariants as outcome
use Rattle.mt_runner.specs.Attempts.{AreOf, ArePaired, Attempt, HasWaited, attempts, number_of, started_of, task_in, the_task}
use Rattle.mt_runner.specs.Attends.{Gone, Live, Lost, WorkSide, attempts_in, is_ready_now, ready_of}
use Rattle.mt_runner.specs.AtWork.{AreRight}
use Rattle.mt_runner.specs.Awaiting.{NoneCame}
use Rattle.mt_runner.specs.Filling.{HasBegun}
use Rattle.mt_runner.specs.Living.{Leads, LivesOn, may_lose, may_waste, world_of}
use Rattle.mt_runner.specs.Moves.{end_of_job, end_of_task}
use Rattle.mt_runner.specs.declared.runner.Started.{Started}
use Rattle.mt_runner.specs.declared.turn.Turn.{Turn}
use Rattle.mt_runner.specs.declared.turn.Turn.TheVariants as turn
use Rattle.mt_runner.proofs.Lists.{all_but, all_last}
use Rattle.mt_runner.proofs.Pairs.{are_of, filter-map}
use Rattle.mt_runner.proofs.Works.{firsts_ready}
use Rattle.mt_runner.proofs.Worlds.{IsChild, close_one, commit_one, end_one, leads_on, leads_one, leads_wider, lose_one, stales, starts}

-- ---- some outcome is told so

abbrev file_of : FileSize → RecordFile
file_of f = record { number = f.number; bytes = replicate f.len 0 }

abbrev made_of : Sizes → Made
made_of (sizes.Whole out files) = made.Whole (replicate out 0) (map file_of files)
made_of (sizes.TooLarge total) = made.TooLarge total

files_so : (files : List FileSize) → map size_of (map file_of files) ≡ files
files_so [] = refl
files_so (f ∷ fs) = λ i. record { number = f.number; len = length-replicate {A = ℕ} f.len 0 i } ∷ files_so fs i

made_so : (s : Sizes) → sizes_of (made_of s) ≡ s
made_so (sizes.Whole out files) = λ i. sizes.Whole (length-replicate {A = ℕ} out 0 i) (files_so files i)
made_so (sizes.TooLarge total) = refl

-- a child that has ended, ended in something
pub some_raw : (may : Raw → Type 0) (left : Left) (told : Option Raw) → MayBe may left told → (raw : Raw) × may raw
some_raw may left None is =
    let raw : Raw = record { status = left.status; stderr = left.stderr; made = made_of left.made } in
    (raw, is raw (λ i. record { status = left.status; stderr = left.stderr; made = made_so left.made i }))
some_raw may left (Some raw) is = (raw, is.1)

-- ---- a task is ready over references as over bytes

module _ (read : Body → Bytes) where
  ready_job_with : (t : Task) (jobs : List (Job Body)) → option_map_or (λ j. is_ready j t.phase t.place) (job_at (map (job_with read) jobs) t.job) false ≡ option_map_or (λ j. is_ready j t.phase t.place) (job_at jobs t.job) false
  ready_job_with t [] = refl
  ready_job_with t (j ∷ js) = by (j.number == t.job) (ready_job_with t js)
    where
      by : (b : Bool) → option_map_or (λ j. is_ready j t.phase t.place) (job_at (map (job_with read) js) t.job) false ≡ option_map_or (λ j. is_ready j t.phase t.place) (job_at js t.job) false
          → option_map_or (λ j. is_ready j t.phase t.place) (cond {A = Option (Job Bytes)} b (Some (job_with read j)) (job_at (map (job_with read) js) t.job)) false
          ≡ option_map_or (λ j. is_ready j t.phase t.place) (cond {A = Option (Job Body)} b (Some j) (job_at js t.job)) false
      by true rest = is_ready-with read j t.phase t.place
      by false rest = rest

pub ready_at : (seen : Option Files) (engine : EngineState) (base : State Bytes) (h : History) → IsCurrent seen engine base h → (t : Task) → is_ready_in (replay base h) t ≡ is_ready_in engine.state t
ready_at seen engine base h i t =
    ap (λ (s : State Bytes). is_ready_in s t) (sym i.is_read.state) ∙ ready_job_with (bytes_of (payloads_of i.is_read.files)) t engine.state.jobs

-- ---- children that are kept

-- those that were waited for are kept as before
pub waited_kept : {F : Type 0} (xs zs : List (Attempt F)) → AllZip HasWaited xs zs → map started_of zs ≡ map started_of xs
waited_kept [] [] w = refl
waited_kept [] (z ∷ zs) w = absurd w
waited_kept (x ∷ xs) [] w = absurd w
waited_kept (x ∷ xs) (z ∷ zs) w = λ i. record { ticket = record { number = w.0.ticket i }; task = w.0.task i } ∷ waited_kept xs zs w.1 i

module _ {F : Type 0} where
  pub paired_kept : (ks : List Started) (cs : List (Child F)) → ArePaired ks cs → ks ≡ map started_of (attempts ks cs)
  paired_kept ks cs p = (are_of ks cs p).kept

  pub none_came_kept : (mid new : WorkSide F) → ArePaired mid.kept mid.seen.live → NoneCame mid new → new.kept ≡ mid.kept
  none_came_kept mid new p n = n.are.kept ∙ (waited_kept (attempts_in mid) n.zs n.waited ∙ sym (paired_kept mid.kept mid.seen.live p))

  pub live_kept : (mid new : WorkSide F) → ArePaired mid.kept mid.seen.live → Live (attempts_in mid) mid new → new.kept ≡ mid.kept
  live_kept mid new p l = l.are.kept ∙ sym (paired_kept mid.kept mid.seen.live p)

  ready_children : (s : State Bytes) (s' : State Body) → ((t : Task) → is_ready_in s t ≡ is_ready_in s' t) → (xs : List (Attempt F)) → AllByRecursion (λ x. is_ready_now s' x ≡ true) xs
      → AllByRecursion (λ k. is_ready_in s (task_in k) ≡ true) (map started_of xs)
  ready_children s s' same [] all = tt
  ready_children s s' same (x ∷ xs) all = (same x.task ∙ all.0, ready_children s s' same xs all.1)

-- ---- over a base and a history

over_base : (earlier : History) (base : State Bytes) (h : History) → replay first_state earlier ≡ base → replay first_state (earlier ++ h) ≡ replay base h
over_base earlier base h e = replay_on first_state earlier h ∙ ap (λ (s : State Bytes). replay s h) e

module _ (login : Bytes) (runs : Run → Bytes → Raw → Type 0) where
  -- nothing happened
  pub lives_same : (end : Turn) (base : State Bytes) (h : History) (ks : List Started) → LivesOn login runs (fate login) end base h h ks ks
  lives_same end base h ks earlier e named = ([], refl)

  -- at equal ends
  pub lives_at : (end : Turn) (base : State Bytes) (h k k' : History) (ks js ks' js' : List Started) → k' ≡ k → ks' ≡ ks → js' ≡ js → LivesOn login runs (fate login) end base h k ks js → LivesOn login runs (fate login) end base h k' ks' js'
  lives_at end base h k k' ks js ks' js' ek es ej l =
      subst (λ (x : History). LivesOn login runs (fate login) end base h x ks' js') (sym ek)
      (subst (λ (xs : List Started). LivesOn login runs (fate login) end base h k xs js') (sym es) (subst (λ (xs : List Started). LivesOn login runs (fate login) end base h k ks xs) (sym ej) l))

  -- one behind another
  pub lives_then : (end : Turn) (base : State Bytes) (h m k : History) (xs ys zs : List Started) → LivesOn login runs (fate login) end base h m xs ys → LivesOn login runs (fate login) end base m k ys zs → LivesOn login runs (fate login) end base h k xs zs
  lives_then end base h m k xs ys zs first more earlier e named =
      let a = first earlier e named in
      let b = more earlier e named in
      (a.0 ++ b.0, leads_on login runs (fate login) end (world_of login runs (fate login) named (earlier ++ h) xs) a.0 (world_of login runs (fate login) named (earlier ++ m) ys) b.0 (world_of login runs (fate login) named (earlier ++ k) zs) a.1 b.1)

  -- what an answer allows, another may
  pub lives_wider : (end end' : Turn) (base : State Bytes) (h k : History) (xs ys : List Started) → (may_waste end ≡ true → may_waste end' ≡ true) → (may_lose end ≡ true → may_lose end' ≡ true)
      → LivesOn login runs (fate login) end base h k xs ys → LivesOn login runs (fate login) end' base h k xs ys
  lives_wider end end' base h k xs ys waste lose l earlier e named =
      let a = l earlier e named in
      (a.0, leads_wider login runs (fate login) end end' waste lose (world_of login runs (fate login) named (earlier ++ h) xs) a.0 (world_of login runs (fate login) named (earlier ++ k) ys) a.1)

  -- each attempt that is right is that of a child of a task
  abbrev pub child_of_right : {F : Type 0} (may : F → Raw → Type 0) (s : State Bytes) (x : Attempt F) → IsRight login runs may s x.task x.fate → IsChild login runs (fate login) s (started_of x)
  child_of_right may s x r = record { job = r.job; phase = r.p; found = r.found; has = r.has; task = r.task }

  pub children_of : {F : Type 0} (may : F → Raw → Type 0) (s : State Bytes) (xs : List (Attempt F)) → AreRight login runs may s xs → AllByRecursion (IsChild login runs (fate login) s) (map started_of xs)
  children_of may s [] r = tt
  children_of may s (x ∷ xs) r = (child_of_right may s x r.0, children_of may s xs r.1)

  module _ (end : Turn) (base : State Bytes) (h : History) where
    -- children are started, one after another
    pub lives_starts : (front more : List Started) → AllByRecursion (λ k. is_ready_in (replay base h) (task_in k) ≡ true) more → IsDistinct eqb (map number_of (front ++ more)) → IsDistinct is_same_task (map task_in (front ++ more))
        → LivesOn login runs (fate login) end base h h front (front ++ more)
    lives_starts front more all tickets tasks earlier e named =
        starts login runs (fate login) named (earlier ++ h) end front more (subst (λ (s : State Bytes). AllByRecursion (λ k. is_ready_in s (task_in k) ≡ true) more) (sym (over_base earlier base h e)) all) tickets tasks

    -- those go whose tasks are not ready
    pub lives_stale : (ks : List Started) → AllByRecursion (IsChild login runs (fate login) (replay base h)) ks → IsDistinct eqb (map number_of ks) → LivesOn login runs (fate login) end base h h ks (filter (λ k. is_ready_in (replay base h) (task_in k)) ks)
    lives_stale ks all tickets earlier e named =
        let same = over_base earlier base h e in
        let is = stales login runs (fate login) named (earlier ++ h) end [] ks (subst (λ (s : State Bytes). AllByRecursion (IsChild login runs (fate login) s) ks) (sym same) all) tickets in (
          is.0,
          subst (λ (s : State Bytes). Leads login runs (fate login) end (world_of login runs (fate login) named (earlier ++ h) ks) is.0 (world_of login runs (fate login) named (earlier ++ h) (filter (λ k. is_ready_in s (task_in k)) ks))) same is.1,
        )

    module _ (front : List Started) (k : Started) (back : List Started) (tickets : IsDistinct eqb (map number_of (front ++ k ∷ back))) where
      -- one is lost
      pub lives_lost : may_lose end ≡ true → LivesOn login runs (fate login) end base h h (front ++ k ∷ back) (front ++ back)
      lives_lost may earlier e named = (
        Lose (number_of k) ∷ [],
        leads_one login runs (fate login) end (world_of login runs (fate login) named (earlier ++ h) (front ++ k ∷ back)) (Lose (number_of k)) (world_of login runs (fate login) named (earlier ++ h) (front ++ back))
            (inr may) (lose_one login runs (fate login) named (earlier ++ h) front k back tickets),
      )

      -- one may have ended so, in a state
      abbrev pub EndsSo : Raw → State Bytes → Type 0
      EndsSo raw s =
          (c : IsChild login runs (fate login) s k)
          × runs (attempt_at login runs (fate login) (number_of k) k.task c.job c.phase).run (attempt_at login runs (fate login) (number_of k) k.task c.job c.phase).input raw

      -- one has ended, and nothing is committed
      pub lives_ended : may_waste end ≡ true → (raw : Raw) → EndsSo raw (replay base h) → LivesOn login runs (fate login) end base h h (front ++ k ∷ back) (front ++ back)
      lives_ended may raw ends earlier e named =
          let here = subst (λ (s : State Bytes). EndsSo raw s) (sym (over_base earlier base h e)) ends in (
            End (number_of k) raw None ∷ [],
            leads_one login runs (fate login) end (world_of login runs (fate login) named (earlier ++ h) (front ++ k ∷ back)) (End (number_of k) raw None) (world_of login runs (fate login) named (earlier ++ h) (front ++ back))
                may (end_one login runs (fate login) named (earlier ++ h) front k back raw tickets here.0 here.1),
          )

    -- what the commit of a child's task asks of a state
    record Commits (k : Started) (left : List Started) (c : Command Bytes) (s : State Bytes) : Type 0 where
      pub lawful : Lawful s
      pub room : s.count < MOST_COMMANDS
      pub free : IsFree s c
      pub honest : IsHonest login runs (fate login) s c
      pub child : IsChild login runs (fate login) s k
      pub others : AllByRecursion (IsChild login runs (fate login) s) left

    -- its task is committed
    pub lives_commit : (front : List Started) (k : Started) (back : List Started) → IsDistinct eqb (map number_of (front ++ k ∷ back)) → (f : Fate Bytes) (moment : ℕ) → Lawful (replay base h) → (replay base h).count < MOST_COMMANDS
        → IsFree (replay base h) (Commit k.task.job k.task.phase k.task.place f moment) → IsHonest login runs (fate login) (replay base h) (Commit k.task.job k.task.phase k.task.place f moment)
        → IsChild login runs (fate login) (replay base h) k → AllByRecursion (IsChild login runs (fate login) (replay base h)) (front ++ back)
        → LivesOn login runs (fate login) end base h (h ++ Commit k.task.job k.task.phase k.task.place f moment ∷ []) (front ++ k ∷ back) (front ++ back)
    lives_commit front k back tickets f moment law room free honest child all earlier e named =
        let c : Command Bytes = Commit k.task.job k.task.phase k.task.place f moment in
        let here : Commits k (front ++ back) c (replay base h) = record { lawful = law; room = room; free = free; honest = honest; child = child; others = all } in
        let now : Commits k (front ++ back) c (replay first_state (earlier ++ h)) = subst (λ (s : State Bytes). Commits k (front ++ back) c s) (sym (over_base earlier base h e)) here in
        let is = commit_one login runs (fate login) named (earlier ++ h) front k back f moment tickets now.lawful now.room now.free.made now.free.free now.honest now.child now.others in
        let old : World = world_of login runs (fate login) named (earlier ++ h) (front ++ k ∷ back) in
        let steps : List LifeStep = End (number_of k) is.0 (Some moment) ∷ [] in (
          steps,
          subst (λ (x : History). Leads login runs (fate login) end old steps (world_of login runs (fate login) named x (front ++ back))) (append_assoc earlier h (c ∷ []))
              (leads_one login runs (fate login) end old (End (number_of k) is.0 (Some moment)) (world_of login runs (fate login) named ((earlier ++ h) ++ c ∷ []) (front ++ back)) tt is.1),
        )

    -- a job is closed
    pub lives_close : (ks : List Started) (n : ℕ) (archive : Archive Bytes) (moment : ℕ) → Lawful (replay base h) → (replay base h).count < MOST_COMMANDS → IsFree (replay base h) (Close n false archive moment)
        → AllByRecursion (IsChild login runs (fate login) (replay base h)) ks → LivesOn login runs (fate login) end base h (h ++ Close n false archive moment ∷ []) ks ks
    lives_close ks n archive moment law room free all earlier e named =
        let c : Command Bytes = Close n false archive moment in
        let same = over_base earlier base h e in
        let is = close_one login runs (fate login) named (earlier ++ h) ks n archive moment (subst (λ (s : State Bytes). Lawful s) (sym same) law) (subst (λ (s : State Bytes). s.count < MOST_COMMANDS) (sym same) room)
        (subst (λ (s : State Bytes). IsFree s c) (sym same) free).free (subst (λ (s : State Bytes). AllByRecursion (IsChild login runs (fate login) s) ks) (sym same) all) in
        let old : World = world_of login runs (fate login) named (earlier ++ h) ks in
        let steps : List LifeStep = Finish n archive moment ∷ [] in (
          steps,
          subst (λ (x : History). Leads login runs (fate login) end old steps (world_of login runs (fate login) named x ks)) (append_assoc earlier h (c ∷ []))
              (leads_one login runs (fate login) end old (Finish n archive moment) (world_of login runs (fate login) named ((earlier ++ h) ++ c ∷ []) ks) tt is),
        )

  -- ---- a child is gone

  module _ {F : Type 0} (base : State Bytes) (h : History) (ys : List (Attempt F)) (x : Attempt F) (old new : WorkSide F) (g : Gone ys x old new) (before : List Started) (were : before ≡ map started_of ys)
      (tickets : IsDistinct eqb (map number_of before)) where
    abbrev fronts : List Started
    fronts = map started_of g.front

    abbrev backs : List Started
    backs = map started_of g.back

    parts : before ≡ fronts ++ started_of x ∷ backs
    parts = were ∙ (ap (map started_of) g.were ∙ map-append started_of g.front (x ∷ g.back))

    apart : IsDistinct eqb (map number_of (fronts ++ started_of x ∷ backs))
    apart = subst (λ (ks : List Started). IsDistinct eqb (map number_of ks)) parts tickets

    left : new.kept ≡ fronts ++ backs
    left = g.are.kept ∙ map-append started_of g.front g.back

    -- it is lost
    pub gone_lost : (end : Turn) → may_lose end ≡ true → LivesOn login runs (fate login) end base h h before new.kept
    gone_lost end lose = lives_at end base h h h (fronts ++ started_of x ∷ backs) (fronts ++ backs) before new.kept refl parts left (lives_lost end base h fronts (started_of x) backs apart lose)

    module _ (may : F → Raw → Type 0) (right : AreRight login runs may (replay base h) ys) where
      all_right : AreRight login runs may (replay base h) (g.front ++ x ∷ g.back)
      all_right = subst (λ (zs : List (Attempt F)). AreRight login runs may (replay base h) zs) g.were right

      its : IsRight login runs may (replay base h) x.task x.fate
      its = (all_last (λ y. IsRight login runs may (replay base h) y.task y.fate) g.front (x ∷ g.back) all_right).0

      rest : AllByRecursion (IsChild login runs (fate login) (replay base h)) (fronts ++ backs)
      rest =
          subst (λ (ks : List Started). AllByRecursion (IsChild login runs (fate login) (replay base h)) ks) (map-append started_of g.front g.back)
          (children_of may (replay base h) (g.front ++ g.back) (all_but (λ y. IsRight login runs may (replay base h) y.task y.fate) g.front x g.back all_right))

      -- it has ended, and nothing is committed
      pub gone_ended : (end : Turn) → may_waste end ≡ true → (left' : Left) (told : Option Raw) → MayBe (may x.fate) left' told → LivesOn login runs (fate login) end base h h before new.kept
      gone_ended end waste left' told given =
          let raw = some_raw (may x.fate) left' told given in
          lives_at end base h h h (fronts ++ started_of x ∷ backs) (fronts ++ backs) before new.kept refl parts left
          (lives_ended end base h fronts (started_of x) backs apart waste raw.0 (child_of_right may (replay base h) x its, its.given raw.0 raw.1))

      -- its task is committed
      pub gone_committed : (end : Turn) (t : Task) (now : ℕ) (c : Command Bytes) (k : History) → x.task ≡ t → Lawful (replay base h) → (replay base h).count < MOST_COMMANDS → IsCommitOf login runs t now (replay base h) c → k ≡ h ++ c ∷ []
          → LivesOn login runs (fate login) end base h k before new.kept
      gone_committed end t now c k its_task law room q is =
          let at : Task → Command Bytes = λ u. Commit u.job u.phase u.place q.of_fate now in
          let same : c ≡ at x.task = q.is ∙ ap at (sym its_task) in
          lives_at end base h (h ++ at x.task ∷ []) k (fronts ++ started_of x ∷ backs) (fronts ++ backs) before new.kept (is ∙ ap (λ (d : Command Bytes). h ++ d ∷ []) same) parts left
          (lives_commit end base h fronts (started_of x) backs apart q.of_fate now law room (subst (λ (d : Command Bytes). IsFree (replay base h) d) same q.is_free)
          (subst (λ (u : Task). IsHonest login runs (fate login) (replay base h) (at u)) (sym its_task) q.honest) (child_of_right may (replay base h) x its) rest)

      -- by what became of its outcome
      pub gone_taken : (t : Task) (now : ℕ) (left' : Left) (told : Option Raw) (end : OutcomeEnd) (e : EngineState) (seen' : Option Files) (e' : EngineState) (k : History) → x.task ≡ t → Lawful (replay base h) → MayBe (may x.fate) left' told
          → Adds (IsCommitOf login runs t now) end base h e seen' e' k → LivesOn login runs (fate login) (end_of_task t end) base h k before new.kept
      gone_taken t now left' told outcome.Added e seen' e' k its_task law given a = gone_committed (turn.Committed t) t now a.command k its_task law a.room.few a.is a.history
      gone_taken t now left' told outcome.Full e seen' e' k its_task law given a = lives_at turn.Full base h h k before new.kept before new.kept a.history refl refl (gone_ended turn.Full refl left' told given)
      gone_taken t now left' told outcome.Unread e seen' e' k its_task law given a = lives_at turn.SpawnFault base h h k before new.kept before new.kept a.0 refl refl (gone_lost turn.SpawnFault refl)
      gone_taken t now left' told outcome.Disk e seen' e' k its_task law given a =
          ⊎_elim (λ same. lives_at turn.Disk base h h k before new.kept before new.kept same refl refl (gone_ended turn.Disk refl left' told given))
          (λ m. gone_committed turn.Disk t now m.command k its_task law m.room.few m.is m.history) a.1
      gone_taken t now left' told outcome.Memory e seen' e' k its_task law given a = lives_at turn.Memory base h h k before new.kept before new.kept a.0 refl refl (gone_ended turn.Memory refl left' told given)

  -- ---- a job is closed, by the answer

  pub closed_so : (n now : ℕ) (end : OutcomeEnd) (base : State Bytes) (h : History) (e : EngineState) (seen' : Option Files) (e' : EngineState) (k : History) (ks : List Started) → (end ≡ outcome.Unread → ⊥) → Lawful (replay base h)
      → AllByRecursion (IsChild login runs (fate login) (replay base h)) ks → Adds (IsCloseOf login n now) end base h e seen' e' k → LivesOn login runs (fate login) (end_of_job n end) base h k ks ks
  closed_so n now end base h e seen' e' k ks read law all a = by end read a
    where
      one : (t : Turn) (c : Command Bytes) → (replay base h).count < MOST_COMMANDS → IsCloseOf login n now (replay base h) c → k ≡ h ++ c ∷ [] → LivesOn login runs (fate login) t base h k ks ks
      one t c room q is =
          lives_at t base h (h ++ Close n false q.archive now ∷ []) k ks ks ks ks (is ∙ ap (λ (d : Command Bytes). h ++ d ∷ []) q.is) refl refl
          (lives_close t base h ks n q.archive now law room (subst (λ (d : Command Bytes). IsFree (replay base h) d) q.is q.is_free) all)

      none : (t : Turn) → k ≡ h → LivesOn login runs (fate login) t base h k ks ks
      none t same = lives_at t base h h k ks ks ks ks same refl refl (lives_same t base h ks)

      by : (end : OutcomeEnd) → (end ≡ outcome.Unread → ⊥) → Adds (IsCloseOf login n now) end base h e seen' e' k → LivesOn login runs (fate login) (end_of_job n end) base h k ks ks
      by outcome.Added read a = one (turn.Closed n) a.command a.room.few a.is a.history
      by outcome.Full read a = none turn.Full a.history
      by outcome.Unread read a = absurd (read refl)
      by outcome.Disk read a = ⊎_elim (λ same. none turn.Disk same) (λ m. one turn.Disk m.command m.room.few m.is m.history) a.1
      by outcome.Memory read a = none turn.Memory a.0

  -- ---- what a turn does to children

  -- those go whose tasks are not ready
  pub lives_dropped : {F : Type 0} (may : F → Raw → Type 0) (seen : Option Files) (old mid : WorkSide F) → ArePaired old.kept old.seen.live → AreOf mid.kept mid.seen.live (ready_of old.engine.state (attempts_in old))
      → IsDistinct eqb (map number_of old.kept) → (end : Turn) (base : State Bytes) (h : History) → IsCurrent seen old.engine base h → AreRight login runs may (replay base h) (attempts_in old)
      → LivesOn login runs (fate login) end base h h old.kept mid.kept
  lives_dropped may seen old mid paired left tickets end base h i r =
      let ks : List Started = map started_of (attempts_in old) in
      let were : old.kept ≡ ks = paired_kept old.kept old.seen.live paired in
      let kept : mid.kept ≡ filter (λ k. is_ready_in (replay base h) (task_in k)) ks =
      left.kept ∙ (sym (filter-map (λ k. is_ready_in old.engine.state (task_in k)) started_of (attempts_in old)) ∙ (λ j. filter (λ k. sym (ready_at seen old.engine base h i (task_in k)) j) ks)) in
      lives_at end base h h h ks (filter (λ k. is_ready_in (replay base h) (task_in k)) ks) old.kept mid.kept refl were kept
      (lives_stale end base h ks (children_of may (replay base h) (attempts_in old) r) (subst (λ (js : List Started). IsDistinct eqb (map number_of js)) were tickets))

  module _ {F : Type 0} (Is : Task → F → Type 0) (seen : Option Files) (old mid : WorkSide F) (b : HasBegun Is old.engine.state old mid) (law : Lawful old.engine.state) (paired : ArePaired old.kept old.seen.live) (paired' : ArePaired mid.kept mid.seen.live)
      (tickets : IsDistinct eqb (map number_of mid.kept)) (tasks : IsDistinct is_same_task (map task_in mid.kept)) where
    -- slots are filled
    pub lives_filled : (end : Turn) (base : State Bytes) (h : History) → IsCurrent seen old.engine base h → LivesOn login runs (fate login) end base h h old.kept mid.kept
    lives_filled end base h i =
        let front : List Started = map started_of (attempts_in old) in
        let more : List Started = map started_of b.started in
        let parts : mid.kept ≡ front ++ more = b.live.are.kept ∙ map-append started_of (attempts_in old) b.started in
        lives_at end base h h h front (front ++ more) old.kept mid.kept refl (paired_kept old.kept old.seen.live paired) parts
        (lives_starts end base h front more
        (ready_children (replay base h) old.engine.state (ready_at seen old.engine base h i) b.started (firsts_ready old.engine.state law (map the_task (attempts_in old)) b.started b.firsts))
        (subst (λ (ks : List Started). IsDistinct eqb (map number_of ks)) parts tickets) (subst (λ (ks : List Started). IsDistinct is_same_task (map task_in ks)) parts tasks))

    -- and those that were kept then are kept
    pub lives_as_filled : (ks : List Started) → ks ≡ mid.kept → (end : Turn) (base : State Bytes) (h : History) → IsCurrent seen old.engine base h → LivesOn login runs (fate login) end base h h old.kept ks
    lives_as_filled ks same end base h i = lives_at end base h h h old.kept mid.kept old.kept ks refl refl same (lives_filled end base h i)

    -- but for one that was lost
    pub lives_but_one : (new : WorkSide F) → Lost (attempts_in mid) mid new → (end : Turn) → may_lose end ≡ true → (base : State Bytes) (h : History) → IsCurrent seen old.engine base h → LivesOn login runs (fate login) end base h h old.kept new.kept
    lives_but_one new l end lose base h i =
        lives_then end base h h h old.kept mid.kept new.kept (lives_filled end base h i)
        (gone_lost base h (attempts_in mid) l.x mid new l.gone mid.kept (paired_kept mid.kept mid.seen.live paired') tickets end lose)
