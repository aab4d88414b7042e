-- How slots are filled.
use Rattle.std.proofs.Common.{◌≡◌, ◌==◌, ◌⊎◌, inl, inr, ℕ, suc, ◌+◌, ◌<◌, ◌≤◌, min, Bool, true, false, List, [], ◌∷◌, ◌++◌, length, map, refl, ap, sym, subst, ◌∙◌, eqb, arith, append_assoc, append-nil, length-append, Option, Some, None}
use Rattle.std.specs.Prelude.{IfSome, is_some}
use Rattle.std.specs.List.{AllByRecursion, IsDistinct, flat_map, list_any}
use Rattle.std.proofs.lemmas.List.{map-append}
use Rattle.mt_base.specs.Counts.{NeverFell, Rose}
use Rattle.mt_types.specs.declared.body.Body.{Body}
use Rattle.mt_types.specs.declared.job.Task.{Task}
use Rattle.mt_model.specs.Lawful.{Lawful}
use Rattle.mt_model.specs.State.{State}
use Rattle.mt_model.specs.Tasks.{ready}
use Rattle.mt_types.specs.declared.job.Job.{Job}
use Rattle.mt_sched.proofs.Ready.{ready_tasks_are_ready}
use Rattle.mt_spawn.specs.Children.{Child, SameCounts, SameLive, Seen, lives, ticket_of}
use Rattle.mt_spawn.specs.declared.task.Ticket.{Ticket}
use Rattle.mt_sched.specs.Plan.{first_but, has_task, is_same_task}
use Rattle.mt_opening.specs.Current.{EngineState}
use Rattle.mt_tasks.specs.Launching.{Comes}
use Rattle.mt_tasks.specs.Standing.{is_ready_in, ready_tasks}
use Rattle.mt_runner.specs.Attempts.{AreFirsts, AreOf, ArePaired, Attempt, attempts, child_of, number_of, started_of, task_in, the_task, the_ticket}
use Rattle.mt_runner.specs.Attends.{AreApart, AreMany, Live, Stopped, Tried, WorkSide, attempts_in, is_ready_now, work_side}
use Rattle.mt_runner.specs.Filling.{Begins, BeginsOne, Fills, HasBegun}
use Rattle.mt_disk.specs.Files.{Files}
use Rattle.mt_types.specs.declared.task.Raw.{Raw}
use Rattle.mt_types.specs.declared.task.Run.{Run}
use Rattle.mt_tasks.specs.Right.{IsRightNow}
use Rattle.mt_runner.specs.declared.fill.Begun.{Begun}
use Rattle.mt_runner.specs.declared.runner.Started.{Started}
use Rattle.mt_runner.proofs.Lists.{all_both}
use Rattle.mt_runner.proofs.Pairs.{added_to_both, are_of, are_paired, are_those, kept_length, same_both, tasks_of, tickets_of}
use Rattle.mt_runner.proofs.Stales.{counts_none, counts_on}
use Rattle.mt_runner.proofs.Tasks.{next_there, no_more, none_left}

some_is : (o : Option Task) (t : Task) → o ≡ Some t → is_some o ≡ true
some_is o t e = ap is_some e

-- a task that is next is ready
pub ready_now : (s : State Body) (jobs : List (Job Body)) (busy : List Task) (t : Task) → Lawful s → jobs ≡ s.jobs → Some t ≡ first_but busy (flat_map ready jobs) → is_ready_in s t ≡ true
ready_now s jobs busy t law same next =
    sym (ready_tasks_are_ready s.jobs law.jobs.rising t)
    ∙ next_there busy (ready_tasks s) t (ap (λ (js : List (Job Body)). first_but busy (flat_map ready js)) (sym same) ∙ sym next)

pub each_ready : (s : State Body) (jobs : List (Job Body)) (busy : List Task) (o : Option Task) → Lawful s → jobs ≡ s.jobs → o ≡ first_but busy (flat_map ready jobs) → IfSome o (λ t. is_ready_in s t ≡ true)
each_ready s jobs busy None law same next = tt
each_ready s jobs busy (Some t) law same next = ready_now s jobs busy t law same next

module _ {F : Type 0} where
  -- ---- one start

  -- all live, as they did
  pub live_same : (ks ks' : List Started) (old new : Seen F) (e : EngineState) (df df' : ℕ) → ArePaired ks old.live → ks' ≡ ks → SameLive old new
      → Live (attempts_in (work_side ks old e df)) (work_side ks old e df) (work_side ks' new e df')
  live_same ks ks' old new e df df' p k s = record { are = same_both ks ks' old.live new.live (attempts ks old.live) (are_of ks old.live p) k s.live; counts = s.counts }

  -- the first task that has no child
  pub next_is : (ks : List Started) (cs : List (Child F)) (s : State Body) (o : Option Task) → ArePaired ks cs → o ≡ first_but (map task_in ks) (ready_tasks s)
      → first_but (map the_task (attempts ks cs)) (ready_tasks s) ≡ o
  next_is ks cs s o p e = sym (e ∙ ap (λ (ts : List Task). first_but ts (ready_tasks s)) (tasks_of ks cs (attempts ks cs) (are_of ks cs p)))

  -- no task is ready that has no child
  pub live_none : (s : State Body) (ks ks' : List Started) (old : Seen F) (e : EngineState) (df : ℕ) → ArePaired ks old.live → ks' ≡ ks → first_but (map the_task (attempts ks old.live)) (ready_tasks s) ≡ None
      → (first_but (map the_task (attempts_in (work_side ks old e df))) (ready_tasks s) ≡ None) × Live (attempts_in (work_side ks old e df)) (work_side ks old e df) (work_side ks' old e df) × NeverFell old.faults old.faults
  live_none s ks ks' old e df p k none = (none, live_same ks ks' old old e df df p k (record { live = refl; counts = counts_none old }), omega arith)

  pub begins_one : (Is : Task → F → Type 0) (s : State Body) (ks ks' : List Started) (old new : Seen F) (e : EngineState) (df df' : ℕ) (ticket : Ticket) (task : Task) → ArePaired ks old.live
      → first_but (map the_task (attempts ks old.live)) (ready_tasks s) ≡ Some task → Comes (Is task) old ticket.number new → ks' ≡ ks ++ record { ticket = ticket; task = task } ∷ []
      → BeginsOne Is s (work_side ks old e df) (work_side ks' new e df')
  begins_one Is s ks ks' old new e df df' ticket task p next c more =
      let x : Attempt F = record { ticket = ticket.number; task = task; fate = c.fate; waits = 0 } in
      record {
        x = x;
        next = next;
        unwaited = refl;
        right = c.right;
        live = record { are = added_to_both ks ks' old.live new.live (attempts ks old.live) x (are_of ks old.live p) more c.added; counts = c.counts };
        faults = c.faults;
      }

  pub stopped : (s : State Body) (ks ks' : List Started) (old new : Seen F) (e : EngineState) (df df' : ℕ) (task : Task) → ArePaired ks old.live
      → first_but (map the_task (attempts ks old.live)) (ready_tasks s) ≡ Some task → ks' ≡ ks → SameLive old new
      → Stopped s (attempts_in (work_side ks old e df)) (work_side ks old e df) (work_side ks' new e df')
  stopped s ks ks' old new e df df' task p next k same =
      record { next = some_is (first_but (map the_task (attempts ks old.live)) (ready_tasks s)) task next; live = live_same ks ks' old new e df df' p k same }

  -- the new ticket is none of those that are kept
  pub fresh_ticket : (ks : List Started) (cs : List (Child F)) (t : ℕ) → ArePaired ks cs → lives t cs ≡ false → list_any (λ n. t == n) (map number_of ks) ≡ false
  fresh_ticket ks cs t p f = ap (λ (ns : List ℕ). list_any (λ n. t == n) ns) p ∙ f

  -- ---- one start after another

  pub firsts_more : (ready skip : List Task) (xs : List (Attempt F)) (x : Attempt F) → AreFirsts ready skip xs → first_but (skip ++ map the_task xs) ready ≡ Some x.task → x.waits ≡ 0 → AreFirsts ready skip (xs ++ x ∷ [])
  firsts_more ready skip [] x f n w = (subst (λ (ts : List Task). first_but ts ready ≡ Some x.task) (append-nil skip) n, w, tt)
  firsts_more ready skip (y ∷ ys) x f n w =
      (f.0, f.1, firsts_more ready (skip ++ y.task ∷ []) ys x f.2 (subst (λ (ts : List Task). first_but ts ready ≡ Some x.task) (sym (append_assoc skip (y.task ∷ []) (map the_task ys))) n) w)

  pub began_none : (Is : Task → F → Type 0) (s : State Body) (ks : List Started) (seen : Seen F) (e : EngineState) (df : ℕ) → ArePaired ks seen.live → HasBegun Is s (work_side ks seen e df) (work_side ks seen e df)
  began_none Is s ks seen e df p = record {
    started = [];
    firsts = tt;
    right = tt;
    live = record { are = subst (λ (ys : List (Attempt F)). AreOf ks seen.live ys) (sym (append-nil (attempts ks seen.live))) (are_of ks seen.live p); counts = counts_none seen };
    faults = omega arith;
  }

  module _ (Is : Task → F → Type 0) (s : State Body) (old mid : WorkSide F) (b : HasBegun Is s old mid) where
    -- those that live at the end are those of before and those that were started
    pub now_are : attempts_in mid ≡ attempts_in old ++ b.started
    now_are = are_those mid.kept mid.seen.live (attempts_in old ++ b.started) b.live.are

    tasks_now : map the_task (attempts_in mid) ≡ map the_task (attempts_in old) ++ map the_task b.started
    tasks_now = ap (map the_task) now_are ∙ map-append the_task (attempts_in old) b.started

    pub next_now : (o : Option Task) → first_but (map the_task (attempts_in mid)) (ready_tasks s) ≡ o → first_but (map the_task (attempts_in old ++ b.started)) (ready_tasks s) ≡ o
    next_now o e = ap (λ (ys : List (Attempt F)). first_but (map the_task ys) (ready_tasks s)) (sym now_are) ∙ e

    pub some_now : is_some (first_but (map the_task (attempts_in mid)) (ready_tasks s)) ≡ true → is_some (first_but (map the_task (attempts_in old ++ b.started)) (ready_tasks s)) ≡ true
    some_now e = ap (λ (ys : List (Attempt F)). is_some (first_but (map the_task ys) (ready_tasks s))) (sym now_are) ∙ e

    pub began_paired : ArePaired mid.kept mid.seen.live
    began_paired = are_paired mid.kept mid.seen.live (attempts_in old ++ b.started) b.live.are

  module _ (Is : Task → F → Type 0) (s : State Body) (old mid new : WorkSide F) (b : HasBegun Is s old mid) where
    pub began_more : BeginsOne Is s mid new → HasBegun Is s old new
    began_more n =
        let all : attempts_in mid ++ n.x ∷ [] ≡ attempts_in old ++ (b.started ++ n.x ∷ []) = ap (λ (ys : List (Attempt F)). ys ++ n.x ∷ []) (now_are Is s old mid b) ∙ append_assoc (attempts_in old) b.started (n.x ∷ []) in
        record {
          started = b.started ++ n.x ∷ [];
          firsts = firsts_more (ready_tasks s) (map the_task (attempts_in old)) b.started n.x b.firsts (subst (λ (ts : List Task). first_but ts (ready_tasks s) ≡ Some n.x.task) (tasks_now Is s old mid b) n.next) n.unwaited;
          right = all_both (λ x. Is x.task x.fate) b.started (n.x ∷ []) b.right (n.right, tt);
          live = record { are = subst (λ (ys : List (Attempt F)). AreOf new.kept new.seen.live ys) all n.live.are; counts = counts_on old.seen mid.seen new.seen b.live.counts n.live.counts };
          faults = omega (arith, b.faults, n.faults);
        }

    -- nothing more was started
    abbrev pub began_same : Live (attempts_in mid) mid new → NeverFell mid.seen.faults new.seen.faults → HasBegun Is s old new
    began_same l f = record {
      started = b.started;
      firsts = b.firsts;
      right = b.right;
      live = record { are = subst (λ (ys : List (Attempt F)). AreOf new.kept new.seen.live ys) (now_are Is s old mid b) l.are; counts = counts_on old.seen mid.seen new.seen b.live.counts l.counts };
      faults = omega (arith, b.faults, f);
    }

  -- the same at an equal login, rule and disk
  pub begins_at : {R : Type 0} (may : R → F → Raw → Type 0) (gives : R → Run → List ℕ → Raw → Type 0) (files files' : Option Files) (e : EngineState) (login login' : List ℕ) (b : Begun) (r r' : R) (old new : WorkSide F)
      → login' ≡ login → r' ≡ r → files' ≡ files → Begins (IsRightNow login' (gives r') (may r') files' e) e.state old b new → Begins (IsRightNow login (gives r) (may r) files e) e.state old b new
  begins_at {R} may gives files files' e login login' b r r' old new el er ef h =
      subst (λ (l : List ℕ). Begins (IsRightNow l (gives r) (may r) files e) e.state old b new) el
      (subst (λ (q : R). Begins (IsRightNow login' (gives q) (may q) files e) e.state old b new) er
      (subst (λ (o : Option Files). Begins (IsRightNow login' (gives r') (may r') o e) e.state old b new) ef h))
