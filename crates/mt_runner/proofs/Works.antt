-- What the work of a turn did to children, slots and the state.
use Rattle.std.proofs.Common.{◌≡◌, ◌==◌, ◌⊎◌, inl, inr, ℕ, ◌+◌, ◌<◌, ◌≤◌, min, Bool, true, false, List, [], ◌∷◌, ◌++◌, length, map, refl, ap, sym, subst, ◌∙◌, eqb, arith, Option, Some, None}
use Rattle.std.specs.Prelude.{is_some, ◌||◌}
use Rattle.std.specs.List.{AllByRecursion, AllZip, IsDistinct}
use Rattle.std.proofs.lemmas.List.{length-map}
use Rattle.mt_base.specs.Counts.{NeverFell, Rose}
use Rattle.mt_types.specs.declared.body.Body.{Body}
use Rattle.mt_types.specs.declared.job.Task.{Task}
use Rattle.mt_types.specs.declared.task.Raw.{Raw}
use Rattle.mt_model.specs.Lawful.{Lawful}
use Rattle.mt_model.specs.State.{State}
use Rattle.mt_spawn.specs.Children.{Child, SameCounts, SameLive}
use Rattle.mt_spawn.specs.declared.task.Left.{Left}
use Rattle.mt_sched.specs.Plan.{first_but, has_task, is_same_task}
use Rattle.mt_sched.proofs.Ready.{ready_tasks_are_apart, ready_tasks_are_ready}
use Rattle.mt_tasks.specs.Standing.{is_ready_in, ready_tasks, waiting}
use Rattle.mt_tasks.specs.Adding as adding
use Rattle.mt_tasks.specs.declared.outcomes.OutcomeEnd.{OutcomeEnd}
use Rattle.mt_tasks.specs.declared.outcomes.OutcomeEnd.TheVariants as outcome
use Rattle.mt_runner.specs.Attempts.{AreFirsts, AreOf, Attempt, HasWaited, attempts, number_of, task_in, the_task}
use Rattle.mt_runner.specs.Attends.{AreApart, AreMany, Attends, Ended, Finishes, Live, Lost, NothingReady, Stopped, Tried, Waiting, WorkSide, Works, attempts_in, is_ready_now, ready_of}
use Rattle.mt_runner.specs.Awaiting.{HasCome, NoneCame}
use Rattle.mt_runner.specs.Filling.{HasBegun}
use Rattle.mt_runner.specs.Moves.{end_of_job, end_of_task}
use Rattle.mt_runner.specs.declared.runner.Started.{Started}
use Rattle.mt_runner.specs.declared.turn.Turn.{Turn}
use Rattle.mt_runner.proofs.Lists.{all_both, all_last, all_passed}
use Rattle.mt_runner.proofs.Pairs.{are_those, kept_length, tasks_of, tickets_of}
use Rattle.mt_runner.proofs.Stales.{counts_on}
use Rattle.mt_runner.proofs.Tasks.{next_there, no_more, none_left, one_task}

-- ---- tasks among the ready ones

all_has : (ready ts : List Task) → AllByRecursion (λ t. has_task ready t ≡ true) ts → (q : Task) → has_task ts q ≡ true → has_task ready q ≡ true
all_has ready [] a q h = cc
all_has ready (u ∷ us) a q h = by (is_same_task q u) refl h (λ r. all_has ready us a.1 q r)
  where
    by : (b : Bool) → is_same_task q u ≡ b → (b || has_task us q) ≡ true → (has_task us q ≡ true → has_task ready q ≡ true) → has_task ready q ≡ true
    by true is h rest = subst (λ (v : Task). has_task ready v ≡ true) (sym (one_task q u is)) a.0
    by false is h rest = rest h

min_all : (slots n m : ℕ) → m ≤ n → n ≤ m → m ≤ slots → m ≡ min slots n
min_all slots n m a b c = omega arith

min_slots : (slots n m : ℕ) → m ≤ n → m ≡ slots → m ≡ min slots n
min_slots slots n m a b = omega arith

module _ {F : Type 0} (s : State Body) (law : Lawful s) where
  pub firsts_ready : (skip : List Task) (xs : List (Attempt F)) → AreFirsts (ready_tasks s) skip xs → AllByRecursion (λ x. is_ready_now s x ≡ true) xs
  firsts_ready skip [] f = tt
  firsts_ready skip (x ∷ xs) f = (sym (ready_tasks_are_ready s.jobs law.jobs.rising x.task) ∙ next_there skip (ready_tasks s) x.task f.0, firsts_ready (skip ++ x.task ∷ []) xs f.2)

  all_among : (xs : List (Attempt F)) → AllByRecursion (λ x. is_ready_now s x ≡ true) xs → AllByRecursion (λ t. has_task (ready_tasks s) t ≡ true) (map the_task xs)
  all_among [] a = tt
  all_among (x ∷ xs) a = (ready_tasks_are_ready s.jobs law.jobs.rising x.task ∙ a.0, all_among xs a.1)

  -- as many live as the lesser of slots and ready tasks, where none is left or all slots are taken
  pub many_of : (slots : ℕ) (ys : List (Attempt F)) → AllByRecursion (λ y. is_ready_now s y ≡ true) ys → AreApart ys → length ys ≤ slots
      → (first_but (map the_task ys) (ready_tasks s) ≡ None) ⊎ (length ys ≡ slots) → AreMany slots s ys
  many_of slots ys a apart few (inl none) =
      let up = no_more (map the_task ys) (ready_tasks s) apart.tasks (all_has (ready_tasks s) (map the_task ys) (all_among ys a)) in
      let down = no_more (ready_tasks s) (map the_task ys) (ready_tasks_are_apart s.jobs law.jobs.rising) (none_left (map the_task ys) (ready_tasks s) none) in
      let long = length-map ys the_task in
      min_all slots (length (ready_tasks s)) (length ys) (omega (arith, up, long)) (omega (arith, down, long)) few
  many_of slots ys a apart few (inr full) =
      let up = no_more (map the_task ys) (ready_tasks s) apart.tasks (all_has (ready_tasks s) (map the_task ys) (all_among ys a)) in
      let long = length-map ys the_task in
      min_slots slots (length (ready_tasks s)) (length ys) (omega (arith, up, long)) full

-- ---- what a turn did, once slots were filled

none_of_many : (slots n : ℕ) → 0 < slots → 0 ≡ min slots n → n ≡ 0
none_of_many slots n a b = omega arith

no_list : {X : Type 0} (xs : List X) → length xs ≡ 0 → xs ≡ []
no_list [] e = refl
no_list (x ∷ xs) e = cc

-- what a test for no child says
pub zero_of : (n : ℕ) → true ≡ (n == 0) → n ≡ 0
zero_of n e = grind arith

pub some_of : (n : ℕ) → false ≡ (n == 0) → 0 < n
some_of n e = grind arith

module _ {F : Type 0} (Is : Task → F → Type 0) (slots : ℕ) (old mid : WorkSide F) (law : Lawful old.engine.state) (b : HasBegun Is old.engine.state old mid)
    (ready : AllByRecursion (λ x. is_ready_now old.engine.state x ≡ true) (attempts_in old)) where
  pub ys : List (Attempt F)
  ys = attempts_in old ++ b.started

  pub tried_of : IsDistinct eqb (map number_of mid.kept) → IsDistinct is_same_task (map task_in mid.kept) → length mid.kept ≤ slots → Tried slots old.engine.state (attempts_in old) (attempts_in old ++ b.started)
  tried_of tickets tasks few = record {
    started = b.started;
    firsts = b.firsts;
    are = refl;
    all_ready = all_both (λ x. is_ready_now old.engine.state x ≡ true) (attempts_in old) b.started ready (firsts_ready old.engine.state law (map the_task (attempts_in old)) b.started b.firsts);
    apart = record {
      tickets = subst (λ (ns : List ℕ). IsDistinct eqb ns) (tickets_of mid.kept mid.seen.live (attempts_in old ++ b.started) b.live.are) tickets;
      tasks = subst (λ (ts : List Task). IsDistinct is_same_task ts) (tasks_of mid.kept mid.seen.live (attempts_in old ++ b.started) b.live.are) tasks;
    };
    few = omega (arith, few, kept_length mid.kept mid.seen.live (attempts_in old ++ b.started) b.live.are);
  }

  -- a start failed
  abbrev pub stops : is_some (first_but (map the_task (attempts_in old ++ b.started)) (ready_tasks old.engine.state)) ≡ true → Stopped old.engine.state (attempts_in old ++ b.started) old mid
  stops next = record { next = next; live = b.live }

  -- those that live are all that were tried
  pub now_ys : attempts_in mid ≡ attempts_in old ++ b.started
  now_ys = are_those mid.kept mid.seen.live (attempts_in old ++ b.started) b.live.are

  module _ (t : Tried slots old.engine.state (attempts_in old) (attempts_in old ++ b.started))
      (whole : (first_but (map the_task (attempts_in old ++ b.started)) (ready_tasks old.engine.state) ≡ None) ⊎ (length (attempts_in old ++ b.started) ≡ slots)) where
    pub are_many : AreMany slots old.engine.state (attempts_in old ++ b.started)
    are_many = many_of old.engine.state law slots (attempts_in old ++ b.started) t.all_ready t.apart t.few whole

    -- nothing is ready
    pub idle : 0 < slots → length mid.kept ≡ 0 → NothingReady old.engine.state old mid
    idle some empty =
        let none : length (attempts_in old ++ b.started) ≡ 0 = sym (kept_length mid.kept mid.seen.live (attempts_in old ++ b.started) b.live.are) ∙ empty in
        record {
          none = no_list (ready_tasks old.engine.state) (none_of_many slots (length (ready_tasks old.engine.state)) some (sym none ∙ are_many));
          live = subst (λ (zs : List (Attempt F)). Live zs old mid) (no_list (attempts_in old ++ b.started) none) b.live;
        }

    -- all were waited for in vain
    pub waits : (new : WorkSide F) → 0 < length mid.kept → NoneCame mid new → Waiting slots old.engine.state (attempts_in old ++ b.started) old new
    waits new some n = record {
      some = omega (arith, some, kept_length mid.kept mid.seen.live (attempts_in old ++ b.started) b.live.are);
      many = are_many;
      zs = n.zs;
      waited = subst (λ (xs : List (Attempt F)). AllZip HasWaited xs n.zs) now_ys n.waited;
      are = n.are;
      waits = omega (arith, n.waits, b.live.counts.waits);
      company = n.company ∙ b.live.counts.company;
    }

    -- one has ended
    pub ended : (may : F → Raw → Type 0) (task : Task) (left : Left) (told : Option Raw) (new : WorkSide F) → HasCome may task left told mid new → Ended slots old.engine.state (attempts_in old ++ b.started) task old new
    ended may task left told new h = record {
      x = h.x;
      its = h.its;
      gone = record { front = h.gone.front; back = h.gone.back; were = sym now_ys ∙ h.gone.were; are = h.gone.are; waits = h.gone.waits ∙ b.live.counts.waits };
      many = are_many;
      company = h.company ∙ (ap (λ (n : ℕ). min 18446744073709551615 (n + length (attempts_in mid))) b.live.counts.company ∙ ap (λ (xs : List (Attempt F)). min 18446744073709551615 (old.seen.company + length xs)) now_ys);
    }

  -- one was lost
  pub loses : (new : WorkSide F) → Lost (attempts_in mid) mid new → Lost (attempts_in old ++ b.started) old new
  loses new l = record {
    x = l.x;
    gone = record { front = l.gone.front; back = l.gone.back; were = sym now_ys ∙ l.gone.were; are = l.gone.are; waits = l.gone.waits ∙ b.live.counts.waits };
    company = l.company ∙ b.live.counts.company;
  }

  -- some live
  pub some_live : 0 < length mid.kept → 0 < length (attempts_in old ++ b.started)
  some_live some = omega (arith, some, kept_length mid.kept mid.seen.live (attempts_in old ++ b.started) b.live.are)

  -- all live still
  pub lives_on : (new : WorkSide F) → Live (attempts_in mid) mid new → Live (attempts_in old ++ b.started) old new
  lives_on new l = record { are = subst (λ (xs : List (Attempt F)). AreOf new.kept new.seen.live xs) now_ys l.are; counts = counts_on old.seen mid.seen new.seen b.live.counts l.counts }

-- ---- behind the end of a child

module _ {F : Type 0} (slots : ℕ) (s : State Body) (ys : List (Attempt F)) (t : Task) (old : WorkSide F) where
  -- what became of its outcome touches no child
  pub ended_on : (mid new : WorkSide F) → new.kept ≡ mid.kept → SameLive mid.seen new.seen → Ended slots s ys t old mid → Ended slots s ys t old new
  ended_on mid new kept same h = record {
    x = h.x;
    its = h.its;
    gone = record { front = h.gone.front; back = h.gone.back; were = h.gone.were; are = record { kept = kept ∙ h.gone.are.kept; live = same.live ∙ h.gone.are.live }; waits = same.counts.waits ∙ h.gone.waits };
    many = h.many;
    company = same.counts.company ∙ h.company;
  }

-- its task was ready
pub taken_ready : {F : Type 0} (slots : ℕ) (s : State Body) (ys : List (Attempt F)) (t : Task) (old new : WorkSide F) → AllByRecursion (λ y. is_ready_now s y ≡ true) ys → Ended slots s ys t old new → is_ready_in s t ≡ true
taken_ready {F} slots s ys t old new all h =
    subst (λ (u : Task). is_ready_in s u ≡ true) h.its (all_last (λ y. is_ready_now s y ≡ true) h.gone.front (h.x ∷ h.gone.back) (subst (λ (zs : List (Attempt F)). AllByRecursion (λ y. is_ready_now s y ≡ true) zs) h.gone.were all)).0

-- by the answer
pub took : {F : Type 0} (slots now : ℕ) (xs ys : List (Attempt F)) (t : Task) (old new : WorkSide F) (end : OutcomeEnd) → Tried slots old.engine.state xs ys → Ended slots old.engine.state ys t old new
    → adding.LeavesEngine end (adding.Committed t now old.engine.state) old.engine new.engine → (end ≡ outcome.Unread → Rose old.seen.faults new.seen.faults) → (end ≡ outcome.Disk → Rose old.disk_faults new.disk_faults)
    → Works slots now xs old (end_of_task t end) new
took slots now xs ys t old new outcome.Added tried h e unread disk = (ys, tried, h, e.0, e.1)
took slots now xs ys t old new outcome.Full tried h e unread disk = (ys, tried, (t, h), e)
took slots now xs ys t old new outcome.Unread tried h e unread disk = (ys, tried, inr (inr (t, h)), unread refl, e)
took slots now xs ys t old new outcome.Disk tried h e unread disk = (ys, tried, inr ((t, h), e), disk refl)
took slots now xs ys t old new outcome.Memory tried h e unread disk = (ys, tried, inr ((t, h), e))

-- behind the end of a job
pub finished : {F : Type 0} (n now : ℕ) (xs : List (Attempt F)) (old new : WorkSide F) (end : OutcomeEnd) → (end ≡ outcome.Unread → ⊥) → Live xs old new → adding.LeavesEngine end (adding.Ended n now old.engine.state) old.engine new.engine
    → (end ≡ outcome.Disk → Rose old.disk_faults new.disk_faults) → Finishes n now xs old (end_of_job n end) new
finished n now xs old new outcome.Added read live e disk = (refl, live, e.0, e.1)
finished n now xs old new outcome.Full read live e disk = (live, e)
finished n now xs old new outcome.Unread read live e disk = absurd (read refl)
finished n now xs old new outcome.Disk read live e disk = (live, e, disk refl)
finished n now xs old new outcome.Memory read live e disk = (live, e)

-- a turn, behind the children that were let go
pub attended : {F : Type 0} (slots now : ℕ) (old mid : WorkSide F) (end : Turn) (new : WorkSide F) → AreOf mid.kept mid.seen.live (ready_of old.engine.state (attempts_in old)) → SameCounts old.seen mid.seen → NeverFell old.seen.faults mid.seen.faults
    → mid.engine ≡ old.engine → mid.disk_faults ≡ old.disk_faults
    → ((n : ℕ) × (waiting old.engine.state ≡ Some n) × Finishes n now (attempts_in mid) mid end new) ⊎ ((waiting old.engine.state ≡ None) × Works slots now (attempts_in mid) mid end new) → Attends slots now old end new
attended slots now old mid end new are counts faults engine disk does = record {
  mid = mid;
  left = are_those mid.kept mid.seen.live (ready_of old.engine.state (attempts_in old)) are;
  counts = counts;
  faults = faults;
  engine = engine;
  disk = disk;
  does = does;
}

-- the children that are left are ready
pub left_ready : {F : Type 0} (s : State Body) (ks : List Started) (cs : List (Child F)) (xs : List (Attempt F)) → AreOf ks cs (ready_of s xs) → AllByRecursion (λ x. is_ready_now s x ≡ true) (attempts ks cs)
left_ready {F} s ks cs xs are = subst (λ (ys : List (Attempt F)). AllByRecursion (λ x. is_ready_now s x ≡ true) ys) (sym (are_those ks cs (ready_of s xs) are)) (all_passed (is_ready_now s) xs)
