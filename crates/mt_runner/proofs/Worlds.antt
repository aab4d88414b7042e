-- The worlds of a runner's children, and the steps between them.
use Rattle.std.proofs.Common.{◌≡◌, ◌==◌, inl, inr, ℕ, suc, ◌<◌, Bool, true, false, not, cond, List, [], ◌∷◌, ◌++◌, length, map, eqb, refl, ap, sym, subst, ◌∙◌, arith, append-nil, append_assoc, Option, Some, None}
use Rattle.std.specs.Prelude.{◌&&◌, ◌||◌, filter}
use Rattle.std.specs.List.{AllByRecursion, Contains, IsDistinct, cons_option, list_any, slice_get}
use Rattle.std.specs.Option.{option_and_then, option_map}
use Rattle.std.proofs.lemmas.List.Elements.{filter_map-append}
use Rattle.std.proofs.lemmas.Map.Keys.{IsDistinct-head, IsDistinct-tail}
use Rattle.mt_types.specs.WellMade.{IsWellMade, IsWellMadeFate}
use Rattle.mt_types.specs.declared.document.Phase.{Phase}
use Rattle.mt_types.specs.declared.job.Job.{Job}
use Rattle.mt_types.specs.declared.job.Task.{Task}
use Rattle.mt_model.specs.Types.{Archive, Close, Command, Commit, Fate, MOST_COMMANDS, Raw, Run}
use Rattle.mt_model.specs.CommandStep.{allowed, replay, step}
use Rattle.mt_model.specs.Honest.{Bytes, CameOfChild, IsHonest, OfFound}
use Rattle.mt_model.specs.Lawful.{Lawful}
use Rattle.mt_model.specs.State.{State, first_state, job_at}
use Rattle.mt_model.specs.Tasks.{is_task}
use Rattle.mt_model.proofs.Replays.{replay_more}
use Rattle.mt_lives.specs.World.{Attempt, End, Finish, Happens, IsAttempt, LifeStep, Lose, MayEnd, MayStart, Start, Steps, ValidWorld, World, attempt_at, others, same_number, same_task, task_of, ticket_of}
use Rattle.mt_lives.proofs.Attempts.{attempt_stays}
use Rattle.mt_lives.proofs.Valid.{step_valid}
use Rattle.mt_runner.specs.Attempts.{number_of, task_in}
use Rattle.mt_runner.specs.Living.{AreAttempts, IsStaleIn, Leads, MayTake, attempt_in, attempts_over, may_lose, may_waste, world_of}
use Rattle.mt_runner.specs.Stale.{is_other_child}
use Rattle.mt_tasks.specs.Standing.{is_ready_in}
use Rattle.mt_runner.specs.declared.runner.Started.{Started}
use Rattle.mt_runner.specs.declared.turn.Turn.{Turn}
use Rattle.mt_runner.proofs.Lists.{In, any_in, distinct_filter}
use Rattle.mt_tasks.proofs.Rights.{ready_job}

-- ---- children without those of some tickets

abbrev drop_tickets : List ℕ → List Started → List Started
drop_tickets [] ks = ks
drop_tickets (t ∷ ts) ks = drop_tickets ts (filter (is_other_child t) ks)

fewer : (t : ℕ) (ts : List ℕ) (ks : List Started) → AllByRecursion (λ k. list_any (λ n. number_of k == n) (t ∷ ts) ≡ true) ks → AllByRecursion (λ k. list_any (λ n. number_of k == n) ts ≡ true) (filter (is_other_child t) ks)
fewer t ts [] all = tt
fewer t ts (k ∷ ks) all = by (number_of k == t) (turned t (number_of k)) all.0 (fewer t ts ks all.1)
  where
    turned : (m n : ℕ) → (m == n) ≡ (n == m)
    turned m n = grind arith

    by : (b : Bool) → (t == number_of k) ≡ b → (b || list_any (λ n. number_of k == n) ts) ≡ true → AllByRecursion (λ k. list_any (λ n. number_of k == n) ts ≡ true) (filter (is_other_child t) ks)
        → AllByRecursion (λ k. list_any (λ n. number_of k == n) ts ≡ true) (filter (is_other_child t) (k ∷ ks))
    by true is any rest = subst (λ (b : Bool). AllByRecursion (λ k. list_any (λ n. number_of k == n) ts ≡ true) (cond {A = List Started} (not b) (k ∷ filter (is_other_child t) ks) (filter (is_other_child t) ks))) (sym is) rest
    by false is any rest = subst (λ (b : Bool). AllByRecursion (λ k. list_any (λ n. number_of k == n) ts ≡ true) (cond {A = List Started} (not b) (k ∷ filter (is_other_child t) ks) (filter (is_other_child t) ks))) (sym is) (any, rest)

none_left : (ts : List ℕ) (ks : List Started) → AllByRecursion (λ k. list_any (λ n. number_of k == n) ts ≡ true) ks → drop_tickets ts ks ≡ []
none_left [] [] all = refl
none_left [] (k ∷ ks) all = let no : false ≡ true = all.0 in absurd (cc)
none_left (t ∷ ts) ks all = none_left ts (filter (is_other_child t) ks) (fewer t ts ks all)

each_in : (P : Started → Type 0) (ks : List Started) → ((k : Started) → In k ks → P k) → AllByRecursion P ks
each_in P [] f = tt
each_in P (k ∷ ks) f = (f k (inl refl), each_in P ks (λ j m. f j (inr m)))

-- ---- lists with distinct keys

self_other : (n : ℕ) → not (n == n) ≡ false
self_other n = grind arith

other_way : (m n : ℕ) → (m == n) ≡ false → not (n == m) ≡ true
other_way m n e = grind arith

other_here : (m n : ℕ) → (m == n) ≡ false → not (m == n) ≡ true
other_here m n e = grind arith

module _ {X : Type 0} (f : X → ℕ) where
  -- a list of other keys stays
  all_other : (m : ℕ) (xs : List X) → AllByRecursion (λ n. eqb m n ≡ false) (map f xs) → filter (λ y. not (m == f y)) xs ≡ xs
  all_other m [] a = refl
  all_other m (x ∷ xs) a = subst (λ (b : Bool). cond {A = List X} b (x ∷ filter (λ y. not (m == f y)) xs) (filter (λ y. not (m == f y)) xs) ≡ x ∷ xs) (sym (other_here m (f x) a.0)) (ap (λ (ys : List X). x ∷ ys) (all_other m xs a.1))

  at_middle : (P : ℕ → Type 0) (front : List X) (x : X) (back : List X) → AllByRecursion P (map f (front ++ x ∷ back)) → P (f x)
  at_middle P [] x back a = a.0
  at_middle P (y ∷ front) x back a = at_middle P front x back a.1

  -- without the key of one in the middle
  pub one_gone : (front : List X) (x : X) (back : List X) → IsDistinct eqb (map f (front ++ x ∷ back)) → filter (λ y. not (f x == f y)) (front ++ x ∷ back) ≡ front ++ back
  one_gone [] x back d =
      subst (λ (b : Bool). cond {A = List X} b (x ∷ filter (λ y. not (f x == f y)) back) (filter (λ y. not (f x == f y)) back) ≡ back) (sym (self_other (f x)))
      (all_other (f x) back (IsDistinct-head eqb (f x) (map f back) d))
  one_gone (y ∷ front) x back d =
      let apart : eqb (f y) (f x) ≡ false = at_middle (λ n. eqb (f y) n ≡ false) front x back (IsDistinct-head eqb (f y) (map f (front ++ x ∷ back)) d) in
      subst (λ (b : Bool). cond {A = List X} b (y ∷ filter (λ z. not (f x == f z)) (front ++ x ∷ back)) (filter (λ z. not (f x == f z)) (front ++ x ∷ back)) ≡ y ∷ front ++ back) (sym (other_way (f y) (f x) apart))
      (ap (λ (zs : List X). y ∷ zs) (one_gone front x back (IsDistinct-tail eqb (f y) (map f (front ++ x ∷ back)) d)))

-- the others are distinct still
distinct_but : (front : List Started) (k : Started) (back : List Started) → IsDistinct eqb (map number_of (front ++ k ∷ back)) → IsDistinct eqb (map number_of (front ++ back))
distinct_but front k back d =
    subst (λ (ks : List Started). IsDistinct eqb (map number_of ks)) (one_gone number_of front k back d) (distinct_filter eqb number_of (is_other_child (number_of k)) (front ++ k ∷ back) d)

both_false : (a b : Bool) → a ≡ false → b ≡ false → (a || b) ≡ false
both_false true b e f = e
both_false false b e f = f

-- the key of one is none of those before it
module _ {X K : Type 0} (eq : K → K → Bool) (symm : (a b : K) → eq a b ≡ eq b a) (f : X → K) where
  in_middle : (k : K) (front : List X) (x : X) (back : List X) → AllByRecursion (λ n. eq k n ≡ false) (map f (front ++ x ∷ back)) → eq k (f x) ≡ false
  in_middle k [] x back a = a.0
  in_middle k (y ∷ front) x back a = in_middle k front x back a.1

  pub none_before : (front : List X) (x : X) (back : List X) → IsDistinct eq (map f (front ++ x ∷ back)) → list_any (eq (f x)) (map f front) ≡ false
  none_before [] x back d = refl
  none_before (y ∷ front) x back d =
      both_false (eq (f x) (f y)) (list_any (eq (f x)) (map f front)) (symm (f x) (f y) ∙ in_middle (f y) front x back (IsDistinct-head eq (f y) (map f (front ++ x ∷ back)) d))
      (none_before front x back (IsDistinct-tail eq (f y) (map f (front ++ x ∷ back)) d))

contains_later : {X : Type 0} (y : X) (xs : List X) (x : X) → Contains xs x → Contains (y ∷ xs) x
contains_later y xs x c = let less = c.1 in (suc c.0, omega (arith, less), c.2)

pub contains_middle : {X : Type 0} (front : List X) (x : X) (back : List X) → Contains (front ++ x ∷ back) x
contains_middle [] x back = (0, omega arith, refl)
contains_middle (y ∷ front) x back = contains_later y (front ++ x ∷ back) x (contains_middle front x back)

number_swaps : (m n : ℕ) → eqb m n ≡ eqb n m
number_swaps m n = grind arith

task_swaps : (t u : Task) → same_task t u ≡ same_task u t
task_swaps t u =
    ap (λ b. b && ((t.phase == u.phase) && (t.place == u.place))) (number_swaps t.job u.job)
    ∙ (ap (λ b. (u.job == t.job) && (b && (t.place == u.place))) (number_swaps t.phase u.phase)
    ∙ ap (λ b. (u.job == t.job) && ((u.phase == t.phase) && b)) (number_swaps t.place u.place))

or_sides : (a b : Bool) → (a || b) ≡ false → (a ≡ false) × (b ≡ false)
or_sides true b e = (e, cc)
or_sides false b e = (refl, e)

module _ (login : Bytes) (gives : Run → Bytes → Raw → Type 0) (fate_of : Raw → Fate Bytes) where
  -- ---- a child of a task that a job has is an attempt

  pub record IsChild (s : State Bytes) (k : Started) : Type 0 where
    pub job : Job Bytes
    pub phase : Phase
    pub found : job_at s.jobs k.task.job ≡ Some job
    pub has : slice_get job.document.phases k.task.phase ≡ Some phase
    pub task : is_task job k.task.phase k.task.place ≡ true

  pub attempt_is : (s : State Bytes) (k : Started) (c : IsChild s k) → attempt_in login gives fate_of s k ≡ Some (attempt_at login gives fate_of (number_of k) k.task c.job c.phase)
  attempt_is s k c =
      ap (option_and_then (λ job. option_map (attempt_at login gives fate_of (number_of k) k.task job) (slice_get job.document.phases k.task.phase))) c.found
      ∙ ap (option_map (attempt_at login gives fate_of (number_of k) k.task c.job)) c.has

  pub record Stays (s s' : State Bytes) (k : Started) : Type 0 where
    pub child : IsChild s' k
    pub same : attempt_in login gives fate_of s' k ≡ attempt_in login gives fate_of s k

  -- a command leaves it what it is
  pub child_stays : (s : State Bytes) (c : Command Bytes) → Lawful s → s.count < MOST_COMMANDS → IsWellMade c → allowed length s c ≡ None → (k : Started) → IsChild s k → Stays s (step s c) k
  child_stays s c law room made free k child =
      let a : Attempt = attempt_at login gives fate_of (number_of k) k.task child.job child.phase in
      let was : IsAttempt login gives fate_of s a = record { job = child.job; phase = child.phase; found = child.found; has = child.has; task = child.task; is = refl } in
      let now : IsAttempt login gives fate_of (step s c) a = attempt_stays login gives fate_of s c law room made free a was in
      let next : IsChild (step s c) k = record { job = now.job; phase = now.phase; found = now.found; has = now.has; task = now.task } in
      record { child = next; same = attempt_is (step s c) k next ∙ (ap (λ (x : Attempt). Some x) (sym now.is) ∙ sym (attempt_is s k child)) }

  pub attempts_stay : (s : State Bytes) (c : Command Bytes) → Lawful s → s.count < MOST_COMMANDS → IsWellMade c → allowed length s c ≡ None → (ks : List Started) → AllByRecursion (IsChild s) ks
      → attempts_over login gives fate_of (step s c) ks ≡ attempts_over login gives fate_of s ks
  attempts_stay s c law room made free [] all = refl
  attempts_stay s c law room made free (k ∷ ks) all =
      ap (λ (o : Option Attempt). cons_option o (attempts_over login gives fate_of (step s c) ks)) (child_stays s c law room made free k all.0).same
      ∙ ap (λ (xs : List Attempt). cons_option (attempt_in login gives fate_of s k) xs) (attempts_stay s c law room made free ks all.1)

  -- ---- its ticket and its task

  by_phase : (k : Started) (job : Job Bytes) (o : Option Phase) (a : Attempt) → option_map (attempt_at login gives fate_of (number_of k) k.task job) o ≡ Some a → (a.ticket ≡ number_of k) × (a.task ≡ k.task)
  by_phase k job None a is = cc
  by_phase k job (Some p) a is = let same : a ≡ attempt_at login gives fate_of (number_of k) k.task job p = cc in (ap ticket_of same, ap task_of same)

  by_job : (k : Started) (o : Option (Job Bytes)) (a : Attempt) → option_and_then (λ job. option_map (attempt_at login gives fate_of (number_of k) k.task job) (slice_get job.document.phases k.task.phase)) o ≡ Some a
      → (a.ticket ≡ number_of k) × (a.task ≡ k.task)
  by_job k None a is = cc
  by_job k (Some job) a is = by_phase k job (slice_get job.document.phases k.task.phase) a is

  pub its_own : (s : State Bytes) (k : Started) (a : Attempt) → attempt_in login gives fate_of s k ≡ Some a → (a.ticket ≡ number_of k) × (a.task ≡ k.task)
  its_own s k a is = by_job k (job_at s.jobs k.task.job) a is

  -- those of other tickets
  pub others_over : (s : State Bytes) (t : ℕ) (ks : List Started) → attempts_over login gives fate_of s (filter (is_other_child t) ks) ≡ others t (attempts_over login gives fate_of s ks)
  others_over s t [] = refl
  others_over s t (k ∷ ks) = by (others_over s t ks) (not (t == number_of k)) refl (attempt_in login gives fate_of s k) refl
    where
      put : attempts_over login gives fate_of s (filter (is_other_child t) ks) ≡ others t (attempts_over login gives fate_of s ks) → (o : Option Attempt) → attempt_in login gives fate_of s k ≡ o → attempts_over login gives fate_of s (k ∷ filter (is_other_child t) ks) ≡ cons_option o (others t (attempts_over login gives fate_of s ks))
      put rest o at = ap (λ (p : Option Attempt). cons_option p (attempts_over login gives fate_of s (filter (is_other_child t) ks))) at ∙ ap (λ (xs : List Attempt). cons_option o xs) rest

      by : attempts_over login gives fate_of s (filter (is_other_child t) ks) ≡ others t (attempts_over login gives fate_of s ks) → (b : Bool) → not (t == number_of k) ≡ b → (o : Option Attempt) → attempt_in login gives fate_of s k ≡ o
          → attempts_over login gives fate_of s (cond {A = List Started} b (k ∷ filter (is_other_child t) ks) (filter (is_other_child t) ks)) ≡ others t (cons_option o (attempts_over login gives fate_of s ks))
      by rest true is None at = put rest None at
      by rest false is None at = rest
      by rest true is (Some a) at =
          put rest (Some a) at
          ∙ sym (ap (λ (b : Bool). cond {A = List Attempt} b (a ∷ others t (attempts_over login gives fate_of s ks)) (others t (attempts_over login gives fate_of s ks))) (ap (λ (n : ℕ). not (t == n)) (its_own s k a at).0 ∙ is))
      by rest false is (Some a) at =
          rest
          ∙ sym (ap (λ (b : Bool). cond {A = List Attempt} b (a ∷ others t (attempts_over login gives fate_of s ks)) (others t (attempts_over login gives fate_of s ks))) (ap (λ (n : ℕ). not (t == n)) (its_own s k a at).0 ∙ is))

  -- a key that none of the children has, none of their attempts has
  no_key : {K : Type 0} (f : Attempt → K) (g : Started → K) (p : K → Bool) (s : State Bytes) → ((k : Started) (a : Attempt) → attempt_in login gives fate_of s k ≡ Some a → f a ≡ g k) → (ks : List Started)
      → list_any p (map g ks) ≡ false → list_any p (map f (attempts_over login gives fate_of s ks)) ≡ false
  no_key f g p s match [] none = refl
  no_key {K} f g p s match (k ∷ ks) none =
      let parts = or_sides (p (g k)) (list_any p (map g ks)) none in
      by (attempt_in login gives fate_of s k) refl parts.0 (no_key f g p s match ks parts.1)
    where
      by : (o : Option Attempt) → attempt_in login gives fate_of s k ≡ o → p (g k) ≡ false → list_any p (map f (attempts_over login gives fate_of s ks)) ≡ false
          → list_any p (map f (cons_option o (attempts_over login gives fate_of s ks))) ≡ false
      by None at here rest = rest
      by (Some a) at here rest = both_false (p (f a)) (list_any p (map f (attempts_over login gives fate_of s ks))) (ap p (match k a at) ∙ here) rest

  -- one in the middle
  pub attempts_at : (s : State Bytes) (front : List Started) (k : Started) (back : List Started) (a : Attempt) → attempt_in login gives fate_of s k ≡ Some a
      → attempts_over login gives fate_of s (front ++ k ∷ back) ≡ attempts_over login gives fate_of s front ++ a ∷ attempts_over login gives fate_of s back
  attempts_at s front k back a at =
      filter_map-append (attempt_in login gives fate_of s) front (k ∷ back)
      ∙ ap (λ (o : Option Attempt). attempts_over login gives fate_of s front ++ cons_option o (attempts_over login gives fate_of s back)) at

  pub there : (s : State Bytes) (front : List Started) (k : Started) (back : List Started) (a : Attempt) → attempt_in login gives fate_of s k ≡ Some a → Contains (attempts_over login gives fate_of s (front ++ k ∷ back)) a
  there s front k back a at =
      subst (λ (xs : List Attempt). Contains xs a) (sym (attempts_at s front k back a at)) (contains_middle (attempts_over login gives fate_of s front) a (attempts_over login gives fate_of s back))

  -- without it
  pub left_over : (s : State Bytes) (front : List Started) (k : Started) (back : List Started) → IsDistinct eqb (map number_of (front ++ k ∷ back))
      → attempts_over login gives fate_of s (front ++ back) ≡ others (number_of k) (attempts_over login gives fate_of s (front ++ k ∷ back))
  left_over s front k back d =
      ap (λ (ks : List Started). attempts_over login gives fate_of s ks) (sym (one_gone number_of front k back d)) ∙ others_over s (number_of k) (front ++ k ∷ back)

  -- ---- steps

  pub leads_on : (end : Turn) (w : World) (xs : List LifeStep) (u : World) (ys : List LifeStep) (v : World) → Leads login gives fate_of end w xs u → Leads login gives fate_of end u ys v → Leads login gives fate_of end w (xs ++ ys) v
  leads_on end w [] u ys v first more = subst (λ (x : World). Leads login gives fate_of end x ys v) first more
  leads_on end w (x ∷ xs) u ys v first more = (first.0, first.1, first.2, leads_on end first.0 xs u ys v first.3 more)

  pub leads_one : (end : Turn) (w : World) (x : LifeStep) (v : World) → MayTake end w x → Happens login gives fate_of w x v → Leads login gives fate_of end w (x ∷ []) v
  leads_one end w x v may is = (v, may, is, refl)

  -- what an answer allows, another may
  take_wider : (end end' : Turn) → (may_waste end ≡ true → may_waste end' ≡ true) → (may_lose end ≡ true → may_lose end' ≡ true) → (w : World) (x : LifeStep) → MayTake end w x → MayTake end' w x
  take_wider end end' waste lose w (Start t task) m = m
  take_wider end end' waste lose w (End t raw (Some moment)) m = m
  take_wider end end' waste lose w (End t raw None) m = waste m
  take_wider end end' waste lose w (Finish job archive moment) m = m
  take_wider end end' waste lose w (Lose t) (inl m) = inl m
  take_wider end end' waste lose w (Lose t) (inr m) = inr (lose m)
  take_wider end end' waste lose w other m = absurd m

  pub leads_wider : (end end' : Turn) → (may_waste end ≡ true → may_waste end' ≡ true) → (may_lose end ≡ true → may_lose end' ≡ true) → (w : World) (xs : List LifeStep) (v : World) → Leads login gives fate_of end w xs v → Leads login gives fate_of end' w xs v
  leads_wider end end' waste lose w [] v is = is
  leads_wider end end' waste lose w (x ∷ xs) v is = (is.0, take_wider end end' waste lose w x is.1, is.2, leads_wider end end' waste lose is.0 xs v is.3)

  -- they are steps of a life
  pub leads_steps : (end : Turn) (w : World) (xs : List LifeStep) (v : World) → Leads login gives fate_of end w xs v → Steps login gives fate_of w xs v
  leads_steps end w [] v is = is
  leads_steps end w (x ∷ xs) v is = (is.0, is.2, leads_steps end is.0 xs v is.3)

  module _ (named : ℕ) (h : List (Command Bytes)) where
    abbrev pub over : List Started → World
    over ks = world_of login gives fate_of named h ks

    abbrev pub present : State Bytes
    present = replay first_state h

    -- a start of a ready task that has no child yet
    start_one : (front : List Started) (k : Started) → is_ready_in present k.task ≡ true → list_any (same_number (number_of k)) (map number_of front) ≡ false → list_any (same_task k.task) (map task_in front) ≡ false
        → Happens login gives fate_of (over front) (Start (number_of k) k.task) (over (front ++ k ∷ []))
    start_one front k ready ticket task =
        let r = ready_job present k.task ready in
        let child : IsChild present k = record { job = r.job; phase = r.p; found = r.found; has = r.has; task = r.task } in
        let a : Attempt = attempt_at login gives fate_of (number_of k) k.task r.job r.p in
        let may : MayStart login gives fate_of (over front) (number_of k) k.task a = record {
          job = r.job;
          phase = r.p;
          found = r.found;
          has = r.has;
          ready = r.ready;
          no_ticket = no_key ticket_of number_of (same_number (number_of k)) present (λ j b is. (its_own present j b is).0) front ticket;
          no_attempt = no_key task_of task_in (same_task k.task) present (λ j b is. (its_own present j b is).1) front task;
          is = refl;
        } in
        (a, may, ap (λ (xs : List Attempt). record { history = h; named = named; attempts = xs }) (attempts_at present front k [] a (attempt_is present k child)))

    -- starts, one after another
    pub starts : (end : Turn) (front more : List Started) → AllByRecursion (λ k. is_ready_in present (task_in k) ≡ true) more → IsDistinct eqb (map number_of (front ++ more)) → IsDistinct same_task (map task_in (front ++ more))
        → (steps : List LifeStep) × Leads login gives fate_of end (over front) steps (over (front ++ more))
    starts end front [] all tickets tasks = ([], ap (λ (ks : List Started). over ks) (append-nil front))
    starts end front (k ∷ more) all tickets tasks =
        let same : (front ++ k ∷ []) ++ more ≡ front ++ k ∷ more = append_assoc front (k ∷ []) more in
        let rest = starts end (front ++ k ∷ []) more all.1 (subst (λ (ks : List Started). IsDistinct eqb (map number_of ks)) (sym same) tickets) (subst (λ (ks : List Started). IsDistinct same_task (map task_in ks)) (sym same) tasks) in
        let one = start_one front k all.0 (none_before eqb number_swaps number_of front k more tickets) (none_before same_task task_swaps task_in front k more tasks) in
        (Start (number_of k) k.task ∷ rest.0, (over (front ++ k ∷ []), tt, one, subst (λ (ks : List Started). Leads login gives fate_of end (over (front ++ k ∷ [])) rest.0 (over ks)) same rest.1))

    -- one is lost
    pub lose_one : (front : List Started) (k : Started) (back : List Started) → IsDistinct eqb (map number_of (front ++ k ∷ back)) → Happens login gives fate_of (over (front ++ k ∷ back)) (Lose (number_of k)) (over (front ++ back))
    lose_one front k back d = ap (λ (xs : List Attempt). record { history = h; named = named; attempts = xs }) (left_over present front k back d)

    -- the children go whose tasks are not ready
    pub stales : (end : Turn) (front more : List Started) → AllByRecursion (IsChild present) more → IsDistinct eqb (map number_of (front ++ more))
        → (steps : List LifeStep) × Leads login gives fate_of end (over (front ++ more)) steps (over (front ++ filter (λ k. is_ready_in present (task_in k)) more))
    stales end front [] all d = ([], refl)
    stales end front (k ∷ more) all d =
        by (stales end (front ++ k ∷ []) more all.1 (subst (λ (ks : List Started). IsDistinct eqb (map number_of ks)) (sym (append_assoc front (k ∷ []) more)) d)) (stales end front more all.1 (distinct_but front k more d))
        (is_ready_in present (task_in k)) refl
      where
        by : ((steps : List LifeStep) × Leads login gives fate_of end (over ((front ++ k ∷ []) ++ more)) steps (over ((front ++ k ∷ []) ++ filter (λ j. is_ready_in present (task_in j)) more)))
            → ((steps : List LifeStep) × Leads login gives fate_of end (over (front ++ more)) steps (over (front ++ filter (λ j. is_ready_in present (task_in j)) more)))
            → (b : Bool) → is_ready_in present (task_in k) ≡ b → (steps : List LifeStep) × Leads login gives fate_of end (over (front ++ k ∷ more)) steps (over (front ++ cond {A = List Started} b (k ∷ filter (λ j. is_ready_in present (task_in j)) more) (filter (λ j. is_ready_in present (task_in j)) more)))
        by rest other true is = (
          rest.0,
          subst (λ (ks : List Started). Leads login gives fate_of end (over (front ++ k ∷ more)) rest.0 (over ks)) (append_assoc front (k ∷ []) (filter (λ j. is_ready_in present (task_in j)) more))
              (subst (λ (ks : List Started). Leads login gives fate_of end (over ks) rest.0 (over ((front ++ k ∷ []) ++ filter (λ j. is_ready_in present (task_in j)) more))) (append_assoc front (k ∷ []) more) rest.1),
        )
        by other rest false is =
            let child = all.0 in
            let a : Attempt = attempt_at login gives fate_of (number_of k) k.task child.job child.phase in
            let stale : IsStaleIn (over (front ++ k ∷ more)) (number_of k) = record { attempt = a; lives = there present front k more a (attempt_is present k child); named = refl; stale = is } in
            (Lose (number_of k) ∷ rest.0, (over (front ++ more), inl stale, lose_one front k more d, rest.1))

    -- a child has ended, and nothing is committed
    pub end_one : (front : List Started) (k : Started) (back : List Started) (raw : Raw) → IsDistinct eqb (map number_of (front ++ k ∷ back)) → (c : IsChild present k)
        → gives (attempt_at login gives fate_of (number_of k) k.task c.job c.phase).run (attempt_at login gives fate_of (number_of k) k.task c.job c.phase).input raw
        → Happens login gives fate_of (over (front ++ k ∷ back)) (End (number_of k) raw None) (over (front ++ back))
    end_one front k back raw d c given = (
      record {
        attempt = attempt_at login gives fate_of (number_of k) k.task c.job c.phase;
        lives = there present front k back (attempt_at login gives fate_of (number_of k) k.task c.job c.phase) (attempt_is present k c);
        named = refl;
        given = given;
      },
      lose_one front k back d,
    )

    -- its task is committed
    pub commit_one : (front : List Started) (k : Started) (back : List Started) (fate : Fate Bytes) (moment : ℕ) → IsDistinct eqb (map number_of (front ++ k ∷ back)) → Lawful present → present.count < MOST_COMMANDS
        → IsWellMade (Commit k.task.job k.task.phase k.task.place fate moment) → allowed length present (Commit k.task.job k.task.phase k.task.place fate moment) ≡ None
        → IsHonest login gives fate_of present (Commit k.task.job k.task.phase k.task.place fate moment) → IsChild present k → AllByRecursion (IsChild present) (front ++ back)
        → (raw : Raw) × Happens login gives fate_of (over (front ++ k ∷ back)) (End (number_of k) raw (Some moment)) (world_of login gives fate_of named (h ++ Commit k.task.job k.task.phase k.task.place fate moment ∷ []) (front ++ back))
    commit_one front k back fate moment d law room made free honest child all =
        let came : CameOfChild login gives fate_of child.job k.task.phase k.task.place fate = subst (OfFound (λ (j : Job Bytes). CameOfChild login gives fate_of j k.task.phase k.task.place fate)) child.found honest in
        let c : IsChild present k = record { job = child.job; phase = came.of_phase; found = child.found; has = came.has; task = child.task } in
        let a : Attempt = attempt_at login gives fate_of (number_of k) k.task c.job c.phase in
        let command : Fate Bytes → Command Bytes = λ f. Commit k.task.job k.task.phase k.task.place f moment in
        let may : MayEnd login gives fate_of (over (front ++ k ∷ back)) (number_of k) came.raw = record { attempt = a; lives = there present front k back a (attempt_is present k c); named = refl; given = came.given } in
        let stays : attempts_over login gives fate_of (replay first_state (h ++ command fate ∷ [])) (front ++ back) ≡ others (number_of k) (attempts_over login gives fate_of present (front ++ k ∷ back)) =
        ap (λ (x : State Bytes). attempts_over login gives fate_of x (front ++ back)) (replay_more first_state h (command fate))
        ∙ (attempts_stay present (command fate) law room made free (front ++ back) all ∙ left_over present front k back d) in (
          came.raw,
          (
            may,
            subst (λ (f : Fate Bytes). IsWellMadeFate f) came.judged made,
            record { room = room; free = subst (λ (f : Fate Bytes). allowed length present (command f) ≡ None) came.judged free },
            (λ i. record { history = h ++ command (came.judged i) ∷ []; named = named; attempts = stays i }),
          ),
        )

    -- a job is closed
    pub close_one : (ks : List Started) (job : ℕ) (archive : Archive Bytes) (moment : ℕ) → Lawful present → present.count < MOST_COMMANDS → allowed length present (Close job false archive moment) ≡ None → AllByRecursion (IsChild present) ks
        → Happens login gives fate_of (over ks) (Finish job archive moment) (world_of login gives fate_of named (h ++ Close job false archive moment ∷ []) ks)
    close_one ks job archive moment law room free all =
        let command : Command Bytes = Close job false archive moment in
        let stays : attempts_over login gives fate_of (replay first_state (h ++ command ∷ [])) ks ≡ attempts_over login gives fate_of present ks =
        ap (λ (x : State Bytes). attempts_over login gives fate_of x ks) (replay_more first_state h command) ∙ attempts_stay present command law room tt free ks all in
        (record { room = room; free = free }, ap (λ (xs : List Attempt). record { history = h ++ command ∷ []; named = named; attempts = xs }) stays)

    -- all children are let go
    loses : (js ks : List Started) → Steps login gives fate_of (over ks) (map (λ k. Lose (number_of k)) js) (over (drop_tickets (map number_of js) ks))
    loses [] ks = refl
    loses (j ∷ js) ks =
        let left : List Started = filter (is_other_child (number_of j)) ks in
        (over left, ap (λ (xs : List Attempt). record { history = h; named = named; attempts = xs }) (others_over present (number_of j) ks), loses js left)

    pub loses_all : (ks : List Started) → Steps login gives fate_of (over ks) (map (λ k. Lose (number_of k)) ks) (over [])
    loses_all ks =
        subst (λ (js : List Started). Steps login gives fate_of (over ks) (map (λ k. Lose (number_of k)) ks) (over js))
        (none_left (map number_of ks) ks (each_in (λ k. list_any (λ n. number_of k == n) (map number_of ks) ≡ true) ks (λ k m. any_in number_of (number_of k) ks k m refl)))
        (loses ks ks)

  -- ---- laws

  pub are_attempts : (s : State Bytes) (ks : List Started) → AllByRecursion (IsChild s) ks → AreAttempts login gives fate_of s ks
  are_attempts s [] all = record { tickets = refl; tasks = refl; each = tt }
  are_attempts s (k ∷ ks) all =
      let c = all.0 in
      let rest = are_attempts s ks all.1 in
      let a : Attempt = attempt_at login gives fate_of (number_of k) k.task c.job c.phase in
      let is : attempts_over login gives fate_of s (k ∷ ks) ≡ a ∷ attempts_over login gives fate_of s ks = ap (λ (o : Option Attempt). cons_option o (attempts_over login gives fate_of s ks)) (attempt_is s k c) in
      let one : IsAttempt login gives fate_of s a = record { job = c.job; phase = c.phase; found = c.found; has = c.has; task = c.task; is = refl } in
      record {
        tickets = ap (map ticket_of) is ∙ ap (λ (ns : List ℕ). number_of k ∷ ns) rest.tickets;
        tasks = ap (map task_of) is ∙ ap (λ (ts : List Task). k.task ∷ ts) rest.tasks;
        each = subst (λ (xs : List Attempt). AllByRecursion (IsAttempt login gives fate_of s) xs) (sym is) (one, rest.each);
      }

  -- a valid world leads to a valid one
  pub leads_valid : (end : Turn) (w : World) (xs : List LifeStep) (v : World) → Leads login gives fate_of end w xs v → ValidWorld login gives fate_of w → ValidWorld login gives fate_of v
  leads_valid end w [] v is valid = subst (λ (x : World). ValidWorld login gives fate_of x) (sym is) valid
  leads_valid end w (x ∷ xs) v is valid = leads_valid end is.0 xs v is.3 (step_valid login gives fate_of w is.0 x valid is.2)
