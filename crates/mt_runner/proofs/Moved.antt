-- What a turn does to a history.
use Rattle.std.proofs.Common.{◌≡◌, inl, inr, ℕ, true, false, List, [], ◌∷◌, ◌++◌, map, eqb, refl, ap, sym, subst, ◌∙◌, Option, Some, None, ⊎_elim}
use Rattle.std.specs.List.{AllByRecursion, IsDistinct}
use Rattle.mt_base.specs.Lists.{IsPrefixOf}
use Rattle.mt_disk.specs.CrashModel.{LeavesOnly, OnlyRead}
use Rattle.mt_disk.specs.Files.{Files}
use Rattle.mt_disk.proofs.Moments.{joins}
use Rattle.mt_types.specs.declared.command.Command.{Command}
use Rattle.mt_types.specs.declared.command.Command.TheVariants.{Close, Commit}
use Rattle.mt_types.specs.declared.job.Task.{Task}
use Rattle.mt_types.specs.declared.task.Raw.{Raw}
use Rattle.mt_types.specs.declared.task.Run.{Run}
use Rattle.mt_model.specs.CommandStep.{replay}
use Rattle.mt_model.specs.Honest.{Bytes, IsHonest}
use Rattle.mt_model.specs.Lawful.{Lawful}
use Rattle.mt_model.specs.State.{State}
use Rattle.mt_records.specs.Fate.{fate}
use Rattle.mt_spawn.specs.Children.{MayBe}
use Rattle.mt_spawn.specs.declared.task.Left.{Left}
use Rattle.mt_opening.specs.Current.{EngineIsReady, EngineState, IsBetween, IsCurrent}
use Rattle.mt_opening.specs.History.{History}
use Rattle.mt_tasks.specs.Adding.{Added, Adds, IsCloseOf, IsCommitOf, IsFree}
use Rattle.mt_tasks.specs.Right.{IsRight, IsRightNow}
use Rattle.mt_tasks.specs.Standing.{waiting}
use Rattle.mt_tasks.specs.Taking.{TakesEnd, TakesOutcome}
use Rattle.mt_tasks.specs.declared.outcomes.OutcomeEnd.{OutcomeEnd}
use Rattle.mt_tasks.specs.declared.outcomes.OutcomeEnd.TheVariants as outcome
use Rattle.mt_runner.specs.Attempts.{Attempt, number_of, started_of}
use Rattle.mt_runner.specs.Attends.{Gone, Live, WorkSide, attempts_in}
use Rattle.mt_runner.specs.AtWork.{AreRight}
use Rattle.mt_runner.specs.Awaiting.{NoneCame}
use Rattle.mt_runner.specs.Filling.{HasBegun}
use Rattle.mt_runner.specs.Living.{LivesOn}
use Rattle.mt_runner.specs.Moves.{Due, IsDueAt, Moves, MovesOn, end_of_job, end_of_task}
use Rattle.mt_runner.specs.declared.runner.Started.{Started}
use Rattle.mt_runner.specs.declared.turn.Turn.{Turn}
use Rattle.mt_runner.proofs.Crashes.{all_of, between_to}
use Rattle.mt_runner.proofs.Lists.{all_both, all_but, all_last, all_more}
use Rattle.mt_runner.proofs.Lived.{children_of, closed_so, gone_taken, lives_at, lives_then}
use Rattle.mt_runner.proofs.Pairs.{are_those}
use Rattle.mt_runner.proofs.Rights.{current_on, lawful_is, reads_between, rights_grow, rights_waited, waiting_is}
use Rattle.mt_runner.proofs.Worlds.{IsChild}

no_longer_open : {X : Type 0} (e : EngineState) → e.log.closed ≡ true → e.log.closed ≡ false → X
no_longer_open e closed is_open = let no : true ≡ false = sym closed ∙ is_open in absurd (cc)

-- ---- the commands that are due

module _ (login : Bytes) (runs : Run → Bytes → Raw → Type 0) (now : ℕ) where
  pub due_commit : (t : Task) (s : State Bytes) (c : Command Bytes) → waiting s ≡ None → IsCommitOf login runs t now s c → Due login runs now s c
  due_commit t s c none q =
      let at : IsDueAt login now s (Commit t.job t.phase t.place q.of_fate now) = (refl, none) in
      record {
        due = subst (λ (d : Command Bytes). IsDueAt login now s d) (sym q.is) at;
        honest = subst (λ (d : Command Bytes). IsHonest login runs (fate login) s d) (sym q.is) q.honest;
        is_free = q.is_free;
      }

  pub due_close : (n : ℕ) (s : State Bytes) (c : Command Bytes) → waiting s ≡ Some n → IsCloseOf login n now s c → Due login runs now s c
  due_close n s c some q =
      let at : IsDueAt login now s (Close n false q.archive now) = (refl, refl, some, q.texts) in
      let honest : IsHonest login runs (fate login) s (Close n false q.archive now) = tt in
      record {
        due = subst (λ (d : Command Bytes). IsDueAt login now s d) (sym q.is) at;
        honest = subst (λ (d : Command Bytes). IsHonest login runs (fate login) s d) (sym q.is) honest;
        is_free = q.is_free;
      }

  module _ (base : State Bytes) (h : History) (e : EngineState) (seen' : Option Files) (e' : EngineState) (k : History) where
    -- by the answer behind the end of a child
    pub moves_task : (t : Task) (end : OutcomeEnd) → waiting (replay base h) ≡ None → Adds (IsCommitOf login runs t now) end base h e seen' e' k → Moves (Due login runs now) (end_of_task t end) base h e seen' e' k
    moves_task t outcome.Added none a =
        let due : Added (Due login runs now) base h e seen' e' k =
        record { command = a.command; is = due_commit t (replay base h) a.command none a.is; room = a.room; history = a.history; current = a.current; grew = a.grew } in
        (due, (a.is.of_fate, now, ap (λ (c : Command Bytes). c ∷ []) a.is.is))
    moves_task t outcome.Full none a = record { command = a.command; is = due_commit t (replay base h) a.command none a.is; lacks = a.lacks; history = a.history; current = a.current }
    moves_task t outcome.Unread none a = a
    moves_task t outcome.Disk none a = ⊎_elim (λ same. inl (same, λ is_open. no_longer_open e' a.0 is_open))
        (λ m. inr (a.0, record { command = m.command; is = due_commit t (replay base h) m.command none m.is; room = m.room; history = m.history })) a.1
    moves_task t outcome.Memory none a = a

    -- and behind that of a job
    pub moves_job : (n : ℕ) (end : OutcomeEnd) → (end ≡ outcome.Unread → ⊥) → waiting (replay base h) ≡ Some n → Adds (IsCloseOf login n now) end base h e seen' e' k → Moves (Due login runs now) (end_of_job n end) base h e seen' e' k
    moves_job n outcome.Added read some a =
        let due : Added (Due login runs now) base h e seen' e' k =
        record { command = a.command; is = due_close n (replay base h) a.command some a.is; room = a.room; history = a.history; current = a.current; grew = a.grew } in
        (due, (a.is.archive, now, ap (λ (c : Command Bytes). c ∷ []) a.is.is))
    moves_job n outcome.Full read some a = record { command = a.command; is = due_close n (replay base h) a.command some a.is; lacks = a.lacks; history = a.history; current = a.current }
    moves_job n outcome.Unread read some a = absurd (read refl)
    moves_job n outcome.Disk read some a = ⊎_elim (λ same. inl (same, λ is_open. no_longer_open e' a.0 is_open))
        (λ m. inr (a.0, record { command = m.command; is = due_close n (replay base h) m.command some m.is; room = m.room; history = m.history })) a.1
    moves_job n outcome.Memory read some a = a

-- ---- attempts over one state

module _ {F : Type 0} (login : Bytes) (runs : Run → Bytes → Raw → Type 0) (may : F → Raw → Type 0) (s : State Bytes) where
  -- at equal lists
  pub rights_at : (xs ys : List (Attempt F)) → ys ≡ xs → AreRight login runs may s xs → AreRight login runs may s ys
  rights_at xs ys same r = subst (λ (zs : List (Attempt F)). AreRight login runs may s zs) (sym same) r

  pub rights_gone : (ys : List (Attempt F)) (x : Attempt F) (old new : WorkSide F) → Gone ys x old new → AreRight login runs may s ys → AreRight login runs may s (attempts_in new)
  rights_gone ys x old new g r =
      rights_at (g.front ++ g.back) (attempts_in new) (are_those new.kept new.seen.live (g.front ++ g.back) g.are)
      (all_but (λ y. IsRight login runs may s y.task y.fate) g.front x g.back (subst (λ (zs : List (Attempt F)). AreRight login runs may s zs) g.were r))

  pub right_gone : (ys : List (Attempt F)) (x : Attempt F) (old new : WorkSide F) → Gone ys x old new → AreRight login runs may s ys → IsRight login runs may s x.task x.fate
  right_gone ys x old new g r = (all_last (λ y. IsRight login runs may s y.task y.fate) g.front (x ∷ g.back) (subst (λ (zs : List (Attempt F)). AreRight login runs may s zs) g.were r)).0

  pub rights_none : (old new : WorkSide F) → NoneCame old new → AreRight login runs may s (attempts_in old) → AreRight login runs may s (attempts_in new)
  rights_none old new n r = rights_at n.zs (attempts_in new) (are_those new.kept new.seen.live n.zs n.are) (rights_waited login runs may s (attempts_in old) n.zs n.waited r)

  pub rights_live : (ys : List (Attempt F)) (old new : WorkSide F) → Live ys old new → AreRight login runs may s ys → AreRight login runs may s (attempts_in new)
  rights_live ys old new l r = rights_at ys (attempts_in new) (are_those new.kept new.seen.live ys l.are) r

-- ---- a turn

module _ {D F : Type 0} (seen : D → Option Files) (may_leave : D → Files → Type 0) (moment : D → ℕ) (left_since : D → ℕ → Files → Type 0)
    (login : Bytes) (runs : Run → Bytes → Raw → Type 0) (may : F → Raw → Type 0) (now : ℕ) where
  -- those that live once slots were filled are right
  pub rights_filled : (disk : D) (old mid : WorkSide F) (b : HasBegun (IsRightNow login runs may (seen disk) old.engine) old.engine.state old mid) (base : State Bytes) (h : History)
      → IsCurrent (seen disk) old.engine base h → AreRight login runs may (replay base h) (attempts_in old) → AreRight login runs may (replay base h) (attempts_in mid)
  rights_filled disk old mid b base h i r =
      rights_live login runs may (replay base h) (attempts_in old ++ b.started) old mid b.live
      (all_both (λ x. IsRight login runs may (replay base h) x.task x.fate) (attempts_in old) b.started r
      (all_more (λ x. IsRightNow login runs may (seen disk) old.engine x.task x.fate) (λ x. IsRight login runs may (replay base h) x.task x.fate) (λ x right. right base h i) b.started b.right))

  -- a turn that only read, and added nothing
  pub moved_none : (disk : D) (old : WorkSide F) (end : Turn) (disk' : D) (new : WorkSide F) → ((c : Files) → left_since disk (moment disk) c → may_leave disk c) → EngineIsReady seen may_leave disk old.engine
      → OnlyRead seen may_leave moment left_since disk disk' → new.engine ≡ old.engine
      → ((base : State Bytes) (h : History) → IsCurrent (seen disk') old.engine base h → Moves (Due login runs now) end base h old.engine (seen disk') old.engine h)
      → ((base : State Bytes) (h : History) → IsCurrent (seen disk) old.engine base h → AreRight login runs may (replay base h) (attempts_in old) → AreRight login runs may (replay base h) (attempts_in new))
      → ((base : State Bytes) (h : History) → IsCurrent (seen disk) old.engine base h → LivesOn login runs (fate login) end base h h old.kept new.kept)
      → MovesOn seen moment left_since login runs may now disk old end disk' new
  moved_none disk old end disk' new only_now ready read same moves rights lives base h i r = record {
    whole = h;
    moves = subst (λ (e : EngineState). Moves (Due login runs now) end base h old.engine (seen disk') e h) (sym same) (moves base h (current_on seen may_leave moment left_since disk disk' old.engine base h read i));
    leaves = reads_between seen may_leave moment left_since disk disk' old.engine base h only_now ready i read;
    right = λ is_open. rights base h i r;
    lives = lives base h i;
  }

  -- by the answer, the attempts are right over what was added
  rights_added : (Q : State Bytes → Command Bytes → Type 0) → ((s : State Bytes) (c : Command Bytes) → Q s c → IsFree s c) → (end : OutcomeEnd) (base : State Bytes) (h : History) (e : EngineState) (seen' : Option Files) (e' : EngineState) (k : History)
      → Lawful (replay base h) → Adds Q end base h e seen' e' k → (xs : List (Attempt F)) → AreRight login runs may (replay base h) xs → e'.log.closed ≡ false → AreRight login runs may (replay base k) xs
  rights_added Q free outcome.Added base h e seen' e' k law a xs r is_open =
      subst (λ (w : History). AreRight login runs may (replay base w) xs) (sym a.history) (rights_grow login runs may base h a.command law a.room.few (free (replay base h) a.command a.is) xs r)
  rights_added Q free outcome.Full base h e seen' e' k law a xs r is_open = subst (λ (w : History). AreRight login runs may (replay base w) xs) (sym a.history) r
  rights_added Q free outcome.Unread base h e seen' e' k law a xs r is_open = subst (λ (w : History). AreRight login runs may (replay base w) xs) (sym a.0) r
  rights_added Q free outcome.Disk base h e seen' e' k law a xs r is_open = let no : true ≡ false = sym a.0 ∙ is_open in absurd (cc)
  rights_added Q free outcome.Memory base h e seen' e' k law a xs r is_open = subst (λ (w : History). AreRight login runs may (replay base w) xs) (sym a.0) r

  from_history : (end : OutcomeEnd) (Q : State Bytes → Command Bytes → Type 0) (base : State Bytes) (h : History) (e : EngineState) (seen' : Option Files) (e' : EngineState) (k : History) → Adds Q end base h e seen' e' k → IsPrefixOf h k
  from_history outcome.Added Q base h e seen' e' k a = (a.command ∷ [], sym a.history)
  from_history outcome.Full Q base h e seen' e' k a = subst (λ (w : History). IsPrefixOf h w) (sym a.history) (all_of h)
  from_history outcome.Unread Q base h e seen' e' k a = subst (λ (w : History). IsPrefixOf h w) (sym a.0) (all_of h)
  from_history outcome.Disk Q base h e seen' e' k a = ⊎_elim (λ same. subst (λ (w : History). IsPrefixOf h w) (sym same) (all_of h)) (λ m. (m.command ∷ [], sym m.history)) a.1
  from_history outcome.Memory Q base h e seen' e' k a = subst (λ (w : History). IsPrefixOf h w) (sym a.0) (all_of h)

  -- a turn behind the end of a child
  pub moved_task : (disk : D) (old before mid : WorkSide F) (ys : List (Attempt F)) (x : Attempt F) (t : Task) (left : Left) (told : Option Raw) (end : OutcomeEnd) (disk1 disk' : D) (new : WorkSide F)
      → ((c : Files) → left_since disk (moment disk) c → may_leave disk c) → EngineIsReady seen may_leave disk old.engine → Lawful old.engine.state → waiting old.engine.state ≡ None
      → OnlyRead seen may_leave moment left_since disk disk1 → Gone ys x before mid → x.task ≡ t → MayBe (may x.fate) left told
      → ((base : State Bytes) (h : History) → IsCurrent (seen disk) old.engine base h → AreRight login runs may (replay base h) (attempts_in old) → AreRight login runs may (replay base h) ys)
      → attempts_in new ≡ attempts_in mid → new.kept ≡ mid.kept → before.kept ≡ map started_of ys → IsDistinct eqb (map number_of before.kept)
      → ((base : State Bytes) (h : History) → IsCurrent (seen disk) old.engine base h → LivesOn login runs (fate login) (end_of_task t end) base h h old.kept before.kept)
      → TakesOutcome seen moment left_since login runs may t now left told end disk1 old.engine disk' new.engine
      → MovesOn seen moment left_since login runs may now disk old (end_of_task t end) disk' new
  moved_task disk old before mid ys x t left told end disk1 disk' new only_now ready law none read g its given rights same kept were tickets fills takes base h i r =
      let all : AreRight login runs may (replay base h) ys = rights base h i r in
      let one : IsRight login runs may (replay base h) t x.fate = subst (λ (u : Task). IsRight login runs may (replay base h) u x.fate) its (right_gone login runs may (replay base h) ys x before mid g all) in
      let took = takes base h (current_on seen may_leave moment left_since disk disk1 old.engine base h read i) x.fate one given in
      let quiet : waiting (replay base h) ≡ None = waiting_is (seen disk) old.engine base h i ∙ none in
      let first : LeavesOnly moment left_since disk disk1 (IsBetween base h h) = reads_between seen may_leave moment left_since disk disk1 old.engine base h only_now ready i read in
      let front : IsPrefixOf h took.0 = from_history end (IsCommitOf login runs t now) base h old.engine (seen disk') new.engine took.0 took.1 in
      record {
        whole = took.0;
        moves = moves_task login runs now base h old.engine (seen disk') new.engine took.0 t end quiet took.1;
        leaves = joins moment left_since disk disk1 disk' (IsBetween base h h) (IsBetween base h took.0) (IsBetween base h took.0) first took.2 (λ c b. between_to base h h took.0 c front b) (λ c b. b);
        right = λ is_open. rights_added (IsCommitOf login runs t now) (λ s c q. q.is_free) end base h old.engine (seen disk') new.engine took.0 (lawful_is (seen disk) old.engine base h i law) took.1 (attempts_in new)
            (rights_at login runs may (replay base h) (attempts_in mid) (attempts_in new) same (rights_gone login runs may (replay base h) ys x before mid g all)) is_open;
        lives = lives_then login runs (end_of_task t end) base h h took.0 old.kept before.kept new.kept (fills base h i)
            (lives_at login runs (end_of_task t end) base h took.0 took.0 before.kept mid.kept before.kept new.kept refl refl kept
            (gone_taken login runs base h ys x before mid g before.kept were tickets may all t now left told end old.engine (seen disk') new.engine took.0 its (lawful_is (seen disk) old.engine base h i law) given took.1));
      }

  -- a turn behind the end of a job
  pub moved_job : (disk : D) (old : WorkSide F) (n : ℕ) (end : OutcomeEnd) (disk' : D) (new : WorkSide F) → Lawful old.engine.state → waiting old.engine.state ≡ Some n → (end ≡ outcome.Unread → ⊥)
      → ((base : State Bytes) (h : History) → AreRight login runs may (replay base h) (attempts_in old) → AreRight login runs may (replay base h) (attempts_in new)) → new.kept ≡ map started_of (attempts_in new)
      → ((base : State Bytes) (h : History) → IsCurrent (seen disk) old.engine base h → AreRight login runs may (replay base h) (attempts_in old) → LivesOn login runs (fate login) (end_of_job n end) base h h old.kept new.kept)
      → TakesEnd seen moment left_since login n now end disk old.engine disk' new.engine → MovesOn seen moment left_since login runs may now disk old (end_of_job n end) disk' new
  moved_job disk old n end disk' new law some read rights kept drops takes base h i r =
      let took = takes base h i in
      record {
        whole = took.0;
        moves = moves_job login runs now base h old.engine (seen disk') new.engine took.0 n end read (waiting_is (seen disk) old.engine base h i ∙ some) took.1;
        leaves = took.2;
        right = λ is_open. rights_added (IsCloseOf login n now) (λ s c q. q.is_free) end base h old.engine (seen disk') new.engine took.0 (lawful_is (seen disk) old.engine base h i law) took.1 (attempts_in new) (rights base h r) is_open;
        lives = lives_then login runs (end_of_job n end) base h h took.0 old.kept new.kept new.kept (drops base h i r)
            (closed_so login runs n now end base h old.engine (seen disk') new.engine took.0 new.kept read (lawful_is (seen disk) old.engine base h i law)
            (subst (λ (ks : List Started). AllByRecursion (IsChild login runs (fate login) (replay base h)) ks) (sym kept) (children_of login runs may (replay base h) (attempts_in new) (rights base h r))) took.1);
      }

-- the same at an equal rule and login
pub takes_at : {D F R : Type 0} (seen : D → Option Files) (moment : D → ℕ) (left_since : D → ℕ → Files → Type 0) (gives : R → Run → Bytes → Raw → Type 0) (may : R → F → Raw → Type 0) (r r' : R) (login login' : Bytes)
    (t : Task) (now : ℕ) (left : Left) (told : Option Raw) (end : OutcomeEnd) (disk : D) (e : EngineState) (disk' : D) (e' : EngineState) → r' ≡ r → login' ≡ login
    → TakesOutcome seen moment left_since login' (gives r') (may r') t now left told end disk e disk' e' → TakesOutcome seen moment left_since login (gives r) (may r) t now left told end disk e disk' e'
takes_at {D} {F} {R} seen moment left_since gives may r r' login login' t now left told end disk e disk' e' er el takes =
    subst (λ (l : Bytes). TakesOutcome seen moment left_since l (gives r) (may r) t now left told end disk e disk' e') el
    (subst (λ (q : R). TakesOutcome seen moment left_since login' (gives q) (may q) t now left told end disk e disk' e') er takes)

pub ends_at : {D : Type 0} (seen : D → Option Files) (moment : D → ℕ) (left_since : D → ℕ → Files → Type 0) (login login' : Bytes) (n now : ℕ) (end : OutcomeEnd) (disk : D) (e : EngineState) (disk' : D) (e' : EngineState) → login' ≡ login
    → TakesEnd seen moment left_since login' n now end disk e disk' e' → TakesEnd seen moment left_since login n now end disk e disk' e'
ends_at {D} seen moment left_since login login' n now end disk e disk' e' el takes = subst (λ (l : Bytes). TakesEnd seen moment left_since l n now end disk e disk' e') el takes

-- a turn behind children that were let go, at an equal rule and login
pub moved_from : {D F R : Type 0} (seen : D → Option Files) (moment : D → ℕ) (left_since : D → ℕ → Files → Type 0) (gives : R → Run → Bytes → Raw → Type 0) (may : R → F → Raw → Type 0) (r r' : R) (login login' : Bytes) (now : ℕ)
    (disk : D) (old mid : WorkSide F) (end : Turn) (disk' : D) (new : WorkSide F) → r' ≡ r → login' ≡ login → mid.engine ≡ old.engine
    → ((s : State Bytes) → AreRight login (gives r) (may r) s (attempts_in old) → AreRight login (gives r) (may r) s (attempts_in mid))
    → ((base : State Bytes) (h : History) → IsCurrent (seen disk) old.engine base h → AreRight login (gives r) (may r) (replay base h) (attempts_in old) → LivesOn login (gives r) (fate login) end base h h old.kept mid.kept)
    → MovesOn seen moment left_since login' (gives r') (may r') now disk mid end disk' new → MovesOn seen moment left_since login (gives r) (may r) now disk old end disk' new
moved_from {D} {F} {R} seen moment left_since gives may r r' login login' now disk old mid end disk' new er el same rights drops moves base h i right =
    let at : MovesOn seen moment left_since login (gives r) (may r) now disk mid end disk' new =
    subst (λ (l : Bytes). MovesOn seen moment left_since l (gives r) (may r) now disk mid end disk' new) el
    (subst (λ (q : R). MovesOn seen moment left_since login' (gives q) (may q) now disk mid end disk' new) er moves) in
    let m = at base h (subst (λ (e : EngineState). IsCurrent (seen disk) e base h) (sym same) i) (rights (replay base h) right) in
    record {
      whole = m.whole;
      moves = subst (λ (e : EngineState). Moves (Due login (gives r) now) end base h e (seen disk') new.engine m.whole) same m.moves;
      leaves = m.leaves;
      right = m.right;
      lives = lives_then login (gives r) end base h h m.whole old.kept mid.kept new.kept (drops base h i right) m.lives;
    }
