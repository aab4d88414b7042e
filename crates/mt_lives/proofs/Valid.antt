-- Every step keeps a world valid, and what was told of stays.
use Rattle.std.proofs.Common.{◌≡◌, ℕ, zero, suc, ◌≤◌, ◌==◌, Bool, true, false, cond, ◌&&◌, not, List, [], ◌∷◌, ◌++◌, length, take, drop, map, Some, None, refl, sym, ap, ◌∙◌, subst, arith, length-append}
use Rattle.std.specs.Prelude.{All}
use Rattle.std.specs.List.{AllByRecursion, filter, IsDistinct, list_any}
use Rattle.std.proofs.lemmas.Cmp.{nat_eq_equiv}
use Rattle.std.proofs.lemmas.List.{take-append-drop}
use Rattle.std.proofs.lemmas.List.Elements.{All-nil, All-filter, All-push, All-weaker}
use Rattle.std.proofs.lemmas.Map.Keys.{IsDistinct-cons, IsDistinct-head, IsDistinct-tail}
use Rattle.mt_model.specs.Types.{Close, Command, Fate, Raw, Run, Task}
use Rattle.mt_model.specs.CommandStep.{replay, step}
use Rattle.mt_model.specs.Honest.{Bytes, CameOfChild, Honest, HonestFrom, IsStep, OfFound}
use Rattle.mt_model.specs.Lawful.{Lawful}
use Rattle.mt_model.specs.State.{State, first_state}
use Rattle.mt_model.specs.Tasks.{is_running}
use Rattle.mt_model.proofs.LawfulHistories.{lawful_honest}
use Rattle.mt_model.proofs.LawfulInputs.{and_left, and_right, or_none}
use Rattle.mt_model.proofs.Replays.{replay_more}
use Rattle.mt_model.proofs.Stood.{honest_on, short_honest}
use Rattle.mt_lives.specs.World.{Accept, Attempt, Crash, End, Finish, Happens, IsAttempt, LifeStep, LivesStayValid, Lose, MayEnd, Name, Start, StepsKeepValid, ToldStays, ValidWorld, World, commit_of, first_world, others, same_number, same_task, Steps, state_of, task_of, ticket_of, with_command}
use Rattle.mt_lives.proofs.Attempts.{attempt_stays}

-- ---- distinct keys

module _ {X K : Type 0} (e : K → K → Bool) (f : X → K) where
  kept : (p : X → Bool) (k : K) (xs : List X) → AllByRecursion (λ y. e k y ≡ false) (map f xs) → AllByRecursion (λ y. e k y ≡ false) (map f (filter p xs))
  kept p k [] all = all
  kept p k (x ∷ xs) all = by (p x) (kept p k xs all.1)
    where
      by : (b : Bool) → AllByRecursion (λ y. e k y ≡ false) (map f (filter p xs)) → AllByRecursion (λ y. e k y ≡ false) (map f (cond b (x ∷ filter p xs) (filter p xs)))
      by true rest = (all.0, rest)
      by false rest = rest

  distinct_filter : (p : X → Bool) (xs : List X) → IsDistinct e (map f xs) → IsDistinct e (map f (filter p xs))
  distinct_filter p [] d = d
  distinct_filter p (x ∷ xs) d = by (p x) (kept p (f x) xs (IsDistinct-head e (f x) (map f xs) d)) (distinct_filter p xs (IsDistinct-tail e (f x) (map f xs) d))
    where
      by : (b : Bool) → AllByRecursion (λ y. e (f x) y ≡ false) (map f (filter p xs)) → IsDistinct e (map f (filter p xs)) → IsDistinct e (map f (cond b (x ∷ filter p xs) (filter p xs)))
      by true head rest = IsDistinct-cons e (f x) (map f (filter p xs)) head rest
      by false head rest = rest

  behind_all : (k : K) (xs : List X) (y : X) → AllByRecursion (λ z. e k z ≡ false) (map f xs) → e k (f y) ≡ false → AllByRecursion (λ z. e k z ≡ false) (map f (xs ++ y ∷ []))
  behind_all k [] y all is = (is, tt)
  behind_all k (x ∷ xs) y all is = (all.0, behind_all k xs y all.1 is)

  distinct_push : ((a b : K) → e a b ≡ e b a) → (xs : List X) (y : X) → IsDistinct e (map f xs) → list_any (e (f y)) (map f xs) ≡ false → IsDistinct e (map f (xs ++ y ∷ []))
  distinct_push symm [] y d none = IsDistinct-cons e (f y) [] tt d
  distinct_push symm (x ∷ xs) y d none =
      let parts = or_none (e (f y) (f x)) _ none in
      IsDistinct-cons e (f x) (map f (xs ++ y ∷ [])) (behind_all (f x) xs y (IsDistinct-head e (f x) (map f xs) d) (symm (f x) (f y) ∙ parts.0))
      (distinct_push symm xs y (IsDistinct-tail e (f x) (map f xs) d) parts.1)

none_distinct : {K : Type 0} (e : K → K → Bool) → IsDistinct e []
unfolding IsDistinct
none_distinct e = tt

number_symm : (m n : ℕ) → same_number m n ≡ same_number n m
number_symm m n = nat_eq_equiv.symm m n

task_symm : (a b : Task) → same_task a b ≡ same_task b a
task_symm a b =
    ap (λ x. x && ((a.phase == b.phase) && (a.place == b.place))) (number_symm a.job b.job)
    ∙ ap (λ x. (b.job == a.job) && (x && (a.place == b.place))) (number_symm a.phase b.phase)
    ∙ ap (λ x. (b.job == a.job) && ((b.phase == a.phase) && x)) (number_symm a.place b.place)

-- ---- fronts

take_shorter : {X : Type 0} (m k : ℕ) (xs : List X) → m ≤ k → take m (take k xs) ≡ take m xs
take_shorter zero k xs le = refl
take_shorter (suc m) zero xs le = absurd (omega (arith, le))
take_shorter (suc m) (suc k) [] le = refl
take_shorter (suc m) (suc k) (x ∷ xs) le = ap (λ l. x ∷ l) (take_shorter m k xs (omega (arith, le)))

take_front : {X : Type 0} (m : ℕ) (xs ys : List X) → m ≤ length xs → take m (xs ++ ys) ≡ take m xs
take_front zero xs ys le = refl
take_front (suc m) [] ys le = absurd (omega (arith, le))
take_front (suc m) (x ∷ xs) ys le = ap (λ l. x ∷ l) (take_front m xs ys (omega (arith, le)))

take_long : {X : Type 0} (k : ℕ) (xs : List X) → k ≤ length xs → k ≤ length (take k xs)
take_long zero xs le = omega arith
take_long (suc k) [] le = absurd (omega (arith, le))
take_long (suc k) (x ∷ xs) le = let more = take_long k xs (omega (arith, le)) in omega (arith, more)

module _ (login : List ℕ) (gives : Run → Bytes → Raw → Type 0) (fate_of : Raw → Fate Bytes) where
  -- a step of a history is honest from there on
  single : (s : State Bytes) (c : Command Bytes) → IsStep login gives fate_of s c → HonestFrom login gives fate_of s (c ∷ [])
  unfolding HonestFrom
  single s c is = (is, tt)

  command_valid : (w : World) (c : Command Bytes) (left : List Attempt) → ValidWorld login gives fate_of w → IsStep login gives fate_of (state_of w) c → All (IsAttempt login gives fate_of (state_of w)) left
      → IsDistinct same_number (map ticket_of left) → IsDistinct same_task (map task_of left) → ValidWorld login gives fate_of (with_command w c left)
  command_valid w c left v is all tickets tasks =
      let honest : Honest login gives fate_of (w.history ++ c ∷ []) = honest_on login gives fate_of first_state w.history (c ∷ []) v.honest (single (state_of w) c is) in
      let next : replay first_state (w.history ++ c ∷ []) ≡ step (state_of w) c = replay_more first_state w.history c in
      let law : Lawful (state_of w) = lawful_honest login gives fate_of w.history v.honest in
      let count = length-append w.history (c ∷ []) in
      let told = v.told in
      record {
        honest = honest;
        told = omega (arith, told, count);
        tickets = tickets;
        tasks = tasks;
        attempts = subst (λ s. All (IsAttempt login gives fate_of s) left) (sym next)
            (All-weaker (IsAttempt login gives fate_of (state_of w)) (IsAttempt login gives fate_of (step (state_of w) c)) (attempt_stays login gives fate_of (state_of w) c law is.room is.made is.free) left all);
      }

  -- an attempt that lives is one
  is_one : (w : World) (t : ℕ) (raw : Raw) → ValidWorld login gives fate_of w → (m : MayEnd login gives fate_of w t raw) → IsAttempt login gives fate_of (state_of w) m.attempt
  is_one w t raw v m = subst (IsAttempt login gives fate_of (state_of w)) m.lives.2 (v.attempts m.lives.0 m.attempt m.lives.1)

  came_of : (w : World) (t : ℕ) (raw : Raw) → (m : MayEnd login gives fate_of w t raw) → (i : IsAttempt login gives fate_of (state_of w) m.attempt) → CameOfChild login gives fate_of i.job m.attempt.task.phase m.attempt.task.place (fate_of raw)
  came_of w t raw m i = record {
    of_phase = i.phase;
    raw = raw;
    has = i.has;
    given = subst (λ a. gives a.run a.input raw) i.is m.given;
    judged = refl;
  }

  left_valid : (w : World) (t : ℕ) → ValidWorld login gives fate_of w → ValidWorld login gives fate_of (record w { attempts = others t w.attempts })
  left_valid w t v = record {
    honest = v.honest;
    told = v.told;
    tickets = distinct_filter same_number ticket_of (λ a. not (t == a.ticket)) w.attempts v.tickets;
    tasks = distinct_filter same_task task_of (λ a. not (t == a.ticket)) w.attempts v.tasks;
    attempts = All-filter (λ a. not (t == a.ticket)) (IsAttempt login gives fate_of (state_of w)) w.attempts v.attempts;
  }

  pub step_valid : StepsKeepValid login gives fate_of
  step_valid w v (Accept c) x (own, is, same) = subst (ValidWorld login gives fate_of) (sym same) (command_valid w c w.attempts x is x.attempts x.tickets x.tasks)
  step_valid w v Name x same = subst (ValidWorld login gives fate_of) (sym same) (record { honest = x.honest; told = omega arith; tickets = x.tickets; tasks = x.tasks; attempts = x.attempts })
  step_valid w v (Start t task) x (a, m, same) =
      subst (ValidWorld login gives fate_of) (sym same) (record {
        honest = x.honest;
        told = x.told;
        tickets = distinct_push same_number ticket_of number_symm w.attempts a x.tickets (ap (λ (b : Attempt). list_any (same_number b.ticket) (map ticket_of w.attempts)) m.is ∙ m.no_ticket);
        tasks = distinct_push same_task task_of task_symm w.attempts a x.tasks (ap (λ (b : Attempt). list_any (same_task b.task) (map task_of w.attempts)) m.is ∙ m.no_attempt);
        attempts = All-push (IsAttempt login gives fate_of (state_of w)) w.attempts a x.attempts
            (subst (IsAttempt login gives fate_of (state_of w)) (sym m.is)
            (record { job = m.job; phase = m.phase; found = m.found; has = m.has; task = and_right (is_running m.job) _ (and_left _ _ m.ready); is = refl }));
      })
  step_valid w v (End t raw (Some moment)) x (m, made, fits, same) =
      let i = is_one w t raw x m in
      let rest = left_valid w t x in
      let is : IsStep login gives fate_of (state_of w) (commit_of login gives fate_of m.attempt raw moment) = record {
        room = fits.room;
        made = made;
        free = fits.free;
        honest = subst (OfFound (λ j. CameOfChild login gives fate_of j m.attempt.task.phase m.attempt.task.place (fate_of raw))) (sym i.found) (came_of w t raw m i);
      } in
      subst (ValidWorld login gives fate_of) (sym same) (command_valid w (commit_of login gives fate_of m.attempt raw moment) (others t w.attempts) x is rest.attempts rest.tickets rest.tasks)
  step_valid w v (End t raw None) x (m, same) = subst (ValidWorld login gives fate_of) (sym same) (left_valid w t x)
  step_valid w v (Finish job archive moment) x (fits, same) =
      subst (ValidWorld login gives fate_of) (sym same)
      (command_valid w (Close job false archive moment) w.attempts x (record { room = fits.room; made = tt; free = fits.free; honest = tt }) x.attempts x.tickets x.tasks)
  step_valid w v (Lose t) x same = subst (ValidWorld login gives fate_of) (sym same) (left_valid w t x)
  step_valid w v (Crash k) x (told, le, same) =
      let long = take_long k w.history le in
      subst (ValidWorld login gives fate_of) (sym same) (record {
        honest = short_honest login gives fate_of first_state (take k w.history) (drop k w.history) (subst (Honest login gives fate_of) (sym (take-append-drop k w.history)) x.honest);
        told = omega (arith, told, long);
        tickets = none_distinct same_number;
        tasks = none_distinct same_task;
        attempts = All-nil (IsAttempt login gives fate_of (replay first_state (take k w.history)));
      })

  first_valid : ValidWorld login gives fate_of first_world
  unfolding IsDistinct HonestFrom replay
  first_valid = record { honest = tt; told = omega arith; tickets = tt; tasks = tt; attempts = All-nil (IsAttempt login gives fate_of first_state) }

  lives_from : (w : World) (steps : List LifeStep) (v : World) → ValidWorld login gives fate_of w → Steps login gives fate_of w steps v → ValidWorld login gives fate_of v
  lives_from w [] v x same = subst (ValidWorld login gives fate_of) (sym same) x
  lives_from w (step ∷ steps) v x (u, is, more) = lives_from u steps v (step_valid w u step x is) more

  pub lives_valid : LivesStayValid login gives fate_of
  lives_valid steps v is = lives_from first_world steps v first_valid is

  -- what was told of stays over one step, and the new world has been told of as much
  record Stays (w v : World) : Type 0 where
    more : w.named ≤ v.named
    front : take w.named v.history ≡ take w.named w.history

  one_stays : (w v : World) (step : LifeStep) → ValidWorld login gives fate_of w → Happens login gives fate_of w step v → Stays w v
  one_stays w v (Accept c) x (own, is, same) = subst (Stays w) (sym same) (record { more = omega arith; front = take_front w.named w.history (c ∷ []) x.told })
  one_stays w v Name x same = let told = x.told in subst (Stays w) (sym same) (record { more = omega (arith, told); front = refl })
  one_stays w v (Start t task) x (a, m, same) = subst (Stays w) (sym same) (record { more = omega arith; front = refl })
  one_stays w v (End t raw (Some moment)) x (m, made, fits, same) =
      subst (Stays w) (sym same) (record { more = omega arith; front = take_front w.named w.history (commit_of login gives fate_of m.attempt raw moment ∷ []) x.told })
  one_stays w v (End t raw None) x (m, same) = subst (Stays w) (sym same) (record { more = omega arith; front = refl })
  one_stays w v (Finish job archive moment) x (fits, same) = subst (Stays w) (sym same) (record { more = omega arith; front = take_front w.named w.history (Close job false archive moment ∷ []) x.told })
  one_stays w v (Lose t) x same = subst (Stays w) (sym same) (record { more = omega arith; front = refl })
  one_stays w v (Crash k) x (told, le, same) = subst (Stays w) (sym same) (record { more = omega arith; front = take_shorter w.named k w.history told })

  all_stay : (w v : World) (steps : List LifeStep) → ValidWorld login gives fate_of w → Steps login gives fate_of w steps v → Stays w v
  all_stay w v [] x same = subst (Stays w) (sym same) (record { more = omega arith; front = refl })
  all_stay w v (step ∷ steps) x (u, is, later) =
      let a : Stays w u = one_stays w u step x is in
      let b : Stays u v = all_stay u v steps (step_valid w u step x is) later in
      let a' = a.more in
      let b' = b.more in
      record {
        more = omega (arith, a', b');
        front = sym (take_shorter w.named u.named v.history a.more) ∙ ap (take w.named) b.front ∙ take_shorter w.named u.named u.history a.more ∙ a.front;
      }

  pub told_stays : ToldStays login gives fate_of
  told_stays w v steps x is = (all_stay w v steps x is).front
