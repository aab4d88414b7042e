-- How a run of disk calls goes on.
use Rattle.std.proofs.Common.{◌≤◌, inl, inr, ⊎_elim, ℕ, arith}
use Rattle.mt_disk.specs.Files.{Files}
use Rattle.mt_disk.specs.CrashModel.{Follows, Elapses, LeavesOnly}

module _ {D : Type 0} (moment : D → ℕ) (left_since : D → ℕ → Files → Type 0) where
  -- before the first call
  pub started : (old : D) (P : Files → Type 0) → ((c : Files) → left_since old (moment old) c → P c) → LeavesOnly moment left_since old old P
  started old P here = record { later = omega arith; each = here; before = λ t c le left. inl left }

  -- one call more, after which a crash leaves what has P
  pub goes_on : (old mid new : D) (P may_leave : Files → Type 0) → LeavesOnly moment left_since old mid P → Elapses (moment mid) (moment new) (left_since mid) (left_since new) may_leave
      → ((c : Files) → may_leave c → P c) → LeavesOnly moment left_since old new P
  goes_on old mid new P may_leave so_far time here = record {
    later = omega (arith, so_far.later, time.later);
    each = λ c left. ⊎_elim (so_far.each c) (here c) (time.nothing_else (moment old) c so_far.later left);
    before = λ t c le left. ⊎_elim (so_far.before t c le) (λ now. inr (here c now)) (time.nothing_else t c (omega (arith, le, so_far.later)) left);
  }

  pub weakens : (old new : D) (P Q : Files → Type 0) → ((c : Files) → P c → Q c) → LeavesOnly moment left_since old new P → LeavesOnly moment left_since old new Q
  weakens old new P Q weaker run = record {
    later = run.later;
    each = λ c left. weaker c (run.each c left);
    before = λ t c le left. ⊎_elim (λ was. inl was) (λ p. inr (weaker c p)) (run.before t c le left);
  }

  -- one run after another
  pub joins : (old mid new : D) (P Q R : Files → Type 0) → LeavesOnly moment left_since old mid P → LeavesOnly moment left_since mid new Q
      → ((c : Files) → P c → R c) → ((c : Files) → Q c → R c) → LeavesOnly moment left_since old new R
  joins old mid new P Q R first second weaker_p weaker_q = record {
    later = omega (arith, first.later, second.later);
    each = λ c left. ⊎_elim (λ past. weaker_p c (first.each c past)) (weaker_q c) (second.before (moment old) c first.later left);
    before = λ t c le left. ⊎_elim (λ past. ⊎_elim (λ was. inl was) (λ p. inr (weaker_p c p)) (first.before t c le past)) (λ q. inr (weaker_q c q)) (second.before t c (omega (arith, le, first.later)) left);
  }

-- A run that leaves only what has P, after which a crash leaves what has N. Each call is one step of a proof.
module _ {D : Type 0} (moment : D → ℕ) (left_since : D → ℕ → Files → Type 0) (may_leave : D → Files → Type 0) where
  pub record Under (old new : D) (P N : Files → Type 0) : Type 0 where
    pub run : LeavesOnly moment left_since old new P
    pub now : (c : Files) → may_leave new c → N c

  pub begun : (old : D) (P N : Files → Type 0) → ((c : Files) → left_since old (moment old) c → may_leave old c) → ((c : Files) → may_leave old c → N c) → ((c : Files) → N c → P c) → Under old old P N
  begun old P N only_now here within = record { run = started moment left_since old P (λ c left. within c (here c (only_now c left))); now = here }

  -- one call more, after which a crash leaves what has M
  pub calls : (old mid new : D) (P N Q M : Files → Type 0) → Under old mid P N → Elapses (moment mid) (moment new) (left_since mid) (left_since new) (may_leave new)
      → ((c : Files) → may_leave new c → M c) → ((c : Files) → P c → Q c) → ((c : Files) → M c → Q c) → Under old new Q M
  calls old mid new P N Q M so_far time here weaker within = record {
    run = goes_on moment left_since old mid new Q (may_leave new) (weakens moment left_since old mid P Q weaker so_far.run) time (λ c left. within c (here c left));
    now = here;
  }

  -- a call that changes the files by a step
  pub steps : (old mid new : D) (P N Q M : Files → Type 0) (step : Files → Files → Type 0) → Under old mid P N → Follows step (may_leave mid) (may_leave new)
      → Elapses (moment mid) (moment new) (left_since mid) (left_since new) (may_leave new)
      → ((d c : Files) → N d → step d c → M c) → ((c : Files) → P c → Q c) → ((c : Files) → M c → Q c) → Under old new Q M
  steps old mid new P N Q M step so_far follows time turn weaker within =
      calls old mid new P N Q M so_far time (λ c left. let from = follows c left in turn from.0 c (so_far.now from.0 from.1) from.2) weaker within

  -- a call whose step keeps a property of the images
  pub keeps : (old mid new : D) (P : Files → Type 0) (step : Files → Files → Type 0) → Under old mid P P → Follows step (may_leave mid) (may_leave new)
      → Elapses (moment mid) (moment new) (left_since mid) (left_since new) (may_leave new) → ((d c : Files) → P d → step d c → P c) → Under old new P P
  keeps old mid new P step so_far follows time turn = steps old mid new P P P P step so_far follows time turn (λ c p. p) (λ c p. p)

  -- a call that adds no image
  pub adds_none : (old mid new : D) (P N : Files → Type 0) → Under old mid P N → ((c : Files) → may_leave new c → may_leave mid c)
      → Elapses (moment mid) (moment new) (left_since mid) (left_since new) (may_leave new) → ((c : Files) → N c → P c) → Under old new P N
  adds_none old mid new P N so_far none_new time within = calls old mid new P N P N so_far time (λ c left. so_far.now c (none_new c left)) (λ c p. p) within

  -- another run that was proved as a whole
  pub followed : (old mid new : D) (P N Q R : Files → Type 0) → Under old mid P N → LeavesOnly moment left_since mid new Q
      → ((t : ℕ) (c : Files) → t ≤ moment new → may_leave new c → left_since new t c)
      → ((c : Files) → P c → R c) → ((c : Files) → Q c → R c) → Under old new R Q
  followed old mid new P N Q R first second counts_now weaker_p weaker_q = record {
    run = joins moment left_since old mid new P Q R first.run second weaker_p weaker_q;
    now = λ c left. second.each c (counts_now (moment mid) c second.later left);
  }

  -- the first run, proved as a whole
  pub ran : (old new : D) (P : Files → Type 0) → LeavesOnly moment left_since old new P → ((t : ℕ) (c : Files) → t ≤ moment new → may_leave new c → left_since new t c) → Under old new P P
  ran old new P run counts_now = record { run = run; now = λ c left. run.each c (counts_now (moment old) c run.later left) }

  -- what a crash leaves after a run
  pub leaves_now : (old new : D) (P : Files → Type 0) → LeavesOnly moment left_since old new P → ((t : ℕ) (c : Files) → t ≤ moment new → may_leave new c → left_since new t c)
      → (c : Files) → may_leave new c → P c
  leaves_now old new P run counts_now c left = run.each c (counts_now (moment old) c run.later left)
