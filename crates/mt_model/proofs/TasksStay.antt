-- A command leaves each task of a job what it is, what it is run with and what it reads.
use Rattle.std.proofs.Common.{◌≡◌, ℕ, zero, suc, ◌+◌, ◌<◌, ◌==◌, Bool, true, ◌&&◌, nat_lt, List, [], ◌∷◌, length, take, Option, Some, None, refl, sym, ap, ◌∙◌, subst, arith, append-nil, length-append}
use Rattle.std.specs.Prelude.{All}
use Rattle.std.specs.List.{enumerate_from, list_all, range_with_len, slice_get}
use Rattle.std.specs.Option.{unwrap_or}
use Rattle.std.proofs.lemmas.List.{take_all}
use Rattle.std.proofs.lemmas.List.Folds.{list_any-append}
use Rattle.std.proofs.lemmas.Bool.{lt-ltb, ltb-true}
use Rattle.mt_model.specs.Types.{Job, Map, Phase, PhaseKind, Reduce}
use Rattle.mt_model.specs.CommandStep.{step}
use Rattle.mt_model.specs.Feed.{feed}
use Rattle.mt_model.specs.Honest.{Bytes}
use Rattle.mt_model.specs.Later.{TasksStay, TaskStays}
use Rattle.mt_model.specs.Lawful.{Lawful, LawfulJob}
use Rattle.mt_model.specs.Sound.{Sound}
use Rattle.mt_model.specs.Tasks.{complete_before, is_committed, is_complete, is_task_of, may_begin, phases_of, task_count}
use Rattle.mt_model.proofs.Closed.{enumerated}
use Rattle.mt_model.proofs.LawfulClose.{job_in, or_left}
use Rattle.mt_model.proofs.LawfulHistories.{lawful_step}
use Rattle.mt_model.proofs.LawfulInputs.{and_both, and_left, and_right}
use Rattle.mt_model.proofs.Later.{later}
use Rattle.mt_model.proofs.Same.{IsEarlier, SameAt, feed_front, feed_same, same_at, same_run}
use Rattle.mt_model.proofs.Stood.{Grows, earlier_on}

-- ---- tests of all elements

each_of : {X : Type 0} (f g : X → Bool) → ((x : X) → f x ≡ true → g x ≡ true) → (xs : List X) → list_all f xs ≡ true → list_all g xs ≡ true
each_of f g more [] all = refl
each_of f g more (x ∷ xs) all = and_both (g x) (list_all g xs) (more x (and_left (f x) _ all)) (each_of f g more xs (and_right (f x) _ all))

-- the first n + 1 of a list: the first n, and the one behind them
shorter : {X : Type 0} (f : X → Bool) (n : ℕ) (xs : List X) → list_all f (take (suc n) xs) ≡ true → list_all f (take n xs) ≡ true
shorter f zero xs all = refl
shorter f (suc n) [] all = refl
shorter f (suc n) (x ∷ xs) all = and_both (f x) _ (and_left (f x) _ all) (shorter f n xs (and_right (f x) _ all))

last_of : {X : Type 0} (f : X → Bool) (n : ℕ) (xs : List X) (x : X) → list_all f (take (suc n) xs) ≡ true → slice_get xs n ≡ Some x → f x ≡ true
last_of f n [] x all at = cc
last_of f zero (y ∷ ys) x all at = subst (λ z. f z ≡ true) (ap (λ o. unwrap_or o y) at) (and_left (f y) _ all)
last_of f (suc n) (y ∷ ys) x all at = last_of f n ys x (and_right (f y) _ all) at

pub longer : {X : Type 0} (f : X → Bool) (n : ℕ) (xs : List X) → list_all f (take n xs) ≡ true → ((x : X) → slice_get xs n ≡ Some x → f x ≡ true) → list_all f (take (suc n) xs) ≡ true
longer f n [] all one = refl
longer f zero (x ∷ xs) all one = and_both (f x) true (one x refl) refl
longer f (suc n) (x ∷ xs) all one = and_both (f x) _ (and_left (f x) _ all) (longer f n xs (and_right (f x) _ all) one)

-- ---- one job, earlier and later

module _ (j job : Job Bytes) (k : ℕ) (e : IsEarlier j k job) (g : Grows j job) (s : Sound job) where
  committed_stays : (phase place : ℕ) → is_committed j.trace phase place ≡ true → is_committed job.trace phase place ≡ true
  committed_stays phase place is =
      ap (λ t. is_committed t phase place) g.trace ∙ list_any-append (λ x. (x.phase == phase) && (x.place == place)) j.trace g.rest ∙ or_left (is_committed j.trace phase place) _ is

  complete_stays : (x : ℕ × Phase) → feed job x.0 ≡ feed j x.0 → is_complete j x ≡ true → is_complete job x ≡ true
  complete_stays x same all =
      ap (λ items. list_all (is_committed job.trace x.0) (range_with_len 0 (task_count x.1.kind items))) same
      ∙ each_of (is_committed j.trace x.0) (is_committed job.trace x.0) (committed_stays x.0) (range_with_len 0 (task_count x.1.kind (feed j x.0))) all

  -- the phase at a place of the document
  phase_at : (ps : List Phase) (n : ℕ) (x : ℕ × Phase) → slice_get (enumerate_from 0 ps) n ≡ Some x → (o : Option Phase) → slice_get ps n ≡ o → x.0 ≡ n
  phase_at ps n x at (Some p) is =
      let there : Some x ≡ Some (0 + n, p) = sym at ∙ enumerated 0 n ps p is in
      let same : x.0 ≡ 0 + n = ap (λ o. (unwrap_or o x).0) there in
      same ∙ none n
    where
      none : (m : ℕ) → 0 + m ≡ m
      none m = omega arith
  phase_at ps n x at None is = absurd (never 0 n ps is at)
    where
      never : (a n : ℕ) (ps : List Phase) → slice_get ps n ≡ None → slice_get (enumerate_from a ps) n ≡ Some x → ⊥
      never a n [] is at = cc
      never a zero (p ∷ ps) is at = cc
      never a (suc n) (p ∷ ps) is at = never (a + 1) n ps is at

  -- earlier phases stay complete
  before_stays : j.ended ≡ true → (n : ℕ) → complete_before j n ≡ true → complete_before job n ≡ true
  before_stays ended zero all = refl
  before_stays ended (suc n) all =
      let first : complete_before j n ≡ true = shorter (is_complete j) n (phases_of j) all in
      longer (is_complete job) n (phases_of job) (before_stays ended n first)
      (λ x at.
      let there : slice_get (phases_of j) n ≡ Some x = ap (λ d. slice_get (enumerate_from 0 d.phases) n) e.document ∙ at in
      let is : x.0 ≡ n = phase_at j.document.phases n x there (slice_get j.document.phases n) refl in
      let same : feed job x.0 ≡ feed j x.0 = subst (λ m. feed job m ≡ feed j m) (sym is) (feed_same j k job e s n ended first) in
      complete_stays x same (last_of (is_complete j) n (phases_of j) x all there))

  -- and so does a task
  task_stays : (n place : ℕ) (p : Phase) → is_task_of j n place (Some p) ≡ true → is_task_of job n place (Some p) ≡ true
  task_stays n place p task = by p.kind (and_left _ _ task) (ltb-true place _ (and_right (may_begin j n p.kind) _ task))
    where
      by : (kind : PhaseKind) → may_begin j n kind ≡ true → place < task_count kind (feed j n) → (may_begin job n kind && nat_lt place (task_count kind (feed job n))) ≡ true
      by Map begin less =
          let f = feed_front j k job e n in
          let same : length (feed job n) ≡ length (feed j n) + length f.0 = ap length f.1 ∙ length-append (feed j n) f.0 in
          and_both true _ refl (lt-ltb place (length (feed job n)) (omega (arith, less, same)))
      by (Reduce count) begin less =
          and_both (may_begin job n (Reduce count)) _
          (and_both job.ended _ (e.ended (and_left _ _ begin)) (before_stays (and_left _ _ begin) n (and_right j.ended _ begin)))
          (lt-ltb place count less)

-- a job is an earlier value of itself
itself_earlier : (j : Job Bytes) → IsEarlier j (length j.trace) j
itself_earlier j = record { number = refl; document = refl; assets = refl; more = []; inputs = sym (append-nil j.inputs); trace = sym (take_all (length j.trace) j.trace (omega arith)); all_in = λ is. refl; ended = λ is. is }

pub tasks_stay : TasksStay
tasks_stay s c law room made none login number phase place job p found has task =
    let l = later s c none number job found in
    let k : ℕ = length job.trace in
    let e : IsEarlier job k l.0 = earlier_on job job l.0 k (omega arith) (itself_earlier job) l.2 in
    let next : Lawful (step s c) = lawful_step length s c law room made none in
    let jobs : All (LawfulJob (step s c).count) (step s c).jobs = next.jobs.each in
    let sound : Sound l.0 = (job_in number (step s c).jobs l.0 l.1 (LawfulJob (step s c).count) jobs).sound in
    let of_phase : is_task_of job phase place (Some p) ≡ true = ap (is_task_of job phase place) (sym has) ∙ task in
    let at : SameAt job k l.0 e p.kind phase place = same_at job k l.0 e sound phase place p of_phase in
    let there : slice_get l.0.document.phases phase ≡ Some p = ap (λ d. slice_get d.phases phase) l.2.document ∙ has in
    let stays : TaskStays login job l.0 phase place p = record {
      has = there;
      task = ap (is_task_of l.0 phase place) there ∙ task_stays job l.0 k e l.2 sound phase place p of_phase;
      run = sym (same_run job k l.0 e login phase place p at);
      input = at.input;
    } in
    (l.0, l.1, stays)
