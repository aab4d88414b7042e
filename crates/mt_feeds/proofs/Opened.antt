-- Shares that are laid out phase by phase.
use Rattle.std.proofs.Common.{◌≡◌, ◌⊎◌, inl, inr, ℕ, ◌+◌, ◌<◌, ◌≤◌, ◌==◌, nat_lt, Bool, true, false, cond, ◌&&◌, List, [], ◌∷◌, length, map, get_or, Option, Some, None, refl, sym, ap, subst, ◌∙◌, arith, zero, suc, eq-eqb, true≢false}
use Rattle.std.specs.List.{AllByRecursion, slice_get}
use Rattle.std.specs.Option.{option_and_then, option_map, unwrap_or}
use Rattle.std.proofs.lemmas.Bool.{eqb-true, leb-true, lt-ltb}
use Rattle.std.proofs.lemmas.List.{length-set}
use Rattle.std.proofs.lemmas.Option.{get_or_from_slice_get, slice_get_within}
use Rattle.mt_types.specs.WellMade.{HasReducers, IsDocument, IsDocumentPhase}
use Rattle.mt_types.specs.declared.document.Phase.{Phase}
use Rattle.mt_types.specs.declared.document.PhaseKind.{PhaseKind}
use Rattle.mt_types.specs.declared.document.PhaseKind.TheVariants.{Map, Reduce}
use Rattle.mt_types.specs.declared.job.Item.{Item}
use Rattle.mt_types.specs.declared.job.Job.{Job}
use Rattle.mt_model.specs.Feed.{feed}
use Rattle.mt_model.specs.JobSteps.{done_at, with_end}
use Rattle.mt_model.specs.Tasks.{complete_before, is_running, is_task_of, may_begin, task_count}
use Rattle.mt_model.proofs.LawfulInputs.{and_left}
use Rattle.mt_model.proofs.Maps.{length-map}
use Rattle.mt_model.proofs.Shares.{beyond}
use Rattle.mt_sched.specs.Plan.{Plan, is_task_in}
use Rattle.mt_sched.specs.PlanOfJob.{plan_of}
use Rattle.mt_sched.proofs.Plain.{task_plain}
use Rattle.mt_feeds.specs.FedJob.{AreShares, all_shares, shares_in, shares_of}
use Rattle.mt_feeds.specs.Opening.{WereShares, opened_at, opened_by, wanted_in, wanted_of}
use Rattle.mt_feeds.proofs.Lookups.{slice_set_else, slice_set_here}

same_wanted : (kind : PhaseKind) (a b : Bool) (lists : List (List ℕ)) → ((count : ℕ) → kind ≡ Reduce count → a ≡ b) → wanted_in kind a lists ≡ wanted_in kind b lists
same_wanted Map a b lists same = refl
same_wanted (Reduce count) a b lists same = ap (λ c. wanted_in (Reduce count) c lists) (same count refl)

nothing_at : {X Y : Type 0} (xs : List X) (n : ℕ) (l : List Y) → slice_get (map (λ x. []) xs) n ≡ Some l → l ≡ []
nothing_at [] n l at = cc
nothing_at (x ∷ xs) zero l at = ap (λ o. unwrap_or o l) (sym at)
nothing_at (x ∷ xs) (suc n) l at = nothing_at xs n l at

some_reducers : (count : ℕ) → HasReducers (Reduce count) → 0 < count
some_reducers count is = let least : 1 ≤ count = leb-true 1 count (and_left _ _ is) in omega (arith, least)

-- a phase of a document is one
phase_at : (ps : List Phase) (n : ℕ) (p : Phase) → AllByRecursion IsDocumentPhase ps → slice_get ps n ≡ Some p → IsDocumentPhase p
phase_at [] n p all at = cc
phase_at (q ∷ ps) zero p all at = subst IsDocumentPhase (ap (λ o. unwrap_or o q) at) all.0
phase_at (q ∷ ps) (suc n) p all at = phase_at ps n p all.1 at

module _ {B : Type 0} where
  -- the first n phases are right, and the others may want their shares
  pub record OpenTo (job : Job B) (n : ℕ) (laid : List (List (List ℕ))) : Type 0 where
    pub were : WereShares job laid
    pub right : (m : ℕ) (p : Phase) (lists : List (List ℕ)) → m < n → slice_get job.document.phases m ≡ Some p → slice_get laid m ≡ Some lists → lists ≡ shares_of job m p

  pub open_none : (job : Job B) (laid : List (List (List ℕ))) → WereShares job laid → OpenTo job 0 laid
  open_none job laid were = record { were = were; right = λ m p lists less. absurd (omega (arith, less)) }

  pub open_all : (job : Job B) (laid : List (List (List ℕ))) (n : ℕ) → length job.document.phases ≤ n → OpenTo job n laid → AreShares job laid
  open_all job laid n most so_far = record {
    each = so_far.were.each;
    right = λ m p lists at found. so_far.right m p lists (let within = slice_get_within job.document.phases m p at in omega (arith, within, most)) at found;
  }

  -- ---- one phase

  -- what is wanted is what is not there
  phase_case : (job : Job B) (kind : PhaseKind) (items : List (Item B)) (begun : Bool) (lists : List (List ℕ)) → (lists ≡ []) ⊎ (lists ≡ shares_in begun kind items)
      → (w : Option ℕ) → wanted_in kind begun lists ≡ w → unwrap_or (option_map (all_shares items) w) lists ≡ shares_in begun kind items
  phase_case job Map items begun lists (inl none) w is = ap (λ o. unwrap_or (option_map (all_shares items) o) lists) (sym is) ∙ none
  phase_case job Map items begun lists (inr same) w is = ap (λ o. unwrap_or (option_map (all_shares items) o) lists) (sym is) ∙ same
  phase_case job (Reduce count) items begun lists were w is = ap (λ o. unwrap_or (option_map (all_shares items) o) lists) (sym is) ∙ by begun lists were
    where
      by : (b : Bool) (l : List (List ℕ)) → (l ≡ []) ⊎ (l ≡ cond b (all_shares items count) []) → unwrap_or (option_map (all_shares items) (wanted_in (Reduce count) b l)) l ≡ cond b (all_shares items count) []
      by true [] were = refl
      by false [] were = refl
      by true (x ∷ xs) (inl none) = cc
      by true (x ∷ xs) (inr same) = same
      by false (x ∷ xs) (inl none) = cc
      by false (x ∷ xs) (inr same) = cc

  opened_here : (job : Job B) (laid : List (List (List ℕ))) (n : ℕ) (old : List (List ℕ)) (w : Option ℕ) → slice_get laid n ≡ Some old → slice_get (opened_by w job laid n) n ≡ Some (unwrap_or (option_map (all_shares (feed job n)) w) old)
  opened_here job laid n old None at = at
  opened_here job laid n old (Some count) at = slice_set_here laid n (all_shares (feed job n) count) (slice_get_within laid n old at)

  opened_else : (job : Job B) (laid : List (List (List ℕ))) (n m : ℕ) (w : Option ℕ) → (n ≡ m → ⊥) → slice_get (opened_by w job laid n) m ≡ slice_get laid m
  opened_else job laid n m None off = refl
  opened_else job laid n m (Some count) off = slice_set_else laid n m (all_shares (feed job n) count) off

  opened_length : (job : Job B) (laid : List (List (List ℕ))) (n : ℕ) (w : Option ℕ) → length (opened_by w job laid n) ≡ length laid
  opened_length job laid n None = refl
  opened_length job laid n (Some count) = length-set laid n (all_shares (feed job n) count)

  -- the phase that is opened is right
  module _ (job : Job B) (plan : Plan) (n : ℕ) (p : Phase) (old : List (List ℕ)) (laid : List (List (List ℕ))) (at : slice_get job.document.phases n ≡ Some p) (found : slice_get laid n ≡ Some old)
      (begun : (count : ℕ) → p.kind ≡ Reduce count → is_task_in plan n 0 ≡ (is_running job && may_begin job n p.kind)) (so_far : OpenTo job n laid) where
    abbrev new : List (List (List ℕ))
    new = opened_at plan job laid n

    abbrev wanted : Option ℕ
    wanted = wanted_of plan job.document.phases laid n

    wanted_is : wanted_in p.kind (is_running job && may_begin job n p.kind) old ≡ wanted
    wanted_is =
        sym (same_wanted p.kind (is_task_in plan n 0) (is_running job && may_begin job n p.kind) old begun)
        ∙ sym (ap (λ o. option_and_then (λ (q : Phase). wanted_in q.kind (is_task_in plan n 0) (get_or laid n [])) o) at
        ∙ ap (λ l. wanted_in p.kind (is_task_in plan n 0) l) (get_or_from_slice_get laid n old [] found))

    right_here : (lists : List (List ℕ)) → slice_get new n ≡ Some lists → lists ≡ shares_of job n p
    right_here lists is =
        ap (λ o. unwrap_or o lists) (sym is ∙ opened_here job laid n old wanted found)
        ∙ phase_case job p.kind (feed job n) (is_running job && may_begin job n p.kind) old (so_far.were.right n p old at found) wanted wanted_is

    here_case : (m : ℕ) (q : Phase) (lists : List (List ℕ)) (b : Bool) → n == m ≡ b → slice_get job.document.phases m ≡ Some q → slice_get new m ≡ Some lists → (m < n + 1 → lists ≡ shares_of job m q) × ((lists ≡ []) ⊎ (lists ≡ shares_of job m q))
    here_case m q lists true same of_phase is =
        let here : n ≡ m = eqb-true n m same in
        let q_is : p ≡ q = ap (λ o. unwrap_or o p) (sym at ∙ ap (slice_get job.document.phases) here ∙ of_phase) in
        let right : lists ≡ shares_of job n p = right_here lists (ap (slice_get new) here ∙ is) in
        let all : lists ≡ shares_of job m q = right ∙ ap (λ k. shares_of job k p) here ∙ ap (shares_of job m) q_is in
        ((λ less. all), inr all)
    here_case m q lists false same of_phase is =
        let off : n ≡ m → ⊥ = λ e. true≢false (sym (eq-eqb n m e) ∙ same) in
        let stays : slice_get laid m ≡ Some lists = sym (opened_else job laid n m wanted off) ∙ is in
        ((λ less. so_far.right m q lists (omega (arith, less, off)) of_phase stays), so_far.were.right m q lists of_phase stays)

    pub open_next : OpenTo job (n + 1) new
    open_next = record {
      were = record {
        each = opened_length job laid n wanted ∙ so_far.were.each;
        right = λ m q lists of_phase is. (here_case m q lists (n == m) refl of_phase is).1;
      };
      right = λ m q lists less of_phase is. (here_case m q lists (n == m) refl of_phase is).0 less;
    }

  -- whether a reduce phase has begun is read from the queue
  pub begun_by_plan : (job : Job B) (n : ℕ) (p : Phase) (count : ℕ) → is_running job ≡ true → slice_get job.document.phases n ≡ Some p → p.kind ≡ Reduce count → 0 < count → is_task_in (plan_of job) n 0 ≡ (is_running job && may_begin job n p.kind)
  begun_by_plan job n p count runs at kind some =
      task_plain job n 0
      ∙ ap (is_task_of job n 0) at
      ∙ ap (λ k. may_begin job n p.kind && nat_lt 0 (task_count k (feed job n))) kind
      ∙ ap (λ b. may_begin job n p.kind && b) (lt-ltb 0 count some)
      ∙ and_on (may_begin job n p.kind)
      ∙ sym (ap (λ b. b && may_begin job n p.kind) runs)
    where
      and_on : (b : Bool) → (b && true) ≡ b
      and_on true = refl
      and_on false = refl

  at_case : (job : Job B) (plan : Plan) (n : ℕ) (laid : List (List (List ℕ))) → is_running job ≡ true → plan ≡ plan_of job → IsDocument job.document → n < length job.document.phases → OpenTo job n laid
      → (o : Option Phase) → slice_get job.document.phases n ≡ o → (l : Option (List (List ℕ))) → slice_get laid n ≡ l → OpenTo job (n + 1) (opened_at plan job laid n)
  at_case job plan n laid runs is document less so_far None at l found = absurd (let past = beyond job.document.phases n at in omega (arith, past, less))
  at_case job plan n laid runs is document less so_far (Some p) at None found = absurd (let past = beyond laid n found in let each = so_far.were.each in omega (arith, past, less, each))
  at_case job plan n laid runs is document less so_far (Some p) at (Some old) found =
      open_next job plan n p old laid at found
      (λ count kind. ap (λ q. is_task_in q n 0) is ∙ begun_by_plan job n p count runs at kind (some_reducers count (subst HasReducers kind (phase_at job.document.phases n p document.phases at).kind)))
      so_far

  -- one phase more is opened
  pub open_on : (job : Job B) (plan : Plan) (n : ℕ) (laid : List (List (List ℕ))) → is_running job ≡ true → plan ≡ plan_of job → IsDocument job.document → n < length job.document.phases → OpenTo job n laid → OpenTo job (n + 1) (opened_at plan job laid n)
  open_on job plan n laid runs is document less so_far = at_case job plan n laid runs is document less so_far (slice_get job.document.phases n) refl (slice_get laid n) refl

  -- ---- what changes of a job leave

  -- before the input ends nothing is laid out
  pub none_before : (job : Job B) (n : ℕ) (p : Phase) → job.ended ≡ false → shares_of job n p ≡ []
  none_before job n p so_far = by p.kind
    where
      no_begin : (r : Bool) (count : ℕ) → (r && may_begin job n (Reduce count)) ≡ false
      no_begin true count = ap (λ x. x && complete_before job n) so_far
      no_begin false count = refl

      by : (kind : PhaseKind) → shares_in (is_running job && may_begin job n kind) kind (feed job n) ≡ []
      by Map = refl
      by (Reduce count) = ap (λ b. cond b (all_shares (feed job n) count) []) (no_begin (is_running job) count)

  pub were_ended : (job : Job B) (laid : List (List (List ℕ))) → job.ended ≡ false → AreShares job laid → WereShares (with_end job) laid
  were_ended job laid so_far are = record {
    each = are.each;
    right = λ n p lists at found. inl (are.right n p lists at found ∙ none_before job n p so_far);
  }

  -- of a job that is done nothing is kept
  none_done : (job : Job B) (n : ℕ) (p : Phase) → is_running job ≡ false → shares_of job n p ≡ []
  none_done job n p done = by p.kind
    where
      by : (kind : PhaseKind) → shares_in (is_running job && may_begin job n kind) kind (feed job n) ≡ []
      by Map = refl
      by (Reduce count) = ap (λ b. cond (b && may_begin job n (Reduce count)) (all_shares (feed job n) count) []) done

  pub shares_cleared : {X : Type 0} (moment : ℕ) (cancelled : Bool) (job : Job B) (old : List (List (List ℕ))) (shares : List X) → AreShares job old → length shares ≡ length job.document.phases → AreShares (done_at moment cancelled job) (map (λ s. []) shares)
  shares_cleared moment cancelled job old shares are long = record {
    each = length-map (λ s. []) shares ∙ long;
    right = λ n p lists at found. nothing_at shares n lists found ∙ sym (none_done (done_at moment cancelled job) n p refl);
  }
