-- What a task reads, item by item.
use Rattle.std.proofs.Common.{◌≡◌, ℕ, ◌<◌, ◌&&◌, nat_lt, true, List, [], ◌∷◌, length, map, get_or, take, drop, Option, Some, None, refl, sym, ap, ◌∙◌, zero, suc, arith}
use Rattle.std.specs.List.{slice_get}
use Rattle.std.specs.Option.{option_and_then, option_map, option_map_or}
use Rattle.std.specs.declared.alloc.Global.{Global}
use Rattle.std.specs.declared.vec.Vec.{Vec}
use Rattle.std.proofs.lemmas.Bool.{ltb-true}
use Rattle.std.proofs.lemmas.Option.{slice_get-get_or, slice_get_within}
use Rattle.mt_types.specs.declared.document.Phase.{Phase}
use Rattle.mt_types.specs.declared.document.PhaseKind.TheVariants.{Map, Reduce}
use Rattle.mt_types.specs.declared.job.Item.{Item}
use Rattle.mt_types.specs.declared.job.Job.{Job}
use Rattle.mt_model.specs.Feed.{feed}
use Rattle.mt_model.specs.Tasks.{is_ready, is_running, is_task, is_task_of, items_read, may_begin, may_run, share_places, task_count}
use Rattle.mt_model.proofs.LawfulInputs.{and_both, and_left, and_right}
use Rattle.mt_model.proofs.Maps.{length-map, slice_get-map}
use Rattle.mt_model.proofs.Shares.{map_reads}
use Rattle.mt_feeds.specs.FedJob.{AreShares, all_shares, lists_of, share_numbers, shares_in}
use Rattle.mt_feeds.specs.Reading.{item_of, read_of, task_items}
use Rattle.mt_feeds.proofs.Laid.{share_at, share_reads}

module _ {X : Type 0} where
  -- of one element only the first is there
  pub one_first : (xs : List X) (place : ℕ) → slice_get (take 1 (drop place xs)) 0 ≡ slice_get xs place
  one_first [] zero = refl
  one_first [] (suc n) = refl
  one_first (x ∷ xs) zero = refl
  one_first (x ∷ xs) (suc n) = one_first xs n

  pub one_past : (xs : List X) (place k : ℕ) → slice_get (take 1 (drop place xs)) (suc k) ≡ None
  one_past [] zero k = refl
  one_past [] (suc n) k = refl
  one_past (x ∷ xs) zero k = refl
  one_past (x ∷ xs) (suc n) k = one_past xs n k

  pub one_counted : (xs : List X) (place : ℕ) → place < length xs → 1 ≡ length (take 1 (drop place xs))
  one_counted [] place less = absurd (omega (arith, less))
  one_counted (x ∷ xs) zero less = refl
  one_counted (x ∷ xs) (suc n) less = one_counted xs n (omega (arith, less))

-- a read of a phase that the job has
pub within_same : {X Y : Type 0} (y : Option Y) (xs : List X) (n : ℕ) → n < length xs → option_and_then (λ x. y) (slice_get xs n) ≡ y
within_same y [] n less = absurd (omega arith)
within_same y (x ∷ xs) zero less = refl
within_same y (x ∷ xs) (suc n) less = within_same y xs n (omega (arith, less))

module _ {B : Type 0} where
  phase_only : (job : Job B) (phase : ℕ) (p : Phase) (f : Phase → Option (Item B)) → slice_get job.document.phases phase ≡ Some p → option_and_then f (slice_get job.document.phases phase) ≡ f p
  phase_only job phase p f at = ap (option_and_then f) at

  -- a map task reads its item
  pub read_map : (job : Job B) (phase place : ℕ) (p : Phase) → slice_get job.document.phases phase ≡ Some p → p.kind ≡ Map → item_of phase place job ≡ read_of phase place 0 job
  read_map job phase place p at kind =
      phase_only job phase p (λ q. slice_get (feed job phase) place) at
      ∙ sym (one_first (feed job phase) place)
      ∙ ap (λ items. slice_get items 0) (sym (map_reads (feed job phase) place))
      ∙ ap (λ k. slice_get (items_read k (feed job phase) place) 0) (sym kind)
      ∙ sym (phase_only job phase p (λ q. slice_get (items_read q.kind (feed job phase) place) 0) at)

  -- and nothing else
  pub read_map_past : (job : Job B) (phase place k : ℕ) (p : Phase) → slice_get job.document.phases phase ≡ Some p → p.kind ≡ Map → 0 < k → None ≡ read_of phase place k job
  read_map_past job phase place zero p at kind some = absurd (omega arith)
  read_map_past job phase place (suc k) p at kind some =
      sym (one_past (feed job phase) place k)
      ∙ ap (λ items. slice_get items (suc k)) (sym (map_reads (feed job phase) place))
      ∙ ap (λ x. slice_get (items_read x (feed job phase) place) (suc k)) (sym kind)
      ∙ sym (phase_only job phase p (λ q. slice_get (items_read q.kind (feed job phase) place) (suc k)) at)

  -- a reducer that is ready reads the items at the places of its share
  pub read_reduce : (job : Job B) (phase place k count : ℕ) (p : Phase) (laid : List (List (List ℕ))) (lists : List (List ℕ)) → slice_get job.document.phases phase ≡ Some p → p.kind ≡ Reduce count → is_ready job phase place ≡ true → AreShares job laid → slice_get laid phase ≡ Some lists
      → option_and_then (λ r. item_of phase r job) (option_and_then (λ l. slice_get l k) (slice_get lists place)) ≡ read_of phase place k job
  read_reduce job phase place k count p laid lists at kind ready are found =
      let items : List (Item B) = feed job phase in
      let task : is_task job phase place ≡ true = and_right (is_running job) _ (and_left (may_run job phase place) _ ready) in
      let of_phase : (may_begin job phase p.kind && nat_lt place (task_count p.kind items)) ≡ true = sym (ap (is_task_of job phase place) at) ∙ task in
      let begun : (is_running job && may_begin job phase p.kind) ≡ true = and_both (is_running job) _ (and_left (is_running job) _ (and_left (may_run job phase place) _ ready)) (and_left (may_begin job phase p.kind) _ of_phase) in
      let under : nat_lt place (task_count p.kind items) ≡ true = and_right (may_begin job phase p.kind) _ of_phase in
      let less : place < count = ltb-true place count (sym (ap (λ x. nat_lt place (task_count x items)) kind) ∙ under) in
      let laid_is : lists ≡ all_shares items count =
      are.right phase p lists at found ∙ ap (λ b. shares_in b p.kind items) begun ∙ ap (λ x. shares_in true x items) kind in
      ap (λ l. option_and_then (λ r. item_of phase r job) (option_and_then (λ x. slice_get x k) (slice_get l place))) laid_is
      ∙ ap (λ o. option_and_then (λ r. item_of phase r job) (option_and_then (λ x. slice_get x k) o)) (share_at items count place less)
      ∙ by (slice_get (share_numbers items count place) k)
      ∙ share_reads items count place k
      ∙ ap (λ x. slice_get (items_read x items place) k) (sym kind)
      ∙ sym (phase_only job phase p (λ q. slice_get (items_read q.kind items place) k) at)
    where
      by : (o : Option ℕ) → option_and_then (λ r. item_of phase r job) o ≡ option_and_then (slice_get (feed job phase)) o
      by None = refl
      by (Some r) = phase_only job phase p (λ q. slice_get (feed job phase) r) at

  -- so it is by the lists of numbers that are kept
  pub read_places : (job : Job B) (phase place k count : ℕ) (p : Phase) (shares : List (Vec (Vec ℕ Global) Global)) (w : Vec (Vec ℕ Global) Global) → slice_get job.document.phases phase ≡ Some p → p.kind ≡ Reduce count → is_ready job phase place ≡ true → AreShares job (map lists_of shares) → w ≡ get_or shares phase w
      → option_and_then (λ r. item_of phase r job) (option_and_then (λ v. slice_get v.items k) (slice_get w.items place)) ≡ read_of phase place k job
  read_places job phase place k count p shares w at kind ready are is =
      let within : phase < length shares =
      (let long = length-map lists_of shares in let each = are.each in let less = slice_get_within job.document.phases phase p at in omega (arith, long, each, less)) in
      let found : slice_get (map lists_of shares) phase ≡ Some (lists_of w) = slice_get-map lists_of shares phase ∙ ap (option_map lists_of) (slice_get-get_or shares phase w within ∙ ap (λ x. Some x) (sym is)) in
      ap (option_and_then (λ r. item_of phase r job)) (by (slice_get w.items place) ∙ sym (ap (option_and_then (λ l. slice_get l k)) (slice_get-map (λ (v : Vec ℕ Global). v.items) w.items place)))
      ∙ read_reduce job phase place k count p (map lists_of shares) (lists_of w) at kind ready are found
    where
      by : (o : Option (Vec ℕ Global)) → option_and_then (λ v. slice_get v.items k) o ≡ option_and_then (λ l. slice_get l k) (option_map (λ (v : Vec ℕ Global). v.items) o)
      by None = refl
      by (Some v) = refl

  -- ---- how many

  phase_items : (job : Job B) (phase place : ℕ) (p : Phase) → slice_get job.document.phases phase ≡ Some p → task_items phase place job ≡ items_read p.kind (feed job phase) place
  phase_items job phase place p at = ap (λ o. option_map_or (λ (q : Phase). items_read q.kind (feed job phase) place) o []) at

  -- the place of a ready task is one of its phase, which has begun
  under : (job : Job B) (phase place : ℕ) (p : Phase) → slice_get job.document.phases phase ≡ Some p → is_ready job phase place ≡ true → (may_begin job phase p.kind && nat_lt place (task_count p.kind (feed job phase))) ≡ true
  under job phase place p at ready = sym (ap (is_task_of job phase place) at) ∙ and_right (is_running job) _ (and_left (may_run job phase place) _ ready)

  -- a map task reads one item
  pub count_map : (job : Job B) (phase place : ℕ) (p : Phase) → slice_get job.document.phases phase ≡ Some p → p.kind ≡ Map → is_ready job phase place ≡ true → 1 ≡ length (task_items phase place job)
  count_map job phase place p at kind ready =
      let items : List (Item B) = feed job phase in
      let within : nat_lt place (length items) ≡ true = sym (ap (λ k. nat_lt place (task_count k items)) kind) ∙ and_right (may_begin job phase p.kind) _ (under job phase place p at ready) in
      one_counted items place (ltb-true place (length items) within)
      ∙ ap length (sym (map_reads items place))
      ∙ ap (λ k. length (items_read k items place)) (sym kind)
      ∙ ap length (sym (phase_items job phase place p at))

  -- a reducer those of its share
  pub count_reduce : (job : Job B) (phase place count : ℕ) (p : Phase) (laid : List (List (List ℕ))) (lists : List (List ℕ)) → slice_get job.document.phases phase ≡ Some p → p.kind ≡ Reduce count → is_ready job phase place ≡ true → AreShares job laid → slice_get laid phase ≡ Some lists
      → option_map_or length (slice_get lists place) 0 ≡ length (task_items phase place job)
  count_reduce job phase place count p laid lists at kind ready are found =
      let items : List (Item B) = feed job phase in
      let of_phase = under job phase place p at ready in
      let begun : (is_running job && may_begin job phase p.kind) ≡ true = and_both (is_running job) _ (and_left (is_running job) _ (and_left (may_run job phase place) _ ready)) (and_left (may_begin job phase p.kind) _ of_phase) in
      let less : place < count = ltb-true place count (sym (ap (λ x. nat_lt place (task_count x items)) kind) ∙ and_right (may_begin job phase p.kind) _ of_phase) in
      let laid_is : lists ≡ all_shares items count =
      are.right phase p lists at found ∙ ap (λ b. shares_in b p.kind items) begun ∙ ap (λ x. shares_in true x items) kind in
      ap (λ l. option_map_or length (slice_get l place) 0) laid_is
      ∙ ap (λ o. option_map_or length o 0) (share_at items count place less)
      ∙ length-map (λ (q : ℕ × Item B). q.0) (share_places items count place)
      ∙ sym (length-map (λ (q : ℕ × Item B). q.1) (share_places items count place))
      ∙ ap (λ x. length (items_read x items place)) (sym kind)
      ∙ ap length (sym (phase_items job phase place p at))

  -- by the lists that are kept
  pub count_places : (job : Job B) (phase place count : ℕ) (p : Phase) (shares : List (Vec (Vec ℕ Global) Global)) (w : Vec (Vec ℕ Global) Global) → slice_get job.document.phases phase ≡ Some p → p.kind ≡ Reduce count → is_ready job phase place ≡ true → AreShares job (map lists_of shares) → w ≡ get_or shares phase w
      → option_map_or (λ (v : Vec ℕ Global). length v.items) (slice_get w.items place) 0 ≡ length (task_items phase place job)
  count_places job phase place count p shares w at kind ready are is =
      let within : phase < length shares =
      (let long = length-map lists_of shares in let each = are.each in let less = slice_get_within job.document.phases phase p at in omega (arith, long, each, less)) in
      let found : slice_get (map lists_of shares) phase ≡ Some (lists_of w) = slice_get-map lists_of shares phase ∙ ap (option_map lists_of) (slice_get-get_or shares phase w within ∙ ap (λ x. Some x) (sym is)) in
      by (slice_get w.items place) ∙ sym (ap (λ o. option_map_or length o 0) (slice_get-map (λ (v : Vec ℕ Global). v.items) w.items place))
      ∙ count_reduce job phase place count p (map lists_of shares) (lists_of w) at kind ready are found
    where
      by : (o : Option (Vec ℕ Global)) → option_map_or (λ (v : Vec ℕ Global). length v.items) o 0 ≡ option_map_or length (option_map (λ (v : Vec ℕ Global). v.items) o) 0
      by None = refl
      by (Some v) = refl

  -- ---- all of them

  -- one is that of the list
  pub read_one : (job : Job B) (phase place k : ℕ) → read_of phase place k job ≡ slice_get (task_items phase place job) k
  read_one job phase place k = by (slice_get job.document.phases phase)
    where
      by : (o : Option Phase) → option_and_then (λ p. slice_get (items_read p.kind (feed job phase) place) k) o ≡ slice_get (option_map_or (λ (p : Phase). items_read p.kind (feed job phase) place) o []) k
      by None = refl
      by (Some p) = refl
