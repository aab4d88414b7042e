-- What a task was run with and read is what stands at its place at the end.
use Rattle.std.proofs.Common.{◌≡◌, ℕ, ◌<◌, true, List, [], ◌∷◌, ◌++◌, length, map, Option, Some, refl, sym, ap, subst, ◌∙◌, arith, zero, suc}
use Rattle.std.specs.Prelude.{take, drop}
use Rattle.std.specs.List.{slice_get, flat_map}
use Rattle.std.specs.Option.{unwrap_or, option_map}
use Rattle.mt_path.specs.AccountPath.{path_text, slash}
use Rattle.mt_types.specs.declared.task.Run.{Run}
use Rattle.mt_model.specs.Names.{job_stor, output_prefix}
use Rattle.mt_model.specs.Tasks.{assets_of, reducer_at, run_over}
use Rattle.std.proofs.lemmas.Bool.{ltb-true}
use Rattle.mt_types.specs.declared.document.JobDocument.{JobDocument}
use Rattle.mt_types.specs.declared.document.Phase.{Phase}
use Rattle.mt_types.specs.declared.document.PhaseKind.{PhaseKind}
use Rattle.mt_types.specs.declared.document.PhaseKind.TheVariants.{Map, Reduce}
use Rattle.mt_types.specs.declared.job.Item.{Item}
use Rattle.mt_types.specs.declared.job.Job.{Job}
use Rattle.mt_types.specs.declared.job.TraceEntry.{TraceEntry}
use Rattle.mt_model.specs.Feed.{entries_of, feed, items_in}
use Rattle.mt_model.specs.Sound.{Sound, before}
use Rattle.mt_model.specs.Tasks.{complete_before, input_of, is_task_of, may_begin, object_read, task_count, root_at}
use Rattle.mt_model.proofs.LawfulInputs.{and_left, and_right}
use Rattle.mt_model.specs.Honest.{Bytes, itself}
use Rattle.mt_model.proofs.Traces.{items_front}
use Rattle.mt_model.proofs.Closed.{closed}

take_front : {X : Type 0} (k : ℕ) (xs ys : List X) → k < length xs → take 1 (drop k (xs ++ ys)) ≡ take 1 (drop k xs)
take_front k [] ys less = absurd (omega arith)
take_front zero (x ∷ xs) ys less = refl
take_front (suc k) (x ∷ xs) ys less = take_front k xs ys (omega arith)

pub get_front : {X : Type 0} (k : ℕ) (xs ys : List X) → k < length xs → slice_get (xs ++ ys) k ≡ slice_get xs k
get_front k [] ys less = absurd (omega arith)
get_front zero (x ∷ xs) ys less = refl
get_front (suc k) (x ∷ xs) ys less = get_front k xs ys (omega arith)

-- an earlier value of a job: when its trace had k entries
pub record IsEarlier (j : Job Bytes) (k : ℕ) (job : Job Bytes) : Type 0 where
  pub number : j.number ≡ job.number
  pub document : j.document ≡ job.document
  pub assets : j.assets ≡ job.assets
  pub more : List (Item Bytes)
  pub inputs : job.inputs ≡ j.inputs ++ more
  pub trace : j.trace ≡ take k job.trace
  pub all_in : j.ended ≡ true → job.inputs ≡ j.inputs
  pub ended : j.ended ≡ true → job.ended ≡ true

-- with these three things of another
abbrev like : Job Bytes → JobDocument → List (Item Bytes) → List (TraceEntry Bytes) → Job Bytes
like j d inputs trace = record j { document = d; inputs = inputs; trace = trace }

module _ (j : Job Bytes) (k : ℕ) (job : Job Bytes) (e : IsEarlier j k job) where
  pub feed_front : (n : ℕ) → (more : List (Item Bytes)) × (feed job n ≡ feed j n ++ more)
  feed_front zero = (e.more, e.inputs)
  feed_front (suc n) = (
    items_in (entries_of n (drop k job.trace)),
    items_front n k job.trace ∙ ap (λ t. items_in (entries_of n t) ++ items_in (entries_of n (drop k job.trace))) (sym e.trace),
  )

  pub feed_same : Sound job → (n : ℕ) → j.ended ≡ true → complete_before j n ≡ true → feed job n ≡ feed j n
  feed_same s n ended all =
      let a : complete_before (like j job.document j.inputs j.trace) n ≡ true = subst (λ d. complete_before (like j d j.inputs j.trace) n ≡ true) e.document all in
      let b : complete_before (like j job.document job.inputs j.trace) n ≡ true = subst (λ i. complete_before (like j job.document i j.trace) n ≡ true) (sym (e.all_in ended)) a in
      let c : complete_before (before job k) n ≡ true = subst (λ t. complete_before (like j job.document job.inputs t) n ≡ true) e.trace b in
      sym (closed job s k n c) ∙ back n (e.all_in ended)
    where
      back : (n : ℕ) → job.inputs ≡ j.inputs → feed (before job k) n ≡ feed j n
      back zero same = same
      back (suc n) same = ap (λ t. items_in (entries_of n t)) (sym e.trace)

  -- what is said of a place is the same of both feeds
  pub record SameAt (kind : PhaseKind) (n place : ℕ) : Type 0 where
    pub root : root_at kind (feed job n) place ≡ root_at kind (feed j n) place
    pub object : (login : List ℕ) → object_read login kind (feed job n) place ≡ object_read login kind (feed j n) place
    pub input : input_of itself kind (feed job n) place ≡ input_of itself kind (feed j n) place

  same_feed : (kind : PhaseKind) (n place : ℕ) → feed job n ≡ feed j n → SameAt kind n place
  same_feed kind n place same = record {
    root = ap (λ items. root_at kind items place) same;
    object = λ login. ap (λ items. object_read login kind items place) same;
    input = ap (λ items. input_of itself kind items place) same;
  }

  same_front : (n place : ℕ) → place < length (feed j n) → SameAt Map n place
  same_front n place less =
      let f = feed_front n in
      record {
        root = ap (λ items. root_at Map items place) f.1 ∙ ap (λ o. unwrap_or (option_map (λ i. i.root) o) []) (get_front place (feed j n) f.0 less);
        object = λ login. ap (λ items. object_read login Map items place) f.1 ∙ ap (λ o. option_map (λ i. path_text login i.name) o) (get_front place (feed j n) f.0 less);
        input = ap (λ items. input_of itself Map items place) f.1 ∙ ap (λ items. flat_map (λ (i : Item Bytes). itself i.body) (map (λ (q : ℕ × Item Bytes). q.1) (map (λ i. (place, i)) items))) (take_front place (feed j n) f.0 less);
      }

  pub same_at : Sound job → (n place : ℕ) (p : Phase) → is_task_of j n place (Some p) ≡ true → SameAt p.kind n place
  same_at s n place p task = by p.kind (and_left _ _ task) (ltb-true place _ (and_right (may_begin j n p.kind) _ task))
    where
      by : (kind : PhaseKind) → may_begin j n kind ≡ true → place < task_count kind (feed j n) → SameAt kind n place
      by Map begin less = same_front n place less
      by (Reduce count) begin less = same_feed (Reduce count) n place (feed_same s n (and_left _ _ begin) (and_right j.ended _ begin))

  -- so is the run
  module _ (login : List ℕ) (n place : ℕ) (p : Phase) where
    abbrev parts : ℕ → List ℕ → Option (List ℕ) → List (List Bytes) → Run
    parts number root object assets = record {
      job = number;
      phase = n;
      exec = p.exec;
      init = p.init;
      base = path_text login (job_stor number) ++ slash ∷ output_prefix root n;
      object = object;
      reducer = reducer_at p.kind place;
      assets = assets_of itself login p (unwrap_or (slice_get assets n) []);
    }

    pub same_run : SameAt p.kind n place → run_over itself login j n place p (feed j n) ≡ run_over itself login job n place p (feed job n)
    same_run same =
        ap (λ m. parts m (root_at p.kind (feed j n) place) (object_read login p.kind (feed j n) place) j.assets) e.number
        ∙ ap (λ r. parts job.number r (object_read login p.kind (feed j n) place) j.assets) (sym same.root)
        ∙ ap (λ o. parts job.number (root_at p.kind (feed job n) place) o j.assets) (sym (same.object login))
        ∙ ap (λ a. parts job.number (root_at p.kind (feed job n) place) (object_read login p.kind (feed job n) place) a) e.assets
