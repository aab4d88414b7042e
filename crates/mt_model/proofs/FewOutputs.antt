-- A task has at most as many outputs as records.
use Rattle.std.proofs.Common.{◌≡◌, ℕ, ◌+◌, ◌≤◌, Bool, true, false, cond, List, [], ◌∷◌, length, Option, Some, None, subst, arith, suc, length-append}
use Rattle.std.specs.Prelude.{Result, Ok, Err}
use Rattle.mt_path.specs.AccountPath.{AccountPath}
use Rattle.mt_types.specs.WellMade.{IsWellMadeFate}
use Rattle.mt_types.specs.declared.object.Object.{Object}
use Rattle.mt_types.specs.declared.task.Fate.{Fate}
use Rattle.mt_types.specs.declared.task.Fate.TheVariants as fate
use Rattle.mt_types.specs.declared.task.TaskFailure.{TaskFailure}
use Rattle.mt_types.specs.declared.task.TaskFailure.TheVariants.{TaskPlaceRefused}
use Rattle.mt_types.specs.declared.task.TaskRecord.{TaskRecord}
use Rattle.mt_types.specs.declared.task.TaskRecord.TheVariants.{Emit, Keep, Ref}
use Rattle.mt_model.specs.Feed.{items_of}
use Rattle.mt_model.specs.Resolve.{Committing, Taken, and_then, can_hold_object, fresh_place, kept, resolve, resolved, take_record, take_records, take_reference, with_output}
use Rattle.mt_model.specs.Rows.{Rows, object_at}

module _ {B : Type 0} (c : Committing) where
  abbrev Few : ℕ → Result (Taken B) TaskFailure → Type 0
  Few n (Ok t) = length t.items ≤ n
  Few n (Err failure) = Unit {0}

  one_more : (n : ℕ) (name : AccountPath) (body : B) (reducer : Option ℕ) (t : Taken B) → length t.items ≤ n → length (with_output c name body reducer t).items ≤ n + 1
  one_more n name body reducer t few = let more = length-append t.items (record { name = name; root = c.root; body = body; reducer = reducer } ∷ []) in omega (arith, more, few)

  emitted : (n : ℕ) (p : AccountPath) (body : B) (reducer : Option ℕ) (t : Taken B) → length t.items ≤ n → (b : Bool) → Few (n + 1) (and_then (λ new. Ok (with_output c p body reducer new)) (cond b (Ok (kept c p body t)) (Err TaskPlaceRefused)))
  emitted n p body reducer t few true = one_more n p body reducer (kept c p body t) few
  emitted n p body reducer t few false = tt

  placed : (n : ℕ) (p : AccountPath) (body : B) (t : Taken B) → length t.items ≤ n → (b : Bool) → Few (n + 1) (cond b (Ok (kept c p body t)) (Err TaskPlaceRefused))
  placed n p body t few true = omega (arith, few)
  placed n p body t few false = tt

  referred : (n : ℕ) (name : AccountPath) (t : Taken B) → length t.items ≤ n → (o : Option (Object B)) → Few (n + 1) (take_reference c name t o)
  referred n name t few None = tt
  referred n name t few (Some o) = one_more n name o.body None t few

  one_record : (n : ℕ) (t : Taken B) → length t.items ≤ n → (r : TaskRecord B) → Few (n + 1) (take_record c t r)
  one_record n t few (Emit None reducer body) = one_more n (fresh_place c t) body reducer (kept c (fresh_place c t) body t) few
  one_record n t few (Emit (Some p) reducer body) = emitted n p body reducer t few (can_hold_object t.rows c.job p)
  one_record n t few (Keep p body) = placed n p body t few (can_hold_object t.rows c.job p)
  one_record n t few (Ref name) = referred n name t few (object_at t.rows name)

  next_record : (n : ℕ) (r : TaskRecord B) (x : Result (Taken B) TaskFailure) → Few n x → Few (n + 1) (and_then (λ t. take_record c t r) x)
  next_record n r (Ok t) few = one_record n t few r
  next_record n r (Err failure) few = tt

  all_records : (rs : List (TaskRecord B)) (n : ℕ) (x : Result (Taken B) TaskFailure) → Few n x → Few (n + length rs) (take_records c rs x)
  all_records [] n x few = let same : n ≡ n + 0 = omega arith in subst (λ m. Few m x) same few
  all_records (r ∷ rs) n x few =
      let same : n + 1 + length rs ≡ n + suc (length rs) = omega arith in
      subst (λ m. Few m (take_records c (r ∷ rs) x)) same (all_records rs (n + 1) (and_then (λ t. take_record c t r) x) (next_record n r x few))

  at_end : (n : ℕ) (rows : Rows B) (x : Result (Taken B) TaskFailure) → Few n x → length (items_of (resolved rows x).outcome) ≤ n
  at_end n rows (Ok t) few = few
  at_end n rows (Err failure) few = omega arith

  -- so at most 4,095
  pub few_outputs : (rows : Rows B) (f : Fate B) → IsWellMadeFate f → length (items_of (resolve c rows f).outcome) ≤ 4095
  few_outputs rows (fate.Good records) made =
      let few = at_end (0 + length records) rows (take_records c records (Ok (record { rows = rows; items = []; made = 0 }))) (all_records records 0 (Ok (record { rows = rows; items = []; made = 0 })) (omega arith)) in
      let most = made.0 in
      omega (arith, few, most)
  few_outputs rows (fate.Bad failure status stderr) made = omega arith
