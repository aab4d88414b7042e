-- What holds of the trace of every job of a lawful state.
use Rattle.std.specs.Prelude.{◌≡◌, ℕ, true, false, map, take, Some, IsSome}
use Rattle.std.specs.List.{slice_get}
use Rattle.std.specs.List.Sorted.{IsStrictlySortedBy}
use Rattle.std.specs.Ordering.{nat_cmp}
use Rattle.mt_model.specs.Types.{Job, TraceEntry}
use Rattle.mt_model.specs.Tasks.{is_task, is_committed, all_complete}

module _ {B : Type 0} where
  -- the job as it was before the commit at this place of its trace
  abbrev pub before : Job B → ℕ → Job B
  before job k = record job { trace = take k job.trace }

  -- each entry was a task when it was committed, and was not committed before; a job that is done and not
  -- cancelled has ended and is complete
  pub record Sound (job : Job B) : Type 0 where
    pub tasks : (k : ℕ) (e : TraceEntry B) → slice_get job.trace k ≡ Some e → is_task (before job k) e.phase e.place ≡ true
    pub once : (k : ℕ) (e : TraceEntry B) → slice_get job.trace k ≡ Some e → is_committed (take k job.trace) e.phase e.place ≡ false
    pub rising : IsStrictlySortedBy nat_cmp (map (λ e. e.position) job.trace)
    pub finished : IsSome job.done → job.cancelled ≡ false → (job.ended ≡ true) × (all_complete job ≡ true)
    pub cancelled : job.cancelled ≡ true → IsSome job.done
