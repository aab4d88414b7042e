-- What the entry of a task and its note in what is kept make together.
use Rattle.std.proofs.Common.{◌≡◌, ℕ, ◌+◌, List, length, Result, Ok, Err, ap, ◌∙◌}
use Rattle.std.specs.Prelude.{OnOk}
use Rattle.mt_types.specs.declared.job.TraceEntry.{TraceEntry}
use Rattle.mt_types.specs.declared.task.Fate.{Fate}
use Rattle.mt_model.specs.Feed.{items_of}
use Rattle.mt_model.specs.JobSteps.{with_entry}
use Rattle.mt_model.specs.Resolve.{resolve}
use Rattle.mt_model.specs.Rows.{Rows}
use Rattle.mt_sched.specs.Plan.{Plan}
use Rattle.mt_sched.specs.PlanSteps.{committed_in, grown, with_plan}
use Rattle.mt_resolve.specs.Committing.{committing_of}
use Rattle.mt_feeds.specs.declared.kept.FedJob.{FedJob}
use Rattle.mt_feeds.specs.FedJob.{IsKept}
use Rattle.mt_jobs.specs.Committed.{HasCommitted}

module _ {B : Type 0} {T E : Type 0} where
  pub has_committed : (r : Result T E) (old : FedJob B) (rows : Rows B) (plans : List (ℕ × Plan)) (phase place : ℕ) (fate : Fate B) (position moment : ℕ) (new : FedJob B) (left : Rows B) (later : List (ℕ × Plan)) (entry : TraceEntry B)
      → entry ≡ record { phase = phase; place = place; position = position; outcome = (resolve (committing_of old.job phase place position moment) rows fate).outcome }
      → left ≡ (resolve (committing_of old.job phase place position moment) rows fate).rows
      → OnOk r (new.job ≡ with_entry entry old.job) → OnOk r (IsKept new)
      → OnOk r (later ≡ with_plan plans old.job.number (λ plan. grown (committed_in plan entry.phase entry.place) (entry.phase + 1) (length (items_of entry.outcome))))
      → OnOk r (HasCommitted old rows plans phase place fate position moment new left later)
  has_committed (Ok x) old rows plans phase place fate position moment new left later entry entry_is left_is job kept later_is = record {
    entry = entry;
    entry_is = entry_is;
    rows_are = left_is;
    job = job;
    kept = kept;
    plans_are = later_is ∙ ap (λ (e : TraceEntry B). with_plan plans old.job.number (λ plan. grown (committed_in plan e.phase e.place) (e.phase + 1) (length (items_of entry.outcome)))) entry_is;
  }
  has_committed (Err x) old rows plans phase place fate position moment new left later entry entry_is left_is job kept later_is = tt
