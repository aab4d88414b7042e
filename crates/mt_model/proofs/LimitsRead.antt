-- A state is within the limits of values where it is so over other bodies: no limit is one of a body.
use Rattle.std.specs.Prelude.{◌↔◌, List, [], ◌∷◌, map}
use Rattle.std.specs.List.{AllByRecursion}
use Rattle.mt_path.specs.AccountPath.{AccountPath}
use Rattle.mt_types.specs.Values.{entry_with, item_with, job_with, outcome_with, trace_entry_with, upload_with}
use Rattle.mt_types.specs.declared.job.Job.{Job}
use Rattle.mt_types.specs.declared.job.Outcome.{Outcome}
use Rattle.mt_types.specs.declared.job.Outcome.TheVariants as outcome
use Rattle.mt_types.specs.declared.object.Entry.{Entry}
use Rattle.mt_types.specs.declared.object.Entry.TheVariants as entry
use Rattle.mt_types.specs.declared.upload.Upload.{Upload}
use Rattle.mt_model.specs.Bodies.{pair_with, state_with}
use Rattle.mt_model.specs.Keeping.{IsEntry, IsItem, IsJob, IsOutcome, IsUpload, KeepsLimits}
use Rattle.mt_model.specs.State.{State}

module _ {X Y : Type 0} (P : X → Type 0) (Q : Y → Type 0) (g : X → Y) where
  each_on : ((x : X) → P x → Q (g x)) → (xs : List X) → AllByRecursion P xs → AllByRecursion Q (map g xs)
  each_on more [] all = tt
  each_on more (x ∷ xs) all = (more x all.0, each_on more xs all.1)

  each_back : ((x : X) → Q (g x) → P x) → (xs : List X) → AllByRecursion Q (map g xs) → AllByRecursion P xs
  each_back more [] all = tt
  each_back more (x ∷ xs) all = (more x all.0, each_back more xs all.1)

module _ {A B : Type 0} (f : A → B) where
  entry_on : (e : Entry A) → IsEntry e → IsEntry (entry_with f e)
  entry_on (entry.Directory mtime) is = is
  entry_on (entry.Object o) is = is

  entry_back : (e : Entry A) → IsEntry (entry_with f e) → IsEntry e
  entry_back (entry.Directory mtime) is = is
  entry_back (entry.Object o) is = is

  outcome_on : (o : Outcome A) → IsOutcome o → IsOutcome (outcome_with f o)
  outcome_on (outcome.Good items) is = each_on IsItem IsItem (item_with f) (λ i one. one) items is
  outcome_on (outcome.Bad failure status stderr) is = is

  outcome_back : (o : Outcome A) → IsOutcome (outcome_with f o) → IsOutcome o
  outcome_back (outcome.Good items) is = each_back IsItem IsItem (item_with f) (λ i one. one) items is
  outcome_back (outcome.Bad failure status stderr) is = is

  job_on : (j : Job A) → IsJob j → IsJob (job_with f j)
  job_on j i = record {
    created = i.created;
    done = i.done;
    document = i.document;
    inputs = each_on IsItem IsItem (item_with f) (λ x one. one) j.inputs i.inputs;
    missing = i.missing;
    outcomes = each_on (λ e. IsOutcome e.outcome) (λ e. IsOutcome e.outcome) (trace_entry_with f) (λ e is. outcome_on e.outcome is) j.trace i.outcomes;
  }

  job_back : (j : Job A) → IsJob (job_with f j) → IsJob j
  job_back j i = record {
    created = i.created;
    done = i.done;
    document = i.document;
    inputs = each_back IsItem IsItem (item_with f) (λ x one. one) j.inputs i.inputs;
    missing = i.missing;
    outcomes = each_back (λ e. IsOutcome e.outcome) (λ e. IsOutcome e.outcome) (trace_entry_with f) (λ e is. outcome_back e.outcome is) j.trace i.outcomes;
  }

  upload_on : (u : Upload A) → IsUpload u → IsUpload (upload_with f u)
  upload_on u i = record { content_type = i.content_type; moment = i.moment }

  upload_back : (u : Upload A) → IsUpload (upload_with f u) → IsUpload u
  upload_back u i = record { content_type = i.content_type; moment = i.moment }

  pub limits_on : (s : State A) → KeepsLimits s → KeepsLimits (state_with f s)
  limits_on s k = record {
    rows = each_on (λ (r : AccountPath × Entry A). IsEntry r.1) (λ (r : AccountPath × Entry B). IsEntry r.1) (pair_with f) (λ r is. entry_on r.1 is) s.rows k.rows;
    jobs = each_on IsJob IsJob (job_with f) job_on s.jobs k.jobs;
    uploads = each_on IsUpload IsUpload (upload_with f) upload_on s.uploads k.uploads;
  }

  pub limits_back : (s : State A) → KeepsLimits (state_with f s) → KeepsLimits s
  limits_back s k = record {
    rows = each_back (λ (r : AccountPath × Entry A). IsEntry r.1) (λ (r : AccountPath × Entry B). IsEntry r.1) (pair_with f) (λ r is. entry_back r.1 is) s.rows k.rows;
    jobs = each_back IsJob IsJob (job_with f) job_back s.jobs k.jobs;
    uploads = each_back IsUpload IsUpload (upload_with f) upload_back s.uploads k.uploads;
  }

  pub limits_are_read : (s : State A) → KeepsLimits s ↔ KeepsLimits (state_with f s)
  limits_are_read s = (limits_on s, limits_back s)
