-- What a ready task is, and the bytes that it reads.
use Rattle.std.proofs.Common.{◌≡◌, ℕ, Bool, true, false, not, ◌&&◌, List, [], Option, Some, None, refl, ap, subst, ◌∙◌}
use Rattle.std.specs.Prelude.{IfSome}
use Rattle.std.specs.List.{slice_get, sum_by}
use Rattle.std.specs.Option.{option_and_then, option_map_or}
use Rattle.mt_types.specs.declared.body.Body.{Body}
use Rattle.mt_types.specs.declared.document.Phase.{Phase}
use Rattle.mt_types.specs.declared.job.Item.{Item}
use Rattle.mt_types.specs.declared.job.Job.{Job}
use Rattle.mt_types.specs.declared.job.Task.{Task}
use Rattle.mt_model.specs.Feed.{feed}
use Rattle.mt_model.specs.State.{job_at}
use Rattle.mt_model.specs.Tasks.{is_committed, is_ready, is_running, is_task, is_task_of, items_read, may_run}
use Rattle.mt_feeds.specs.Reading.{item_of, task_items}
use Rattle.mt_phase.specs.Orders.{input_size}

-- the bytes of an item
abbrev pub len_of : Item Body → ℕ
len_of item = item.body.len

left : (a b : Bool) → (a && b) ≡ true → a ≡ true
left true b is = refl
left false b is = is

right : (a b : Bool) → (a && b) ≡ true → b ≡ true
right true b is = is
right false b is = absurd (cc)

-- a ready task is one of its job
pub ready_is_task : (job : Job Body) (phase place : ℕ) → is_ready job phase place ≡ true → is_task job phase place ≡ true
ready_is_task job phase place is = right (is_running job) (is_task job phase place) (left (may_run job phase place) (not (is_committed job.trace phase place)) is)

item_by : (job : Job Body) (phase place : ℕ) (o : Option Phase) → is_task_of job phase place o ≡ true → option_and_then (λ (p : Phase). slice_get (feed job phase) place) o ≡ slice_get (feed job phase) place
item_by job phase place None is = absurd (cc)
item_by job phase place (Some p) is = refl

-- so its job has its phase, and the item at its place is that of the feed
pub ready_item : (job : Job Body) (phase place : ℕ) → is_ready job phase place ≡ true → item_of phase place job ≡ slice_get (feed job phase) place
ready_item job phase place is = item_by job phase place (slice_get job.document.phases phase) (ready_is_task job phase place is)

size_by : (job : Job Body) (phase place n : ℕ) (o : Option Phase) → n ≡ sum_by len_of (option_map_or (λ (p : Phase). items_read p.kind (feed job phase) place) o [])
    → IfSome o (λ p. n ≡ input_size (λ b. b.len) p.kind (feed job phase) place)
size_by job phase place n None is = tt
size_by job phase place n (Some p) is = is

-- the sum over what it reads is the size of its input
pub size_is : (jobs : List (Job Body)) (task : Task) (job : Job Body) (n : ℕ) → job_at jobs task.job ≡ Some job → n ≡ option_map_or (λ j. sum_by len_of (task_items task.phase task.place j)) (job_at jobs task.job) 0
    → IfSome (slice_get job.document.phases task.phase) (λ p. n ≡ input_size (λ b. b.len) p.kind (feed job task.phase) task.place)
size_is jobs task job n there is =
    size_by job task.phase task.place n (slice_get job.document.phases task.phase) (is ∙ ap (λ o. option_map_or (λ j. sum_by len_of (task_items task.phase task.place j)) o 0) there)

-- it is ready there
pub ready_there : (jobs : List (Job Body)) (task : Task) (job : Job Body) → job_at jobs task.job ≡ Some job → IfSome (job_at jobs task.job) (λ j. is_ready j task.phase task.place ≡ true) → is_ready job task.phase task.place ≡ true
ready_there jobs task job there is = subst (λ o. IfSome o (λ j. is_ready j task.phase task.place ≡ true)) there is

-- the item that stands at its place
pub item_there : (jobs : List (Job Body)) (task : Task) (job : Job Body) → job_at jobs task.job ≡ Some job → is_ready job task.phase task.place ≡ true
    → option_and_then (item_of task.phase task.place) (job_at jobs task.job) ≡ slice_get (feed job task.phase) task.place
item_there jobs task job there is = ap (option_and_then (item_of task.phase task.place)) there ∙ ready_item job task.phase task.place is
