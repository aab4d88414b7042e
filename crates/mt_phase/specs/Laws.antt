-- What an order means: over the bytes that come with it, it is the run of its task.
use Rattle.std.specs.Prelude.{◌≡◌, ℕ, List, [], ◌++◌, length}
use Rattle.std.specs.List.{flat_map, slice_get}
use Rattle.std.specs.Option.{unwrap_or}
use Rattle.mt_types.specs.declared.body.Body.{Body}
use Rattle.mt_types.specs.declared.document.Phase.{Phase}
use Rattle.mt_types.specs.declared.job.Job.{Job}
use Rattle.mt_model.specs.Bodies.{OfJob}
use Rattle.mt_model.specs.Feed.{feed}
use Rattle.mt_model.specs.Tasks.{assets_of, input_of, run_in}
use Rattle.mt_spawn.specs.Orders.{input_from, run_from}
use Rattle.mt_phase.specs.Orders.{order_in}

-- as many bytes are read for a body as it says
abbrev pub KeepsSize : (Body → List ℕ) → Body → Type 0
KeepsSize content b = length (content b) ≡ b.len

-- the bytes that come with the order of a task: those that it reads, and then each of its assets
abbrev pub bytes_with : (Body → List ℕ) → List ℕ → Job Body → ℕ → ℕ → Phase → List ℕ
bytes_with content login job phase place p =
    input_of content p.kind (feed job phase) place
    ++ flat_map (λ a. a.bytes) (assets_of content login p (unwrap_or (slice_get job.assets phase) []))

-- an order over these bytes is the run of the task, which reads its input
pub record RunsAs (content : Body → List ℕ) (login : List ℕ) (job : Job Body) (phase place : ℕ) (p : Phase) : Type 0 where
  pub run : run_from (order_in (λ b. b.len) login job phase place p) (bytes_with content login job phase place p) ≡ run_in content login job phase place p
  pub input : input_from (order_in (λ b. b.len) login job phase place p) (bytes_with content login job phase place p) ≡ input_of content p.kind (feed job phase) place

-- each order does, where as many bytes are read for each body of the job as it says
abbrev pub OrdersAreRuns : Type 0
OrdersAreRuns = (content : Body → List ℕ) (login : List ℕ) (job : Job Body) (phase place : ℕ) (p : Phase) → OfJob (KeepsSize content) job → RunsAs content login job phase place p
