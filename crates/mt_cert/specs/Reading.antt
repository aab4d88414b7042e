-- The lines of a job over references, part by part.
use Rattle.std.specs.Prelude.{◌≡◌, ℕ, ◌<◌, ⊤, List, [], ◌∷◌, map, unwrap_or, slice_get}
use Rattle.mt_types.specs.Values.{item_with, job_with, outcome_with}
use Rattle.mt_types.specs.declared.document.PhaseKind.{PhaseKind}
use Rattle.mt_types.specs.declared.document.PhaseKind.TheVariants.{Map, Reduce}
use Rattle.mt_model.specs.Types.{Body, Item, Job, TraceEntry}
use Rattle.mt_model.specs.Feed.{entries_of, items_in}
use Rattle.mt_certline.specs.Certificate.{Certificate, certificate_of, good_items}
use Rattle.mt_certline.specs.declared.line.Line.{Line}
use Rattle.mt_certline.specs.declared.line.Line.TheVariants.{Input, Output, Task}
use Rattle.mt_certline.specs.declared.line.Listed.{Listed}
use Rattle.mt_feeds.specs.FedJob.{all_shares, lists_of}
use Rattle.mt_cert.specs.Certifying.{sum_of_body}
use Rattle.mt_cert.specs.declared.shares.Opened.{Opened}

-- the certificate of a job over references
abbrev pub certificate_in : Job Body → Certificate
certificate_in job = certificate_of (job_with sum_of_body job)

-- the lines of inputs
abbrev pub input_lines : List (Item Body) → List Line
input_lines items = map (λ i. Input (item_with sum_of_body i)) items

-- those of outputs
abbrev pub output_lines : List (Item Body) → List Line
output_lines items = map (λ i. Output i.name) items

-- ---- tasks

-- the shares of the reducers are laid out
abbrev pub AreLaid : PhaseKind → List (Item Body) → List (List ℕ) → Type 0
AreLaid Map items lists = ⊤
AreLaid (Reduce count) items lists = (0 < count) × (lists ≡ all_shares items count)

-- a phase of this kind is ready to be listed over these items
pub record IsOpened (phase : ℕ) (kind : PhaseKind) (items : List (Item Body)) (o : Opened) : Type 0 where
  pub phase_is : o.phase ≡ phase
  pub kind_is : o.kind ≡ kind
  pub laid : AreLaid kind items (lists_of o.shares)

-- the places that a task reads, by the shares that are laid out
abbrev pub reads_by : PhaseKind → List (List ℕ) → ℕ → List ℕ
reads_by Map lists place = place ∷ []
reads_by (Reduce count) lists place = unwrap_or (slice_get lists place) []

-- a committed task, with what it reads by them
abbrev pub listed_by : PhaseKind → List (List ℕ) → TraceEntry Body → Listed
listed_by kind lists e = record {
  phase = e.phase;
  place = e.place;
  position = e.position;
  outputs = good_items (outcome_with sum_of_body e.outcome);
  reads = reads_by kind lists e.place;
}

-- the lines of the tasks of a phase
abbrev pub task_lines : Opened → List (TraceEntry Body) → List Line
task_lines o trace = map (λ e. Task (listed_by o.kind (lists_of o.shares) e)) (entries_of o.phase trace)

-- the lines of what the tasks of a phase gave
abbrev pub given_lines : ℕ → List (TraceEntry Body) → List Line
given_lines phase trace = output_lines (items_in (entries_of phase trace))
