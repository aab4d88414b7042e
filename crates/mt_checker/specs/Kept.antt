-- What a checker keeps of the lines so far.
use Rattle.std.specs.Prelude.{◌≡◌, ℕ, ◌+◌, ◌<◌, ◌≤◌, ◌==◌, Bool, true, false, ◌&&◌, nat_lt, List, [], length, map, slice_get, Option, Some, None, option_map, option_and_then}
use Rattle.std.specs.List.{AllByRecursion, filter, list_all, range_with_len}
use Rattle.mt_types.specs.declared.document.PhaseKind.{PhaseKind}
use Rattle.mt_model.specs.Types.{AccountPath, Phase}
use Rattle.mt_model.specs.Feed.{feed}
use Rattle.mt_model.specs.Finished.{outputs_of}
use Rattle.mt_model.specs.Tasks.{is_committed, is_complete, task_count}
use Rattle.mt_certline.specs.Certificate.{Progress, entry_of, first_open, is_of_phase, job_so_far}
use Rattle.mt_certline.specs.Read.{line_of}
use Rattle.mt_checker.specs.Stages.{Beginning, Listing, Over, Stage, after}
use Rattle.mt_checker.specs.Feeds.{Feed, feed_of}
use Rattle.mt_checker.specs.Sheets.{Sheet, is_above, is_whole_list}
use Rattle.mt_checker.specs.declared.checker.Checked.{Checked}
use Rattle.mt_checker.specs.declared.checker.Checked.TheVariants as checked
use Rattle.mt_checker.specs.declared.state.Standing.{Standing}
use Rattle.mt_checker.specs.declared.state.Standing.TheVariants as stands
use Rattle.mt_checker.specs.declared.state.State.{State}
use Rattle.mt_checker.specs.declared.state.State.TheVariants as kept

-- how the phases cut their feeds
abbrev pub kinds_of : List Phase → List PhaseKind
kinds_of phases = map (λ p. p.kind) phases

-- how the phase of this number does, none past the last one
abbrev pub kind_at : List Phase → ℕ → Option PhaseKind
kind_at phases n = option_map (λ p. p.kind) (slice_get phases n)

-- the phases before this one are listed whole
abbrev pub IsBehind : Progress → ℕ → Type 0
IsBehind g n = (k : ℕ) (q : Phase) → k < n → slice_get g.phases k ≡ Some q → is_complete (job_so_far g) (k, q) ≡ true

-- the phases before this one are listed whole, nothing of it is, and this is what it reads
pub record Reaches (g : Progress) (n : ℕ) (f : Feed) : Type 0 where
  pub inside : n ≤ length g.phases
  pub behind : IsBehind g n
  pub below : AllByRecursion (λ t. t.phase < n) g.tasks
  pub outputs : g.outputs ≡ []
  pub feed : f ≡ feed_of (kind_at g.phases n) (feed (job_so_far g) n)

-- the phase of a sheet is being listed, or was just listed whole
pub record IsSheet (g : Progress) (p : Phase) (s : Sheet) : Type 0 where
  pub at : slice_get g.phases s.phase ≡ Some p
  pub behind : IsBehind g s.phase
  pub upto : AllByRecursion (λ t. t.phase ≤ s.phase) g.tasks
  pub outputs : g.outputs ≡ []
  pub reading : s.reading ≡ feed_of (Some p.kind) (feed (job_so_far g) s.phase)
  pub next : s.next ≡ feed_of (kind_at g.phases (s.phase + 1)) (feed (job_so_far g) (s.phase + 1))
  pub listed : s.listed ≡ map (is_committed (map entry_of g.tasks) s.phase) (range_with_len 0 (task_count p.kind (feed (job_so_far g) s.phase)))
  pub last : (n : ℕ) → list_all (λ k. nat_lt k.position n) (filter (is_of_phase s.phase) g.tasks) ≡ is_above s.last n

-- it has a place that is not listed
pub record IsOpenSheet (g : Progress) (s : Sheet) : Type 0 where
  pub phase : Phase
  pub sheet : IsSheet g phase s
  pub some : is_whole_list s.listed ≡ false

-- each phase is listed whole: these are the names of the outputs, and so many of them were there
pub record IsNamed (g : Progress) (names : List AccountPath) (next : ℕ) : Type 0 where
  pub none : first_open g ≡ None
  pub named : names ≡ map (λ i. i.name) (outputs_of (job_so_far g))
  pub count : next ≡ length g.outputs

abbrev pub Stands : Progress → Standing → Type 0
Stands g (stands.Phase s) = IsOpenSheet g s
Stands g (stands.Names names next) = IsNamed g names.items next

-- no task and no output was there
abbrev pub is_bare : Progress → Bool
is_bare g = (length g.tasks == 0) && (length g.outputs == 0)

-- the phases and some inputs were there
pub record Gathers (g : Progress) (kinds : List PhaseKind) (f : Feed) : Type 0 where
  pub tasks : g.tasks ≡ []
  pub outputs : g.outputs ≡ []
  pub cuts : kinds_of g.phases ≡ kinds
  pub feed : f ≡ feed_of (kind_at g.phases 0) g.inputs

-- a task or an output was there too
pub record HasListed (g : Progress) (kinds : List PhaseKind) (t : Standing) : Type 0 where
  pub cuts : kinds_of g.phases ≡ kinds
  pub stands : Stands g t
  pub more : is_bare g ≡ false

-- what is kept of lines that led to a stage in the midst
abbrev pub KeepsIn : State → Progress → Type 0
KeepsIn kept.Start g = ⊥
KeepsIn (kept.Inputs kinds f) g = Gathers g kinds.items f
KeepsIn (kept.Listed kinds t) g = HasListed g kinds.items t
KeepsIn kept.Done g = ⊥
KeepsIn kept.Refused g = ⊥

-- WHAT IS KEPT OF LINES THAT LED TO A STAGE, OR TO NONE
abbrev pub Keeps : State → Option Stage → Type 0
Keeps state None = state ≡ kept.Refused
Keeps state (Some Beginning) = state ≡ kept.Start
Keeps state (Some (Listing g)) = KeepsIn state g
Keeps state (Some Over) = state ≡ kept.Done

-- the stage behind the line that a text is, behind those that led to a stage
abbrev pub stage_after : List ℕ → Option Stage → List ℕ → Option Stage
stage_after login s text = option_and_then (λ t. option_and_then (after t) (line_of login text)) s

-- it is in the midst
abbrev pub is_going : Option Stage → Bool
is_going None = false
is_going (Some Beginning) = true
is_going (Some (Listing g)) = true
is_going (Some Over) = false

-- WHAT IS SAID OF A LINE, by the stage behind it; where memory is wanting, each line behind it is refused
abbrev pub Says : Checked → Option Stage → State → Type 0
Says checked.Going s state = (is_going s ≡ true) × Keeps state s
Says checked.Accepted s state = (s ≡ Some Over) × Keeps state s
Says checked.Refused s state = (s ≡ None) × Keeps state s
Says checked.Memory s state = Keeps state None
