-- What the phases of a job mean over its inputs, in the order in which tasks were committed.
use Rattle.std.specs.Prelude.{◌≡◌, ℕ, ◌+◌, ◌==◌, nat_lt, List, [], ◌∷◌, cond, All, ⊤}
use Rattle.std.specs.List.{count_by}
use Rattle.mt_model.specs.Types.{Item, Phase, PhaseKind, TraceEntry}
use Rattle.mt_model.specs.Feed.{items_in}
use Rattle.mt_model.specs.Tasks.{task_count}

module _ {B : Type 0} where
  -- each task of a phase over a feed stands once among these, and no other does
  abbrev pub IsEachTaskOnce : PhaseKind → List (Item B) → List (TraceEntry B) → Type 0
  IsEachTaskOnce kind items entries = (k : ℕ) → count_by (λ e. e.place == k) entries ≡ cond (nat_lt k (task_count kind items)) 1 0

  -- the phases from this number on, over these items, with these entries of each, mean these outputs: each phase's
  -- outputs are the next one's feed, and each task counts once
  abbrev pub Means : (ℕ → Phase → List (Item B) → TraceEntry B → Type 0) → ℕ → List Phase → List (Item B) → List (List (TraceEntry B)) → List (Item B) → Type 0
  Means given n [] items [] outputs = items ≡ outputs
  Means given n [] items (entries ∷ more) outputs = ⊥
  Means given n (p ∷ ps) items [] outputs = ⊥
  Means given n (p ∷ ps) items (entries ∷ more) outputs =
      IsEachTaskOnce p.kind items entries × All (given n p items) entries × Means given (n + 1) ps (items_in entries) more outputs

  -- the meaning of the phases of a job, without what its children gave: what its outputs are made of
  abbrev pub PhasesMean : List Phase → List (Item B) → List (List (TraceEntry B)) → List (Item B) → Type 0
  PhasesMean phases inputs entries outputs = Means (λ n p items e. ⊤) 0 phases inputs entries outputs
