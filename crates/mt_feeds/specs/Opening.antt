-- How shares are laid out.
use Rattle.std.specs.Prelude.{◌≡◌, ◌⊎◌, ℕ, ◌%◌, ◌&&◌, Bool, true, false, List, [], ◌∷◌, ◌++◌, length, set, slice_get, slice_index_or, Option, Some, None, if◌then◌else◌}
use Rattle.std.specs.Option.{option_and_then}
use Rattle.mt_types.specs.declared.document.Phase.{Phase}
use Rattle.mt_types.specs.declared.document.PhaseKind.{PhaseKind}
use Rattle.mt_types.specs.declared.document.PhaseKind.TheVariants.{Map, Reduce}
use Rattle.mt_types.specs.declared.job.Item.{Item}
use Rattle.mt_types.specs.declared.job.Job.{Job}
use Rattle.mt_model.specs.Feed.{feed}
use Rattle.mt_model.specs.Tasks.{reducer_of}
use Rattle.mt_sched.specs.Plan.{Plan, is_task_in}
use Rattle.mt_feeds.specs.FedJob.{all_shares, shares_of}

-- no list
abbrev pub is_none_laid : List (List ℕ) → Bool
is_none_laid [] = true
is_none_laid (l ∷ ls) = false

-- the number of reducers, where the phase has begun and nothing is laid out
abbrev pub wanted_in : PhaseKind → Bool → List (List ℕ) → Option ℕ
wanted_in Map begun laid = None
wanted_in (Reduce count) begun laid = if is_none_laid laid && begun then Some count else None

-- that of a phase, by the plan of its job and by what is laid out
abbrev pub wanted_of : Plan → List Phase → List (List (List ℕ)) → ℕ → Option ℕ
wanted_of plan phases laid phase =
    option_and_then (λ p. wanted_in p.kind (is_task_in plan phase 0) (slice_index_or laid phase [])) (slice_get phases phase)

module _ {B : Type 0} where
  -- with one place more in the list of its reducer
  abbrev pub with_place_read : ℕ → ℕ → Item B → List (List ℕ) → List (List ℕ)
  with_place_read count place item lists =
      let reducer : ℕ = reducer_of (place, item) % count in
      set lists reducer (slice_index_or lists reducer [] ++ place ∷ [])

  -- with the shares of so many reducers of a phase
  abbrev pub opened_by : Option ℕ → Job B → List (List (List ℕ)) → ℕ → List (List (List ℕ))
  opened_by None job laid phase = laid
  opened_by (Some count) job laid phase = set laid phase (all_shares (feed job phase) count)

  -- with those of a phase that has begun
  abbrev pub opened_at : Plan → Job B → List (List (List ℕ)) → ℕ → List (List (List ℕ))
  opened_at plan job laid phase = opened_by (wanted_of plan job.document.phases laid phase) job laid phase

  -- what is laid out is right, and something may be missing
  pub record WereShares (job : Job B) (laid : List (List (List ℕ))) : Type 0 where
    pub each : length laid ≡ length job.document.phases
    pub right : (n : ℕ) (p : Phase) (lists : List (List ℕ)) → slice_get job.document.phases n ≡ Some p → slice_get laid n ≡ Some lists → (lists ≡ []) ⊎ (lists ≡ shares_of job n p)
