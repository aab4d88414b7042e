-- What is kept beside each job: where the outputs of its tasks stand, and the shares of its reducers.
use Rattle.std.specs.Prelude.{◌≡◌, ℕ, ◌==◌, ◌&&◌, Bool, cond, List, [], map, length, slice_get, Option, Some}
use Rattle.std.specs.List.{enumerate_from, filter, flat_map, range_with_len}
use Rattle.std.specs.Option.{option_and_then}
use Rattle.std.specs.declared.alloc.Global.{Global}
use Rattle.std.specs.declared.vec.Vec.{Vec}
use Rattle.mt_types.specs.declared.document.Phase.{Phase}
use Rattle.mt_types.specs.declared.document.PhaseKind.{PhaseKind}
use Rattle.mt_types.specs.declared.document.PhaseKind.TheVariants.{Map, Reduce}
use Rattle.mt_types.specs.declared.job.Item.{Item}
use Rattle.mt_types.specs.declared.job.Job.{Job}
use Rattle.mt_types.specs.declared.job.TraceEntry.{TraceEntry}
use Rattle.mt_model.specs.Feed.{feed, items_of}
use Rattle.mt_model.specs.Tasks.{is_running, may_begin, share_places}
use Rattle.mt_feeds.specs.declared.kept.At.{At}
use Rattle.mt_feeds.specs.declared.kept.FedJob.{FedJob}

-- where so many outputs of the entry at this place of a trace stand
abbrev pub places_at : ℕ → ℕ → List At
places_at entry count = map (λ i. record { entry = entry; item = i }) (range_with_len 0 count)

-- the lists of numbers that code holds
abbrev pub lists_of : Vec (Vec ℕ Global) Global → List (List ℕ)
lists_of v = map (λ w. w.items) v.items

module _ {B : Type 0} where
  -- ---- where outputs stand

  -- where the outputs of one entry stand
  abbrev pub outputs_at : ℕ × TraceEntry B → List At
  outputs_at e = places_at e.0 (length (items_of e.1.outcome))

  -- where the outputs of the tasks of a phase stand, in the order of their commits
  abbrev pub index_of : ℕ → List (TraceEntry B) → List At
  index_of phase trace = flat_map outputs_at (filter (λ e. e.1.phase == phase) (enumerate_from 0 trace))

  -- the item that stands there
  abbrev pub item_at : List (TraceEntry B) → At → Option (Item B)
  item_at trace a = option_and_then (λ e. slice_get (items_of e.outcome) a.item) (slice_get trace a.entry)

  -- ---- shares

  -- the places that a reducer reads
  abbrev pub share_numbers : List (Item B) → ℕ → ℕ → List ℕ
  share_numbers items count reducer = map (λ p. p.0) (share_places items count reducer)

  -- those that each reducer reads
  abbrev pub all_shares : List (Item B) → ℕ → List (List ℕ)
  all_shares items count = map (share_numbers items count) (range_with_len 0 count)

  -- of a reduce phase that has begun, all of them; else nothing
  abbrev pub shares_in : Bool → PhaseKind → List (Item B) → List (List ℕ)
  shares_in begun Map items = []
  shares_in begun (Reduce count) items = cond begun (all_shares items count) []

  -- what is kept of the shares of a phase while its job runs
  abbrev pub shares_of : Job B → ℕ → Phase → List (List ℕ)
  shares_of job phase p = shares_in (is_running job && may_begin job phase p.kind) p.kind (feed job phase)

  -- ---- one job

  -- the outputs of each phase are where they are noted
  pub record AreFeeds (job : Job B) (feeds : List (Vec At Global)) : Type 0 where
    pub each : length feeds ≡ length job.document.phases
    pub noted : (n : ℕ) (f : Vec At Global) → slice_get feeds n ≡ Some f → f.items ≡ index_of n job.trace

  -- the shares of each phase are those of its reducers
  pub record AreShares (job : Job B) (laid : List (List (List ℕ))) : Type 0 where
    pub each : length laid ≡ length job.document.phases
    pub right : (n : ℕ) (p : Phase) (lists : List (List ℕ)) → slice_get job.document.phases n ≡ Some p → slice_get laid n ≡ Some lists → lists ≡ shares_of job n p

  -- both
  pub record IsKept (k : FedJob B) : Type 0 where
    pub feeds : AreFeeds k.job k.feeds.items
    pub shares : AreShares k.job (map lists_of k.shares.items)
