-- What the names of a task's outputs begin with, by the kind of its phase.
use Rattle.std.proofs.Common.{◌≡◌, ℕ, [], Option, Some, None, sym, ap, ◌∙◌}
use Rattle.std.specs.List.{slice_get}
use Rattle.std.specs.Option.{option_and_then, option_map, unwrap_or}
use Rattle.mt_types.specs.declared.document.Phase.{Phase}
use Rattle.mt_types.specs.declared.document.PhaseKind.TheVariants.{Map, Reduce}
use Rattle.mt_types.specs.declared.job.Item.{Item}
use Rattle.mt_types.specs.declared.job.Job.{Job}
use Rattle.mt_model.specs.Feed.{feed}
use Rattle.mt_model.specs.JobSteps.{task_root}
use Rattle.mt_model.specs.Names.{root_of_reducer}
use Rattle.mt_model.specs.Tasks.{root_at}
use Rattle.mt_feeds.specs.Reading.{item_of}

module _ {B : Type 0} (job : Job B) (phase place : ℕ) where
  -- without the phase nothing
  pub no_phase : slice_get job.document.phases phase ≡ None → [] ≡ task_root job phase place
  no_phase past = sym (ap (λ o. unwrap_or (option_map (λ p. root_at p.kind (feed job phase) place) o) []) past)

  module _ (p : Phase) (here : slice_get job.document.phases phase ≡ Some p) where
    of_phase : task_root job phase place ≡ root_at p.kind (feed job phase) place
    of_phase = ap (λ o. unwrap_or (option_map (λ q. root_at q.kind (feed job phase) place) o) []) here

    of_item : (o : Option (Item B)) → p.kind ≡ Map → o ≡ item_of phase place job → unwrap_or (option_map (λ i. i.root) o) [] ≡ task_root job phase place
    of_item o kind is =
        ap (λ x. unwrap_or (option_map (λ i. i.root) x) []) (is ∙ ap (option_and_then (λ q. slice_get (feed job phase) place)) here)
        ∙ sym (of_phase ∙ ap (λ k. root_at k (feed job phase) place) kind)

    -- a map task has the root of its item
    pub root_of_item : (item : Item B) → p.kind ≡ Map → Some item ≡ item_of phase place job → item.root ≡ task_root job phase place
    root_of_item item kind is = of_item (Some item) kind is

    -- without an item nothing
    pub no_item : p.kind ≡ Map → None ≡ item_of phase place job → [] ≡ task_root job phase place
    no_item kind is = of_item None kind is

    -- a reducer has a name of its own
    pub root_of_reduce : (count : ℕ) → p.kind ≡ Reduce count → root_of_reducer ≡ task_root job phase place
    root_of_reduce count kind = sym (of_phase ∙ ap (λ k. root_at k (feed job phase) place) kind)
