-- What reducers gave, over other bodies.
use Rattle.std.proofs.Common.{◌≡◌, ℕ, true, false, cond, List, [], ◌∷◌, map, Some, refl}
use Rattle.std.specs.Prelude.{IfSome, option_map}
use Rattle.std.specs.List.{AllByRecursion, find}
use Rattle.mt_model.specs.Bodies.{OfOutcome}
use Rattle.mt_types.specs.Values.{item_with, outcome_with, trace_entry_with}
use Rattle.mt_types.specs.declared.job.Item.{Item}
use Rattle.mt_types.specs.declared.job.Outcome.{Outcome}
use Rattle.mt_types.specs.declared.job.Outcome.TheVariants.{Bad, Good}
use Rattle.mt_types.specs.declared.job.TraceEntry.{TraceEntry}
use Rattle.mt_drill.specs.DrillLine.{body_of_entry, first_body, first_in, given_by, is_of_reducer}

module _ {A B : Type 0} (f : A → B) where
  first_in-with : (items : List (Item A)) → first_in (map (item_with f) items) ≡ option_map f (first_in items)
  first_in-with [] = refl
  first_in-with (i ∷ is) = refl

  first_body-with : (o : Outcome A) → first_body (outcome_with f o) ≡ option_map f (first_body o)
  first_body-with (Good items) = first_in-with items
  first_body-with (Bad failure status stderr) = refl

  -- what a reducer gave, over other bodies
  pub given_by-with : (r : ℕ) (trace : List (TraceEntry A)) → given_by r (map (trace_entry_with f) trace) ≡ option_map f (given_by r trace)
  given_by-with r [] = refl
  given_by-with r (e ∷ es) =
      elim (is_of_reducer r e) as (λ b. body_of_entry (cond b (Some (trace_entry_with f e)) (find (is_of_reducer r) (map (trace_entry_with f) es))) ≡ option_map f (body_of_entry (cond b (Some e) (find (is_of_reducer r) es)))) [
        | true ↦ first_body-with e.outcome
        | false ↦ given_by-with r es
      ]

module _ {A : Type 0} (P : A → Type 0) where
  first_of : (o : Outcome A) → OfOutcome P o → IfSome (first_body o) P
  first_of (Good []) all = tt
  first_of (Good (i ∷ is)) all = all.0
  first_of (Bad failure status stderr) all = tt

  -- what holds of each body of a trace holds of what a reducer gave
  pub given_of : (r : ℕ) (trace : List (TraceEntry A)) → AllByRecursion (λ e. OfOutcome P e.outcome) trace → IfSome (given_by r trace) P
  given_of r [] all = tt
  given_of r (e ∷ es) all = elim (is_of_reducer r e) as (λ b. IfSome (body_of_entry (cond b (Some e) (find (is_of_reducer r) es))) P) [
    | true ↦ first_of e.outcome all.0
    | false ↦ given_of r es all.1
  ]
