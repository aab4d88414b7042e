-- A walk over tasks, to find one among them.
use Rattle.std.proofs.Common.{◌≡◌, ℕ, ◌+◌, ◌<◌, ◌≤◌, ◌==◌, Bool, true, false, not, cond, ◌&&◌, ◌||◌, is_some, List, [], ◌∷◌, length, get_or, drop, map, Option, Some, refl, sym, ap, ◌∙◌, eq-eqb, true≢false}
use Rattle.std.specs.List.{filter, find, list_any}
use Rattle.std.specs.Option.{option_map}
use Rattle.mt_types.specs.declared.job.Task.{Task}
use Rattle.mt_model.proofs.Maps.{find-map}
use Rattle.mt_sched.specs.Plan.{first_but, has_task, is_none_left, is_same_task, task_at}
use Rattle.mt_sched.proofs.Filters.{or_false}
use Rattle.mt_sched.proofs.Phases.{drop_all, drop_step}

pub same_on : (skip : List Task) (t : Task) (i : ℕ) (s : Task) → i < length skip → s ≡ get_or skip i s → is_same_task t s ≡ false
    → list_any (is_same_task t) (drop i skip) ≡ has_task skip t → list_any (is_same_task t) (drop (i + 1) skip) ≡ has_task skip t
same_on skip t i s less is same so_far =
    sym (ap (list_any (is_same_task t)) (drop_step skip i s less is) ∙ ap (λ b. b || list_any (is_same_task t) (drop (i + 1) skip)) same) ∙ so_far

pub same_found : (skip : List Task) (t : Task) (i : ℕ) (s : Task) → i < length skip → s ≡ get_or skip i s → is_same_task t s ≡ true
    → list_any (is_same_task t) (drop i skip) ≡ has_task skip t → true ≡ has_task skip t
same_found skip t i s less is same so_far =
    sym (ap (list_any (is_same_task t)) (drop_step skip i s less is) ∙ ap (λ b. b || list_any (is_same_task t) (drop (i + 1) skip)) same) ∙ so_far

pub same_none : (skip : List Task) (t : Task) (i : ℕ) → length skip ≤ i → list_any (is_same_task t) (drop i skip) ≡ has_task skip t → false ≡ has_task skip t
same_none skip t i past so_far = sym (ap (list_any (is_same_task t)) (drop_all skip i past)) ∙ so_far

-- the first of the tasks at these places is at the first of the places
pub first_at : (skip : List Task) (job phase : ℕ) (todo : List ℕ) → option_map (task_at job phase) (find (λ k. not (has_task skip (task_at job phase k))) todo) ≡ first_but skip (map (task_at job phase) todo)
first_at skip job phase todo = sym (find-map (task_at job phase) (λ t. not (has_task skip t)) todo)

-- beside one task no other is found where no other place is left
beside : (phase place k : ℕ) → has_task (task_at 0 phase place ∷ []) (task_at 0 phase k) ≡ (k == place)
beside phase place k = or_false ((phase == phase) && (k == place)) ∙ ap (λ b. b && (k == place)) (eq-eqb phase phase refl)

beside_is : (phase place : ℕ) (todo : List ℕ) → is_some (find (λ k. not (has_task (task_at 0 phase place ∷ []) (task_at 0 phase k))) todo) ≡ not (is_none_left (filter (λ k. not (k == place)) todo))
beside_is phase place [] = refl
beside_is phase place (k ∷ ks) =
    ap (λ b. is_some (cond (not b) (Some k) (find (λ k. not (has_task (task_at 0 phase place ∷ []) (task_at 0 phase k))) ks))) (beside phase place k)
    ∙ by (k == place) (beside_is phase place ks)
  where
    by : (b : Bool) → is_some (find (λ k. not (has_task (task_at 0 phase place ∷ []) (task_at 0 phase k))) ks) ≡ not (is_none_left (filter (λ k. not (k == place)) ks))
        → is_some (cond (not b) (Some k) (find (λ k. not (has_task (task_at 0 phase place ∷ []) (task_at 0 phase k))) ks)) ≡ not (is_none_left (cond (not b) (k ∷ filter (λ k. not (k == place)) ks) (filter (λ k. not (k == place)) ks)))
    by true more = more
    by false more = refl

pub none_beside : (phase place : ℕ) (todo : List ℕ) (found : Option ℕ) (none : Bool) → found ≡ find (λ k. not (has_task (task_at 0 phase place ∷ []) (task_at 0 phase k))) todo → is_some found ≡ not none
    → none ≡ is_none_left (filter (λ k. not (k == place)) todo)
none_beside phase place todo found none is e = by none (is_none_left (filter (λ k. not (k == place)) todo)) (sym e ∙ ap is_some is ∙ beside_is phase place todo)
  where
    by : (a b : Bool) → not a ≡ not b → a ≡ b
    by true true e = refl
    by true false e = absurd (true≢false (sym e))
    by false true e = absurd (true≢false e)
    by false false e = refl
