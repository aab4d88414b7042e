-- What holds of each body of a job holds of each body that a task reads, and of its assets.
use Rattle.std.proofs.Common.{ℕ, sym, subst, zero, suc, ◌+◌, ◌%◌, ◌==◌, Bool, true, false, cond, List, [], ◌∷◌, ◌++◌, map, take, drop}
use Rattle.std.specs.List.{AllByRecursion, enumerate_from, filter, slice_get, zip}
use Rattle.std.specs.Option.{unwrap_or}
use Rattle.mt_types.specs.declared.document.PhaseKind.{PhaseKind}
use Rattle.mt_types.specs.declared.document.PhaseKind.TheVariants.{Map, Reduce}
use Rattle.mt_types.specs.declared.job.Item.{Item}
use Rattle.mt_types.specs.declared.job.Job.{Job}
use Rattle.mt_types.specs.declared.job.Outcome.{Outcome}
use Rattle.mt_types.specs.declared.job.Outcome.TheVariants.{Good, Bad}
use Rattle.mt_types.specs.declared.job.TraceEntry.{TraceEntry}
use Rattle.mt_model.specs.Bodies.{OfItems, OfJob, OfOutcome}
use Rattle.mt_model.specs.Feed.{entries_of, feed, items_in, items_of}
use Rattle.mt_model.specs.Tasks.{items_read, reducer_of}
use Rattle.mt_model.proofs.Shares.{map_reads}

module _ {X : Type 0} (P : X → Type 0) where
  all_taken : (n : ℕ) (xs : List X) → AllByRecursion P xs → AllByRecursion P (take n xs)
  all_taken zero [] all = tt
  all_taken zero (x ∷ xs) all = tt
  all_taken (suc n) [] all = tt
  all_taken (suc n) (x ∷ xs) all = (all.0, all_taken n xs all.1)

  all_dropped : (n : ℕ) (xs : List X) → AllByRecursion P xs → AllByRecursion P (drop n xs)
  all_dropped zero [] all = tt
  all_dropped zero (x ∷ xs) all = all
  all_dropped (suc n) [] all = tt
  all_dropped (suc n) (x ∷ xs) all = all_dropped n xs all.1

  one_kept : (b : Bool) (x : X) (xs : List X) → P x → AllByRecursion P xs → AllByRecursion P (cond b (x ∷ xs) xs)
  one_kept true x xs here rest = (here, rest)
  one_kept false x xs here rest = rest

  all_kept : (t : X → Bool) (xs : List X) → AllByRecursion P xs → AllByRecursion P (filter t xs)
  all_kept t [] all = tt
  all_kept t (x ∷ xs) all = one_kept (t x) x (filter t xs) all.0 (all_kept t xs all.1)

  all_joined : (xs ys : List X) → AllByRecursion P xs → AllByRecursion P ys → AllByRecursion P (xs ++ ys)
  all_joined [] ys all more = more
  all_joined (x ∷ xs) ys all more = (all.0, all_joined xs ys all.1 more)

  all_numbered : (n : ℕ) (xs : List X) → AllByRecursion P xs → AllByRecursion (λ p. P p.1) (enumerate_from n xs)
  all_numbered n [] all = tt
  all_numbered n (x ∷ xs) all = (all.0, all_numbered (n + 1) xs all.1)

  all_second : (ps : List (ℕ × X)) → AllByRecursion (λ p. P p.1) ps → AllByRecursion P (map (λ p. p.1) ps)
  all_second [] all = tt
  all_second (p ∷ ps) all = (all.0, all_second ps all.1)

  pub all_at : (xss : List (List X)) (n : ℕ) → AllByRecursion (λ xs. AllByRecursion P xs) xss → AllByRecursion P (unwrap_or (slice_get xss n) [])
  all_at [] n all = tt
  all_at (xs ∷ xss) zero all = all.0
  all_at (xs ∷ xss) (suc n) all = all_at xss n all.1

  pub all_zipped : {K : Type 0} (ks : List K) (xs : List X) → AllByRecursion P xs → AllByRecursion (λ p. P p.1) (zip ks xs)
  all_zipped [] xs all = tt
  all_zipped (k ∷ ks) [] all = tt
  all_zipped (k ∷ ks) (x ∷ xs) all = (all.0, all_zipped ks xs all.1)

module _ {B : Type 0} (P : B → Type 0) where
  outcome_held : (o : Outcome B) → OfOutcome P o → OfItems P (items_of o)
  outcome_held (Good items) all = all
  outcome_held (Bad failure status stderr) all = tt

  entries_held : (es : List (TraceEntry B)) → AllByRecursion (λ e. OfOutcome P e.outcome) es → OfItems P (items_in es)
  entries_held [] all = tt
  entries_held (e ∷ es) all = all_joined (λ i. P i.body) (items_of e.outcome) (items_in es) (outcome_held e.outcome all.0) (entries_held es all.1)

  pub feed_held : (j : Job B) (phase : ℕ) → OfJob P j → OfItems P (feed j phase)
  feed_held j zero held = held.inputs
  feed_held j (suc phase) held = entries_held (entries_of phase j.trace) (all_kept (λ e. OfOutcome P e.outcome) (λ e. e.phase == phase) j.trace held.trace)

  pub read_held : (kind : PhaseKind) (items : List (Item B)) (place : ℕ) → OfItems P items → OfItems P (items_read kind items place)
  read_held Map items place all =
      subst (OfItems P) (sym (map_reads items place)) (all_taken (λ i. P i.body) 1 (drop place items) (all_dropped (λ i. P i.body) place items all))
  read_held (Reduce count) items place all =
      all_second (λ i. P i.body) (filter (λ p. reducer_of p % count == place) (enumerate_from 0 items))
      (all_kept (λ p. P p.1.body) (λ p. reducer_of p % count == place) (enumerate_from 0 items) (all_numbered (λ i. P i.body) 0 items all))
