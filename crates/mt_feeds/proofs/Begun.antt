-- What is kept of a job of which no task is committed.
use Rattle.std.proofs.Common.{◌≡◌, ℕ, false, List, [], length, map, replicate, Option, Some, None, refl, sym, ap, ◌∙◌, zero, suc}
use Rattle.std.specs.List.{slice_get}
use Rattle.std.specs.Option.{option_map, unwrap_or}
use Rattle.std.specs.declared.alloc.Global.{Global}
use Rattle.std.specs.declared.vec.Vec.{Vec}
use Rattle.std.proofs.lemmas.List.{length-replicate}
use Rattle.mt_types.specs.declared.job.Job.{Job}
use Rattle.mt_model.proofs.Maps.{length-map, slice_get-map}
use Rattle.mt_feeds.specs.declared.kept.At.{At}
use Rattle.mt_feeds.specs.FedJob.{AreFeeds, IsKept, index_of, lists_of}
use Rattle.mt_feeds.proofs.Opened.{none_before}

same_from_replicate : {X : Type 0} (n i : ℕ) (x y : X) → slice_get (replicate n x) i ≡ Some y → y ≡ x
same_from_replicate zero i x y at = cc
same_from_replicate (suc n) zero x y at = ap (λ o. unwrap_or o y) (sym at)
same_from_replicate (suc n) (suc i) x y at = same_from_replicate n i x y at

-- lists that are all empty
module _ {X : Type 0} (lists : List (Vec X Global)) (n : ℕ) (empty : map (λ w. w.items) lists ≡ replicate n []) where
  pub as_many : length lists ≡ n
  as_many = sym (length-map (λ (w : Vec X Global). w.items) lists) ∙ ap length empty ∙ length-replicate n []

  pub each_empty : (i : ℕ) (w : Vec X Global) → slice_get lists i ≡ Some w → w.items ≡ []
  each_empty i w at =
      same_from_replicate n i [] w.items
      (ap (λ l. slice_get l i) (sym empty) ∙ slice_get-map (λ (w : Vec X Global). w.items) lists i ∙ ap (option_map (λ (w : Vec X Global). w.items)) at)

-- nothing is noted of a trace that has not begun
pub feeds_first : {B : Type 0} (job : Job B) (feeds : List (Vec At Global)) → map (λ w. w.items) feeds ≡ replicate (length job.document.phases) [] → AreFeeds (record job { trace = [] }) feeds
feeds_first job feeds empty = record { each = as_many feeds (length job.document.phases) empty; noted = each_empty feeds (length job.document.phases) empty }

module _ {B : Type 0} (job : Job B) (feeds : Vec (Vec At Global) Global) (shares : Vec (Vec (Vec ℕ Global) Global) Global) (trace : job.trace ≡ []) (so_far : job.ended ≡ false)
    (no_feeds : map (λ w. w.items) feeds.items ≡ replicate (length job.document.phases) []) (no_shares : map (λ w. w.items) shares.items ≡ replicate (length job.document.phases) []) where
  lists_case : (i : ℕ) (o : Option (Vec (Vec ℕ Global) Global)) → slice_get shares.items i ≡ o → (lists : List (List ℕ)) → option_map lists_of o ≡ Some lists → lists ≡ []
  lists_case i None at lists is = cc
  lists_case i (Some w) at lists is =
      ap (λ o. unwrap_or o lists) (sym is) ∙ ap (map (λ (v : Vec ℕ Global). v.items)) (each_empty shares.items (length job.document.phases) no_shares i w at)

  pub kept_of : IsKept (record { job = job; feeds = feeds; shares = shares })
  kept_of = record {
    feeds = record {
      each = as_many feeds.items (length job.document.phases) no_feeds;
      noted = λ n f at. each_empty feeds.items (length job.document.phases) no_feeds n f at ∙ sym (ap (index_of n) trace);
    };
    shares = record {
      each = length-map lists_of shares.items ∙ as_many shares.items (length job.document.phases) no_shares;
      right = λ n p lists at found. lists_case n (slice_get shares.items n) refl lists (sym (slice_get-map lists_of shares.items n) ∙ found) ∙ sym (none_before job n p so_far);
    };
  }
