-- Shares are laid out item by item.
use Rattle.std.proofs.Common.{◌≡◌, ℕ, ◌+◌, ◌<◌, List, [], ◌∷◌, ◌++◌, length, take, get_or, sym, ap, subst, ◌∙◌, arith, append_assoc, append-nil, length-append}
use Rattle.std.proofs.lemmas.List.{take_more}
use Rattle.mt_model.specs.Types.{Body, Item}
use Rattle.mt_feeds.specs.FedJob.{lists_of}
use Rattle.mt_feeds.specs.Opening.{with_place_read}
use Rattle.mt_feeds.proofs.Laid.{shares_push}
use Rattle.mt_cert.specs.Laying.{AreShared}
use Rattle.mt_cert.specs.declared.shares.Shares.{Shares}

-- one element more of a list, behind a front
pub take_on : {A : Type 0} (front xs : List A) (k : ℕ) (x : A) → k < length xs → x ≡ get_or xs k x → (front ++ take k xs) ++ x ∷ [] ≡ front ++ take (k + 1) xs
take_on front xs k x less is =
    append_assoc front (take k xs) (x ∷ []) ∙ ap (λ l. front ++ l) (ap (λ y. take k xs ++ y ∷ []) is ∙ sym (take_more xs k x less))

-- one item more
pub shared_more : (items : List (Item Body)) (item : Item Body) (reducers : ℕ) (old new : Shares) → 0 < reducers → AreShared items reducers old
    → lists_of new.lists ≡ with_place_read reducers old.count item (lists_of old.lists) → new.count ≡ old.count + 1 → AreShared (items ++ item ∷ []) reducers new
shared_more items item reducers old new some was is counted = record {
  lists = is ∙ (ap (λ n. with_place_read reducers n item (lists_of old.lists)) was.count ∙ (ap (with_place_read reducers (length items) item) was.lists ∙ sym (shares_push items item reducers some)));
  count = omega (arith, counted, was.count, length-append items (item ∷ []));
}

pub shared_as : (items more : List (Item Body)) (reducers : ℕ) (s : Shares) → items ≡ more → AreShared items reducers s → AreShared more reducers s
shared_as items more reducers s same are = subst (λ l. AreShared l reducers s) same are

pub shared_ends : (items more : List (Item Body)) (reducers : ℕ) (s : Shares) → items ++ [] ≡ more → AreShared items reducers s → AreShared more reducers s
shared_ends items more reducers s same are = shared_as items more reducers s (sym (append-nil items) ∙ same) are
