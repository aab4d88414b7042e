-- How many bytes a task reads, item by item.
use Rattle.std.proofs.Common.{◌≡◌, ℕ, zero, suc, ◌+◌, ◌<◌, List, [], ◌∷◌, length, take, Some, None, ap, ◌∙◌, arith}
use Rattle.std.specs.List.{slice_get, sum_by}
use Rattle.std.proofs.Math.Seq.{take-length}
use Rattle.std.proofs.lemmas.List.Sums.{sum_by_more}
use Rattle.std.proofs.lemmas.Option.{get_or_from_slice_get, slice_get_within}
use Rattle.mt_types.specs.declared.body.Body.{Body}
use Rattle.mt_types.specs.declared.job.Item.{Item}

-- the bytes of an item
abbrev pub bytes_of : Item Body → ℕ
bytes_of item = item.body.len

-- one item more
pub sum_on : (items : List (Item Body)) (k : ℕ) (item : Item Body) → slice_get items k ≡ Some item → sum_by bytes_of (take (k + 1) items) ≡ sum_by bytes_of (take k items) + bytes_of item
sum_on items k item is = sum_by_more bytes_of items k item (slice_get_within items k item is) ∙ ap (λ (i : Item Body). sum_by bytes_of (take k items) + bytes_of i) (get_or_from_slice_get items k item item is)

-- each place below the number of items has one
pub there : {X : Type 0} (xs : List X) (k : ℕ) → k < length xs → slice_get xs k ≡ None → ⊥
there [] k less none = absurd (omega (arith, less))
there (x ∷ xs) zero less none = cc
there (x ∷ xs) (suc k) less none = there xs k (omega (arith, less)) none

-- all of them
pub sum_all : (items : List (Item Body)) (k : ℕ) → k ≡ length items → sum_by bytes_of (take k items) ≡ sum_by bytes_of items
sum_all items k all = ap (λ n. sum_by bytes_of (take n items)) all ∙ ap (sum_by bytes_of) (take-length items)
