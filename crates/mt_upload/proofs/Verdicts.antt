-- What the tests of commands on uploads answer, refusal by refusal.
use Rattle.std.proofs.Common.{◌≡◌, ℕ, ◌<◌, ◌≤◌, Bool, true, false, not, List, length, min, take, nat_lt, sum_by, Option, Some, None, Ok, refl, ap, ◌∙◌, arith, lt-ltb, le-ltb}
use Rattle.std.specs.List.{enumerate_from, list_all}
use Rattle.std.specs.List.Sorted.{IsStrictlySortedBy}
use Rattle.std.specs.Ordering.{nat_cmp}
use Rattle.mt_types.specs.declared.limits.TheConstants.{LARGEST_JOINED}
use Rattle.mt_types.specs.declared.refusal.Refusal.{Refusal}
use Rattle.mt_types.specs.declared.refusal.Refusal.TheVariants.{UploadPart, UploadTooLarge}
use Rattle.mt_types.specs.declared.upload.Upload.{Upload}
use Rattle.mt_model.specs.Rows.{Rows, first_refusal, put_refusal, refuse_if}
use Rattle.mt_model.specs.UploadSteps.{commit_upload_refusal, is_listed, listed}
use Rattle.mt_tree.specs.Answer.{answer}
use Rattle.mt_upload.specs.UploadList.{indexes_of}
use Rattle.mt_upload.proofs.Front.{listed_is_front}

-- where the first refusal is none, it is what comes later
pub later_stands : (first later : Option Refusal) (u : Unit {0}) → Ok u ≡ answer (first_refusal first None) → first_refusal first later ≡ later
later_stands None later u is = refl
later_stands (Some r) later u is = cc

module _ {B : Type 0} (size : B → ℕ) (rows : Rows B) (numbers : List ℕ) (u : Upload B) where
  -- how many bytes the parts have that stand for those that are listed
  abbrev front_size : ℕ
  front_size = sum_by (λ p. size p.body) (take (length numbers) u.parts)

  module _ (all : list_all (is_listed u.parts) (enumerate_from 0 numbers) ≡ true) (rising : IsStrictlySortedBy nat_cmp (indexes_of u.parts)) where
    by_front : (b : Bool) → nat_lt LARGEST_JOINED front_size ≡ b → commit_upload_refusal size rows numbers u ≡ first_refusal (refuse_if b UploadTooLarge) (put_refusal rows u.path)
    by_front b is =
        ap (λ t. first_refusal (refuse_if (not t) UploadPart) (first_refusal (refuse_if (nat_lt LARGEST_JOINED (sum_by (λ p. size p.body) (listed u.parts numbers))) UploadTooLarge) (put_refusal rows u.path))) all
        ∙ ap (λ ps. first_refusal (refuse_if (nat_lt LARGEST_JOINED (sum_by (λ p. size p.body) ps)) UploadTooLarge) (put_refusal rows u.path)) (listed_is_front u.parts numbers all rising)
        ∙ ap (λ t. first_refusal (refuse_if t UploadTooLarge) (put_refusal rows u.path)) is

    -- they have too many bytes
    pub parts_large : (n : ℕ) → n ≡ min 18446744073709551615 front_size → 1073741824 < n → commit_upload_refusal size rows numbers u ≡ Some UploadTooLarge
    parts_large n is more = by_front true (lt-ltb LARGEST_JOINED front_size (omega arith))

    -- they have not
    pub parts_fit : (n : ℕ) → n ≡ min 18446744073709551615 front_size → n ≤ 1073741824 → commit_upload_refusal size rows numbers u ≡ put_refusal rows u.path
    parts_fit n is few = by_front false (le-ltb LARGEST_JOINED front_size (omega arith))
