-- A part that is put among the parts of an upload, by its index.
use Rattle.std.proofs.Common.{◌≡◌, ℕ, ◌<◌, List, [], ◌∷◌, set, insert, refl, sym, ap, ◌∙◌, arith, zero, suc}
use Rattle.std.specs.Cmp.{nat_cmp_is}
use Rattle.std.specs.Ordering.{match_ordering}
use Rattle.std.specs.declared.cmp.Ordering.TheVariants.{Less, Equal, Greater}
use Rattle.std.proofs.Math.Seq.{map-set_same}
use Rattle.mt_types.specs.declared.upload.PartRow.{PartRow}
use Rattle.mt_model.specs.UploadSteps.{with_part}
use Rattle.mt_upload.specs.UploadList.{IsGapFor, IsPlaceOf, indexes_of}
use Rattle.mt_upload.proofs.Places.{gap_in_rest, place_in_rest}

-- the index of a part
abbrev pub index_of : {B : Type 0} → PartRow B → ℕ
index_of p = p.index

module _ {B : Type 0} (part : PartRow B) where
  behind : (p : PartRow B) (ps : List (PartRow B)) → p.index < part.index → with_part part (p ∷ ps) ≡ p ∷ with_part part ps
  behind p ps less = ap (λ o. match_ordering o (part ∷ p ∷ ps) (part ∷ ps) (p ∷ with_part part ps)) (sym (nat_cmp_is part.index p.index Greater less))

  -- in the place of the one of its index
  pub part_set : (ps : List (PartRow B)) (i : ℕ) → IsPlaceOf index_of ps part.index i → set ps i part ≡ with_part part ps
  part_set [] i is = absurd (omega (arith, is.within))
  part_set (p ∷ ps) zero is = ap (λ o. match_ordering o (part ∷ p ∷ ps) (part ∷ ps) (p ∷ with_part part ps)) (nat_cmp_is part.index p.index Equal (sym (is.here p)))
  part_set (p ∷ ps) (suc i) is = ap (λ l. p ∷ l) (part_set ps i (place_in_rest index_of p ps part.index i is)) ∙ sym (behind p ps (is.below 0 p (omega arith)))

  -- in the gap for its index
  pub part_insert : (ps : List (PartRow B)) (i : ℕ) → IsGapFor index_of ps part.index i → insert ps i part ≡ with_part part ps
  part_insert [] zero is = refl
  part_insert [] (suc i) is = absurd (omega (arith, is.within))
  part_insert (p ∷ ps) zero is = ap (λ o. match_ordering o (part ∷ p ∷ ps) (part ∷ ps) (p ∷ with_part part ps)) (nat_cmp_is part.index p.index Less (is.above 0 p (omega arith) (omega arith)))
  part_insert (p ∷ ps) (suc i) is = ap (λ l. p ∷ l) (part_insert ps i (gap_in_rest index_of p ps part.index i is)) ∙ sym (behind p ps (is.below 0 p (omega arith)))

  -- the indexes stay, where one of them has its place
  pub indexes_set : (ps : List (PartRow B)) (i : ℕ) → IsPlaceOf index_of ps part.index i → indexes_of (set ps i part) ≡ indexes_of ps
  indexes_set ps i is = map-set_same index_of ps i part part (sym (is.here part))
