-- Uploads that take a part stay lawful, and so does the account where one is committed.
use Rattle.std.proofs.Common.{◌≡◌, ℕ, ◌+◌, ◌==◌, Bool, true, false, cond, List, [], ◌∷◌, map, Some, refl, sym, ap, subst, ◌∙◌}
use Rattle.std.specs.Prelude.{All}
use Rattle.std.specs.List.{AllByRecursion}
use Rattle.std.specs.List.Sorted.{IsStrictlySortedBy}
use Rattle.std.specs.Option.{unwrap_or}
use Rattle.std.specs.Ordering.{match_ordering, nat_cmp, ordering_reverse}
use Rattle.std.specs.declared.cmp.Ordering.TheVariants.{Less, Equal, Greater}
use Rattle.std.proofs.lemmas.Bool.{leb-true}
use Rattle.std.proofs.lemmas.Cmp.{nat_cmp_total}
use Rattle.std.proofs.lemmas.List.Elements.{All-nil, All-cons, All-head, All-tail}
use Rattle.mt_types.specs.Limits.{is_index}
use Rattle.mt_types.specs.declared.upload.PartRow.{PartRow}
use Rattle.mt_types.specs.declared.upload.Upload.{Upload}
use Rattle.mt_model.specs.Lawful.{IsBelow, LawfulPart, LawfulUpload, LawfulUploads}
use Rattle.mt_model.specs.State.{upload_at, with_upload}
use Rattle.mt_model.specs.UploadSteps.{with_part}
use Rattle.mt_model.proofs.Entries.{all_above}
use Rattle.mt_model.proofs.Maps.{map-map, same_function}

-- what is above a number is above one that compares as it does
all_like : (a b : ℕ) → nat_cmp a b ≡ Equal → (ks : List ℕ) → AllByRecursion (λ y. nat_cmp b y ≡ Less) ks → AllByRecursion (λ y. nat_cmp a y ≡ Less) ks
all_like a b same [] all = tt
all_like a b same (k ∷ ks) all = (nat_cmp_total.congr a b k same ∙ all.0, all_like a b same ks all.1)

module _ {B : Type 0} where
  above_part : (x : ℕ) (part : PartRow B) (ps : List (PartRow B)) → AllByRecursion (λ y. nat_cmp x y ≡ Less) (map (λ p. p.index) ps) → nat_cmp x part.index ≡ Less → AllByRecursion (λ y. nat_cmp x y ≡ Less) (map (λ p. p.index) (with_part part ps))
  above_part x part [] all is = (is, tt)
  above_part x part (p ∷ ps) all is = elim (nat_cmp part.index p.index) as (λ r. AllByRecursion (λ y. nat_cmp x y ≡ Less) (map (λ q. q.index) (match_ordering r (part ∷ p ∷ ps) (part ∷ ps) (p ∷ with_part part ps)))) [
    | Less ↦ (is, all)
    | Equal ↦ (is, all.1)
    | Greater ↦ (all.0, above_part x part ps all.1 is)
  ]

  rising_part : (part : PartRow B) (ps : List (PartRow B)) → IsStrictlySortedBy nat_cmp (map (λ p. p.index) ps) → IsStrictlySortedBy nat_cmp (map (λ p. p.index) (with_part part ps))
  unfolding IsStrictlySortedBy
  rising_part part [] s = (tt, tt)
  rising_part part (p ∷ ps) s = elim (nat_cmp part.index p.index) as (λ r. nat_cmp part.index p.index ≡ r → IsStrictlySortedBy nat_cmp (map (λ q. q.index) (match_ordering r (part ∷ p ∷ ps) (part ∷ ps) (p ∷ with_part part ps)))) [
    | Less ↦ λ h. ((h, all_above nat_cmp_total part.index p.index (map (λ q. q.index) ps) h s.0), s)
    | Equal ↦ λ h. (all_like part.index p.index h (map (λ q. q.index) ps) s.0, s.1)
    | Greater ↦ λ h. (above_part p.index part ps s.0 (nat_cmp_total.antisymm p.index part.index ∙ ap ordering_reverse h), rising_part part ps s.1)
  ] refl

  all_part : (n : ℕ) (part : PartRow B) (ps : List (PartRow B)) → LawfulPart n part → All (LawfulPart n) ps → All (LawfulPart n) (with_part part ps)
  all_part n part [] is all = All-cons (LawfulPart n) part [] is (All-nil (LawfulPart n))
  all_part n part (p ∷ ps) is all = elim (nat_cmp part.index p.index) as (λ r. All (LawfulPart n) (match_ordering r (part ∷ p ∷ ps) (part ∷ ps) (p ∷ with_part part ps))) [
    | Less ↦ All-cons (LawfulPart n) part (p ∷ ps) is all
    | Equal ↦ All-cons (LawfulPart n) part ps is (All-tail (LawfulPart n) p ps all)
    | Greater ↦ All-cons (LawfulPart n) p (with_part part ps) (All-head (LawfulPart n) p ps all) (all_part n part ps is (All-tail (LawfulPart n) p ps all))
  ]

  -- the upload of a number, with a part
  abbrev taking : ℕ → PartRow B → Upload B → Upload B
  taking number part u = cond (u.number == number) (record u { parts = with_part part u.parts }) u

  part_case : (n : ℕ) (part : PartRow B) → LawfulPart n part → (b : Bool) (u : Upload B) → LawfulUpload n u → LawfulUpload n (cond b (record u { parts = with_part part u.parts }) u)
  part_case n part is true u law = record { number = law.number; path = law.path; place = law.place; rising = rising_part part u.parts law.rising; parts = all_part n part u.parts is law.parts }
  part_case n part is false u law = law

  number_case : (part : PartRow B) (b : Bool) (u : Upload B) → (cond b (record u { parts = with_part part u.parts }) u).number ≡ u.number
  number_case part true u = refl
  number_case part false u = refl

  all_taking : (n number : ℕ) (part : PartRow B) → LawfulPart n part → (us : List (Upload B)) → All (LawfulUpload n) us → All (LawfulUpload n) (map (taking number part) us)
  all_taking n number part is [] a = All-nil (LawfulUpload n)
  all_taking n number part is (u ∷ us) a =
      All-cons (LawfulUpload n) (taking number part u) (map (taking number part) us)
      (part_case n part is (u.number == number) u (All-head (LawfulUpload n) u us a)) (all_taking n number part is us (All-tail (LawfulUpload n) u us a))

  pub LawfulUploads-part : (n number : ℕ) (part : PartRow B) → LawfulPart n part → (us : List (Upload B)) → LawfulUploads n us → LawfulUploads n (with_upload us number (λ u. record u { parts = with_part part u.parts }))
  LawfulUploads-part n number part is us law = record {
    rising = subst (IsStrictlySortedBy nat_cmp)
        (sym (map-map (λ (u : Upload B). u.number) (taking number part) us
        ∙ ap (λ h. map h us) (same_function (λ (u : Upload B). (taking number part u).number) (λ u. u.number) (λ u. number_case part (u.number == number) u))))
        law.rising;
    each = all_taking n number part is us law.each;
  }

  pub new_part : (count index : ℕ) (body : B) (number : ℕ) → IsBelow (count + 1) number → is_index index ≡ true → LawfulPart (count + 1) (record { index = index; number = number; body = body })
  new_part count index body number below is = record { index = leb-true index _ is; number = below }

  -- the upload that is found is lawful
  pub upload_found : (P : Upload B → Type 0) (number : ℕ) (us : List (Upload B)) (u : Upload B) → All P us → upload_at us number ≡ Some u → P u
  upload_found P number [] u a at = cc
  upload_found P number (x ∷ us) u a at = by (x.number == number) at (upload_found P number us u (All-tail P x us a))
    where
      by : (b : Bool) → cond b (Some x) (upload_at us number) ≡ Some u → (upload_at us number ≡ Some u → P u) → P u
      by true is more = subst P (ap (λ o. unwrap_or o x) is) (All-head P x us a)
      by false is more = more is
