-- The invariant of all uploads stays, where one is added or changes.
use Rattle.std.proofs.Common.{◌≡◌, ℕ, ◌<◌, List, [], ◌∷◌, ◌++◌, set, get_or, sym, ap, subst, ◌∙◌, arith}
use Rattle.std.specs.List.Sorted.{IsStrictlySortedBy}
use Rattle.std.specs.Ordering.{nat_cmp}
use Rattle.std.proofs.Math.Seq.{map-set_same}
use Rattle.std.proofs.lemmas.List.Elements.{All-nil, All-push, All-set, All-weaker}
use Rattle.mt_path.specs.AccountPath.{AccountPath}
use Rattle.mt_types.specs.declared.upload.Upload.{Upload}
use Rattle.mt_model.specs.Lawful.{IsBelow, LawfulUpload, LawfulUploads}
use Rattle.mt_model.specs.Names.{number_at}
use Rattle.mt_model.specs.UploadSteps.{new_upload}
use Rattle.mt_model.proofs.LawfulNewJob.{all_numbers, sorted_nil, sorted_push}
use Rattle.mt_model.proofs.Maps.{map-append}
use Rattle.mt_upload.specs.UploadList.{IsUploads, indexes_of, numbers_of}

module _ {B : Type 0} where
  abbrev pub Rises : Upload B → Type 0
  Rises u = IsStrictlySortedBy nat_cmp (indexes_of u.parts)

  -- of none
  pub whole_none : IsUploads {B = B} []
  whole_none = record { rising = sorted_nil; parts = All-nil Rises }

  -- a new one has the greatest number
  pub whole_begun : (position n : ℕ) (uploads : List (Upload B)) (path : AccountPath) (content_type : List ℕ) (moment : ℕ) → n ≡ number_at position 0 → LawfulUploads position uploads → IsUploads uploads → IsUploads (uploads ++ new_upload n path content_type moment ∷ [])
  whole_begun position n uploads path content_type moment same law is =
      let u : Upload B = new_upload n path content_type moment in
      record {
        rising = subst (IsStrictlySortedBy nat_cmp) (sym (map-append (λ (x : Upload B). x.number) uploads (u ∷ [])))
            (sorted_push (numbers_of uploads) n is.rising (all_numbers (λ (x : Upload B). x.number) n uploads
            (All-weaker (LawfulUpload position) (λ x. x.number < n) (λ x l. let under : IsBelow position x.number = l.number.below in omega arith) uploads law.each)));
        parts = All-push Rises uploads u is.parts sorted_nil;
      }

  -- one is written at its place, with its number
  pub whole_written : (uploads : List (Upload B)) (k : ℕ) (old new : Upload B) → IsUploads uploads → old ≡ get_or uploads k old → new.number ≡ old.number → Rises new → IsUploads (set uploads k new)
  whole_written uploads k old new is at number rises = record {
    rising = subst (IsStrictlySortedBy nat_cmp) (sym (map-set_same (λ (x : Upload B). x.number) uploads k new old (number ∙ ap (λ (x : Upload B). x.number) at))) is.rising;
    parts = All-set Rises uploads k new rises is.parts;
  }
