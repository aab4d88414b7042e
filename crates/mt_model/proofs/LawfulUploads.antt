-- Uploads that are begun or given up stay lawful.
use Rattle.std.proofs.Common.{◌≡◌, ℕ, ◌+◌, ◌==◌, ◌<◌, ◌≤◌, Bool, true, false, cond, List, [], ◌∷◌, ◌++◌, map, None, refl, sym, ap, subst, ◌∙◌, arith}
use Rattle.std.specs.Prelude.{All}
use Rattle.std.specs.List.Sorted.{IsStrictlySortedBy}
use Rattle.std.specs.Ordering.{nat_cmp}
use Rattle.std.proofs.lemmas.List.Elements.{All-nil, All-cons, All-head, All-tail, All-push, All-weaker}
use Rattle.mt_path.specs.AccountPath.{AccountPath, IsPath}
use Rattle.mt_types.specs.declared.upload.Stage.{Stage}
use Rattle.mt_types.specs.declared.upload.Upload.{Upload}
use Rattle.mt_model.specs.Lawful.{IsBelow, LawfulPart, LawfulUpload, LawfulUploads}
use Rattle.mt_model.specs.Names.{number_at}
use Rattle.mt_model.specs.State.{with_upload}
use Rattle.mt_model.specs.UploadSteps.{ended_as, new_upload, new_upload_refusal}
use Rattle.mt_model.proofs.LawfulNewJob.{all_numbers, sorted_nil, sorted_push}
use Rattle.mt_model.proofs.LawfulRows.{IsBelow-later}
use Rattle.mt_model.proofs.Maps.{map-append, map-map, same_function}
use Rattle.mt_model.proofs.RowLaws.{not_refused}

module _ {B : Type 0} where
  part_later : (m n : ℕ) → m ≤ n → (u : Upload B) → LawfulUpload m u → LawfulUpload n u
  part_later m n later u law = record {
    number = record { first = law.number.first; below = IsBelow-later m n u.number later law.number.below };
    path = law.path;
    place = law.place;
    rising = law.rising;
    parts = All-weaker (LawfulPart m) (LawfulPart n) (λ p l. record { index = l.index; number = IsBelow-later m n p.number later l.number }) u.parts law.parts;
  }

  pub LawfulUploads-later : (m n : ℕ) → m ≤ n → (us : List (Upload B)) → LawfulUploads m us → LawfulUploads n us
  LawfulUploads-later m n later us law = record {
    rising = law.rising;
    each = All-weaker (LawfulUpload m) (LawfulUpload n) (part_later m n later) us law.each;
  }

  new_good : (count : ℕ) (p : AccountPath) (t : List ℕ) (moment : ℕ) → IsPath p → new_upload_refusal p ≡ None → LawfulUpload (count + 1) (new_upload {B = B} (number_at count 0) p t moment)
  new_good count p t moment path e = record {
    number = record { first = omega arith; below = omega arith };
    path = path;
    place = not_refused _ _ e;
    rising = sorted_nil;
    parts = All-nil (LawfulPart (count + 1));
  }

  pub LawfulUploads-new : (count : ℕ) (us : List (Upload B)) (p : AccountPath) (t : List ℕ) (moment : ℕ) → IsPath p → new_upload_refusal p ≡ None → LawfulUploads count us → LawfulUploads (count + 1) (us ++ new_upload (number_at count 0) p t moment ∷ [])
  LawfulUploads-new count us p t moment path e law =
      let n : ℕ = number_at count 0 in
      let u : Upload B = new_upload n p t moment in
      record {
        rising = subst (IsStrictlySortedBy nat_cmp) (sym (map-append (λ (x : Upload B). x.number) us (u ∷ [])))
            (sorted_push (map (λ (x : Upload B). x.number) us) n law.rising (all_numbers (λ (x : Upload B). x.number) n us
            (All-weaker (LawfulUpload count) (λ x. x.number < n) (λ x l. let under : IsBelow count x.number = l.number.below in omega arith) us law.each)));
        each = All-push (LawfulUpload (count + 1)) us u (All-weaker (LawfulUpload count) (LawfulUpload (count + 1)) (part_later count (count + 1) (omega arith)) us law.each) (new_good count p t moment path e);
      }

  -- ---- an upload that is no longer open

  ended_case : (n : ℕ) (stage : Stage) (b : Bool) (u : Upload B) → LawfulUpload n u → LawfulUpload n (cond b (ended_as stage u) u)
  ended_case n stage true u law = record { number = law.number; path = law.path; place = law.place; rising = sorted_nil; parts = All-nil (LawfulPart n) }
  ended_case n stage false u law = law

  number_case : (stage : Stage) (b : Bool) (u : Upload B) → (cond b (ended_as stage u) u).number ≡ u.number
  number_case stage true u = refl
  number_case stage false u = refl

  all_ended : (n number : ℕ) (stage : Stage) (us : List (Upload B)) → All (LawfulUpload n) us → All (LawfulUpload n) (with_upload us number (ended_as stage))
  all_ended n number stage [] a = All-nil (LawfulUpload n)
  all_ended n number stage (u ∷ us) a =
      All-cons (LawfulUpload n) (cond (u.number == number) (ended_as stage u) u) (with_upload us number (ended_as stage))
      (ended_case n stage (u.number == number) u (All-head (LawfulUpload n) u us a)) (all_ended n number stage us (All-tail (LawfulUpload n) u us a))

  pub LawfulUploads-ended : (n number : ℕ) (stage : Stage) (us : List (Upload B)) → LawfulUploads n us → LawfulUploads n (with_upload us number (ended_as stage))
  LawfulUploads-ended n number stage us law = record {
    rising = subst (IsStrictlySortedBy nat_cmp)
        (sym (map-map (λ (u : Upload B). u.number) (λ u. cond (u.number == number) (ended_as stage u) u) us
        ∙ ap (λ h. map h us) (same_function (λ (u : Upload B). (cond (u.number == number) (ended_as stage u) u).number) (λ u. u.number) (λ u. number_case stage (u.number == number) u))))
        law.rising;
    each = all_ended n number stage us law.each;
  }
