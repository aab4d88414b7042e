-- What each command on uploads makes of a state, part by part.
use Rattle.std.proofs.Common.{◌≡◌, ℕ, ◌==◌, Bool, true, false, cond, List, [], ◌∷◌, ◌++◌, Option, Some, None, refl, sym, ap, ◌∙◌, eqb-true}
use Rattle.std.specs.Option.{unwrap_or}
use Rattle.mt_path.specs.AccountPath.{AccountPath}
use Rattle.mt_types.specs.declared.command.Command.TheVariants.{AbortUpload, CommitUpload, NewUpload, PutPart}
use Rattle.mt_types.specs.declared.object.Entry.TheVariants as entry
use Rattle.mt_types.specs.declared.upload.Stage.TheVariants.{Aborted, Committed}
use Rattle.mt_types.specs.declared.upload.Upload.{Upload}
use Rattle.mt_model.specs.CommandStep.{change}
use Rattle.mt_model.specs.Names.{number_at}
use Rattle.mt_model.specs.Rows.{Rows, first_refusal, put_refusal, with_row}
use Rattle.mt_model.specs.State.{upload_at, with_upload}
use Rattle.mt_model.specs.UploadSteps.{commit_upload, commit_upload_refusal, ended_as, new_upload, upload_object, upload_refusal, with_part}
use Rattle.mt_model.proofs.RowLaws.{neither}
use Rattle.mt_upload.specs.Shown.{state_of}

module _ {B : Type 0} where
  -- the upload that is found has the number
  found_number : (number : ℕ) (uploads : List (Upload B)) (u : Upload B) → upload_at uploads number ≡ Some u → u.number ≡ number
  found_number number [] u at = cc
  found_number number (x ∷ xs) u at = by (x.number == number) refl at (found_number number xs u)
    where
      by : (b : Bool) → (x.number == number) ≡ b → cond b (Some x) (upload_at xs number) ≡ Some u → (upload_at xs number ≡ Some u → u.number ≡ number) → u.number ≡ number
      by true is at more = ap (λ (o : Option (Upload B)). (unwrap_or o x).number) (sym at) ∙ eqb-true x.number number is
      by false is at more = more at

  -- where all of the test of a commit is, that of its path is
  pub path_test : (size : B → ℕ) (rows : Rows B) (numbers : List ℕ) (o : Option (Upload B)) → upload_refusal o (commit_upload_refusal size rows numbers) ≡ None → upload_refusal o (λ u. put_refusal rows u.path) ≡ None
  path_test size rows numbers None allowed = cc
  path_test size rows numbers (Some u) allowed =
      let open_too = neither _ _ allowed in
      ap (λ r. first_refusal r (put_refusal rows u.path)) open_too.0 ∙ (neither _ _ (neither _ _ open_too.1).1).1

  module _ (position : ℕ) where
    pub begin_is : (rows : Rows B) (uploads later : List (Upload B)) (path : AccountPath) (content_type : List ℕ) (moment : ℕ) → later ≡ uploads ++ new_upload (number_at position 0) path content_type moment ∷ []
        → state_of position rows later ≡ change (state_of position rows uploads) (NewUpload path content_type moment)
    unfolding change
    begin_is rows uploads later path content_type moment is = ap (state_of position rows) is

    pub part_is : (rows : Rows B) (uploads later : List (Upload B)) (upload index : ℕ) (body : B) (moment : ℕ) → later ≡ with_upload uploads upload (λ u. record u { parts = with_part (record { index = index; number = number_at position 0; body = body }) u.parts })
        → state_of position rows later ≡ change (state_of position rows uploads) (PutPart upload index body moment)
    unfolding change
    part_is rows uploads later upload index body moment is = ap (state_of position rows) is

    pub abort_is : (rows : Rows B) (uploads later : List (Upload B)) (upload moment : ℕ) → later ≡ with_upload uploads upload (ended_as Aborted) → state_of position rows later ≡ change (state_of position rows uploads) (AbortUpload upload moment)
    unfolding change
    abort_is rows uploads later upload moment is = ap (state_of position rows) is

    pub commit_is : (rows left : Rows B) (uploads later : List (Upload B)) (upload : ℕ) (numbers : List ℕ) (body : B) (moment : ℕ) (u : Upload B) → upload_at uploads upload ≡ Some u
        → left ≡ with_row rows u.path (entry.Object (upload_object (number_at position 0) u body moment)) → later ≡ with_upload uploads upload (ended_as Committed)
        → state_of position left later ≡ change (state_of position rows uploads) (CommitUpload upload numbers body moment)
    unfolding change
    commit_is rows left uploads later upload numbers body moment u at put ended =
        ap (λ r. state_of position r later) put
        ∙ ap (state_of position (with_row rows u.path (entry.Object (upload_object (number_at position 0) u body moment)))) (ended ∙ ap (λ n. with_upload uploads n (ended_as Committed)) (sym (found_number upload uploads u at)))
        ∙ sym (ap (λ o. commit_upload (state_of position rows uploads) o body moment) at)
