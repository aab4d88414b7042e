-- An account stays lawful.
use Rattle.std.proofs.Common.{◌≡◌, ℕ, ◌+◌, List, [], Option, Some, None, not, refl, sym, ap, subst, ◌∙◌, true}
use Rattle.std.specs.Prelude.{Ok, nat_lt}
use Rattle.std.specs.List.{enumerate_from, list_all, sum_by}
use Rattle.mt_path.specs.AccountPath.{AccountPath, IsPath}
use Rattle.mt_types.specs.Limits.{is_index}
use Rattle.mt_types.specs.declared.body.Body.{Body}
use Rattle.mt_types.specs.declared.command.Command.{Command}
use Rattle.mt_types.specs.declared.command.Command.TheVariants.{AbortUpload, CommitUpload, Delete, MakeDirectory, NewUpload, Put, PutPart}
use Rattle.mt_types.specs.declared.object.Entry.TheVariants as entry
use Rattle.mt_types.specs.declared.refusal.Refusal.{Refusal}
use Rattle.mt_types.specs.declared.upload.Upload.{Upload}
use Rattle.mt_model.specs.CommandStep.{allowed, change, outside_jobs, put_object, step}
use Rattle.mt_model.specs.Lawful.{Lawful}
use Rattle.mt_model.specs.Names.{number_at}
use Rattle.mt_model.specs.Rows.{Rows, first_refusal, first_rows, make_directory_refusal, put_refusal, refuse_if, remove_refusal, with_row, without_row}
use Rattle.mt_model.specs.State.{State, upload_at}
use Rattle.mt_model.specs.UploadSteps.{commit_upload_refusal, is_listed, is_open, listed, new_upload_refusal, upload_refusal}
use Rattle.mt_model.proofs.RowLaws.{neither}
use Rattle.mt_types.specs.declared.limits.TheConstants.{LARGEST_JOINED}
use Rattle.mt_types.specs.declared.refusal.Refusal.TheVariants.{UploadPart, UploadState, UploadTooLarge}
use Rattle.mt_model.proofs.LawfulSteps.{Lawful-abort_upload, Lawful-commit_upload, Lawful-delete, Lawful-first_state, Lawful-make_directory, Lawful-new_upload, Lawful-put, Lawful-put_part}
use Rattle.mt_tree.specs.Answer.{answer}
use Rattle.mt_upload.specs.Shown.{state_of}

abbrev size : Body → ℕ
size b = b.len

-- what is answered Ok is not refused
pub not_refused : (o : Option Refusal) → answer o ≡ Ok tt → o ≡ None
not_refused None is = refl
not_refused (Some refusal) is = cc

-- an empty account is lawful
pub first : (rows : Rows Body) (uploads : List (Upload Body)) → rows ≡ first_rows → uploads ≡ [] → Lawful (state_of 0 rows uploads)
first rows uploads a b = subst (λ r. Lawful (state_of 0 r uploads)) (sym a) (subst (λ u. Lawful (state_of {B = Body} 0 first_rows u)) (sym b) (Lawful-first_state Body))

-- an upload that may be committed is one whose object may be put
pub may_be_put : (rows : Rows Body) (numbers : List ℕ) (o : Option (Upload Body)) → upload_refusal o (commit_upload_refusal size rows numbers) ≡ None → upload_refusal o (λ u. put_refusal rows u.path) ≡ None
may_be_put rows numbers None is = cc
may_be_put rows numbers (Some u) is =
    let open_yet = neither (refuse_if (not (is_open u.stage)) UploadState) (commit_upload_refusal size rows numbers u) is in
    let there = neither (refuse_if (not (list_all (is_listed u.parts) (enumerate_from 0 numbers))) UploadPart)
    (first_refusal (refuse_if (nat_lt LARGEST_JOINED (sum_by (λ p. size p.body) (listed u.parts numbers))) UploadTooLarge) (put_refusal rows u.path)) open_yet.1 in
    let free = neither (refuse_if (nat_lt LARGEST_JOINED (sum_by (λ p. size p.body) (listed u.parts numbers))) UploadTooLarge) (put_refusal rows u.path) there.1 in
    rw (open_yet.0) free.1

module _ (position : ℕ) (rows : Rows Body) (uploads : List (Upload Body)) (law : Lawful (state_of position rows uploads)) where
  abbrev s : State Body
  s = state_of position rows uploads

  stays : (left : Rows Body) (later : List (Upload Body)) (c : Command Body) → Lawful (step s c) → state_of position left later ≡ change s c → Lawful (state_of (position + 1) left later)
  unfolding step
  stays left later c good is = subst Lawful (sym (ap (λ (t : State Body). record t { count = position + 1 }) is)) good

  -- ---- rows

  put_is : (path : AccountPath) (content_type : List ℕ) (body : Body) (number moment : ℕ) → number ≡ number_at position 0
      → state_of position (with_row rows path (entry.Object (put_object number body content_type None [] moment))) uploads ≡ change s (Put path content_type body None [] moment)
  unfolding change
  put_is path content_type body number moment same = ap (λ n. state_of position (with_row rows path (entry.Object (put_object n body content_type None [] moment))) uploads) same

  pub stays_put : (left : Rows Body) (path : AccountPath) (content_type : List ℕ) (body : Body) (number moment : ℕ) → IsPath path → number ≡ number_at position 0 → outside_jobs path (put_refusal rows path) ≡ None
      → left ≡ with_row rows path (entry.Object (put_object number body content_type None [] moment)) → Lawful (state_of (position + 1) left uploads)
  unfolding allowed
  stays_put left path content_type body number moment is_one same none is =
      stays left uploads (Put path content_type body None [] moment) (Lawful-put size s law path content_type body None [] moment is_one none)
      (ap (λ r. state_of position r uploads) is ∙ put_is path content_type body number moment same)

  directory_is : (path : AccountPath) (moment : ℕ) → state_of position (with_row rows path (entry.Directory moment)) uploads ≡ change s (MakeDirectory path moment)
  unfolding change
  directory_is path moment = refl

  pub stays_directory : (left : Rows Body) (path : AccountPath) (moment : ℕ) → IsPath path → outside_jobs path (make_directory_refusal rows path) ≡ None → left ≡ with_row rows path (entry.Directory moment) → Lawful (state_of (position + 1) left uploads)
  unfolding allowed
  stays_directory left path moment is_one none is =
      stays left uploads (MakeDirectory path moment) (Lawful-make_directory size s law path moment is_one none) (ap (λ r. state_of position r uploads) is ∙ directory_is path moment)

  removed_is : (path : AccountPath) (moment : ℕ) → state_of position (without_row rows path) uploads ≡ change s (Delete path moment)
  unfolding change
  removed_is path moment = refl

  pub stays_removed : (left : Rows Body) (path : AccountPath) → outside_jobs path (remove_refusal rows path) ≡ None → left ≡ without_row rows path → Lawful (state_of (position + 1) left uploads)
  unfolding allowed
  stays_removed left path none is = stays left uploads (Delete path 0) (Lawful-delete size s law path 0 none) (ap (λ r. state_of position r uploads) is ∙ removed_is path 0)

  -- ---- uploads

  module _ (left : Rows Body) (later : List (Upload Body)) where
    pub stays_begun : (path : AccountPath) (content_type : List ℕ) (moment : ℕ) → IsPath path → new_upload_refusal path ≡ None → state_of position left later ≡ change s (NewUpload path content_type moment) → Lawful (state_of (position + 1) left later)
    unfolding allowed
    stays_begun path content_type moment is_one none is = stays left later (NewUpload path content_type moment) (Lawful-new_upload size s law path content_type moment is_one none) is

    pub stays_with_part : (upload index : ℕ) (body : Body) (moment : ℕ) → is_index index ≡ true → state_of position left later ≡ change s (PutPart upload index body moment) → Lawful (state_of (position + 1) left later)
    stays_with_part upload index body moment small is = stays left later (PutPart upload index body moment) (Lawful-put_part size s law upload index body moment small) is

    pub stays_committed : (upload : ℕ) (numbers : List ℕ) (body : Body) (moment : ℕ) → upload_refusal (upload_at uploads upload) (commit_upload_refusal size rows numbers) ≡ None → state_of position left later ≡ change s (CommitUpload upload numbers body moment) → Lawful (state_of (position + 1) left later)
    unfolding allowed
    stays_committed upload numbers body moment none is = stays left later (CommitUpload upload numbers body moment) (Lawful-commit_upload size s law upload numbers body moment none) is

    pub stays_aborted : (upload moment : ℕ) → state_of position left later ≡ change s (AbortUpload upload moment) → Lawful (state_of (position + 1) left later)
    stays_aborted upload moment is = stays left later (AbortUpload upload moment) (Lawful-abort_upload size s law upload moment) is
