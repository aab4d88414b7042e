-- Uploads stand beside rows and jobs.
use Rattle.std.proofs.Common.{◌≡◌, ℕ, List, Option, Some, None, refl}
use Rattle.std.specs.Prelude.{◌≢◌}
use Rattle.mt_types.specs.Kinds.{OnUploads, kind_of}
use Rattle.mt_model.specs.Types.{AbortUpload, AddInputs, Cancel, Close, Command, Commit, CommitUpload, Delete, EndInput, Fate, Finish, Job, Link, MakeDirectory, NewJob, NewUpload, Put, PutPart, Upload}
use Rattle.mt_model.specs.Beside.{IsBesideJobs, IsBesideUploads, with_jobs, with_uploads}
use Rattle.mt_model.specs.CommandStep.{allowed, change}
use Rattle.mt_model.specs.JobSteps.{commit}
use Rattle.mt_model.specs.State.{State, job_at, upload_at}
use Rattle.mt_model.specs.UploadSteps.{commit_upload}

module _ {B : Type 0} where
  commit_beside : (s : State B) (us : List (Upload B)) (o : Option (Job B)) (phase place : ℕ) (fate : Fate B) (moment : ℕ) → commit (with_uploads us s) o phase place fate moment ≡ with_uploads us (commit s o phase place fate moment)
  commit_beside s us None phase place fate moment = refl
  commit_beside s us (Some j) phase place fate moment = refl

  upload_beside : (s : State B) (js : List (Job B)) (o : Option (Upload B)) (body : B) (moment : ℕ) → commit_upload (with_jobs js s) o body moment ≡ with_jobs js (commit_upload s o body moment)
  upload_beside s js None body moment = refl
  upload_beside s js (Some u) body moment = refl

  refused_rows : (size : B → ℕ) (c : Command B) → kind_of c ≢ OnUploads → (s : State B) (us : List (Upload B)) → allowed size (with_uploads us s) c ≡ allowed size s c
  unfolding allowed
  refused_rows size (Put path content_type body durability metadata moment) k s us = refl
  refused_rows size (MakeDirectory path moment) k s us = refl
  refused_rows size (Link path source moment) k s us = refl
  refused_rows size (Delete path moment) k s us = refl
  refused_rows size (NewJob document moment) k s us = refl
  refused_rows size (AddInputs job lines moment) k s us = refl
  refused_rows size (EndInput job moment) k s us = refl
  refused_rows size (Commit job phase place fate moment) k s us = refl
  refused_rows size (Finish job moment) k s us = refl
  refused_rows size (Cancel job moment) k s us = refl
  refused_rows size (Close job cancelled archive moment) k s us = refl
  refused_rows size (NewUpload path content_type moment) k s us = absurd (k refl)
  refused_rows size (PutPart upload index body moment) k s us = absurd (k refl)
  refused_rows size (CommitUpload upload parts body moment) k s us = absurd (k refl)
  refused_rows size (AbortUpload upload moment) k s us = absurd (k refl)

  changed_rows : (c : Command B) → kind_of c ≢ OnUploads → (s : State B) (us : List (Upload B)) → change (with_uploads us s) c ≡ with_uploads us (change s c)
  unfolding change
  changed_rows (Put path content_type body durability metadata moment) k s us = refl
  changed_rows (MakeDirectory path moment) k s us = refl
  changed_rows (Link path source moment) k s us = refl
  changed_rows (Delete path moment) k s us = refl
  changed_rows (NewJob document moment) k s us = refl
  changed_rows (AddInputs job lines moment) k s us = refl
  changed_rows (EndInput job moment) k s us = refl
  changed_rows (Commit job phase place fate moment) k s us = commit_beside s us (job_at s.jobs job) phase place fate moment
  changed_rows (Finish job moment) k s us = refl
  changed_rows (Cancel job moment) k s us = refl
  changed_rows (Close job cancelled archive moment) k s us = refl
  changed_rows (NewUpload path content_type moment) k s us = absurd (k refl)
  changed_rows (PutPart upload index body moment) k s us = absurd (k refl)
  changed_rows (CommitUpload upload parts body moment) k s us = absurd (k refl)
  changed_rows (AbortUpload upload moment) k s us = absurd (k refl)

  pub beside_uploads : (size : B → ℕ) (c : Command B) → kind_of c ≢ OnUploads → IsBesideUploads size c
  beside_uploads size c k = record { refused = refused_rows size c k; changed = changed_rows c k }

  pub beside_jobs : (size : B → ℕ) (c : Command B) → kind_of c ≡ OnUploads → IsBesideJobs size c
  unfolding allowed change
  beside_jobs size (NewUpload path content_type moment) k = record { refused = λ s js. refl; changed = λ s js. refl }
  beside_jobs size (PutPart upload index body moment) k = record { refused = λ s js. refl; changed = λ s js. refl }
  beside_jobs size (CommitUpload upload parts body moment) k = record { refused = λ s js. refl; changed = λ s js. upload_beside s js (upload_at s.uploads upload) body moment }
  beside_jobs size (AbortUpload upload moment) k = record { refused = λ s js. refl; changed = λ s js. refl }
  beside_jobs size (Put path content_type body durability metadata moment) k = cc
  beside_jobs size (MakeDirectory path moment) k = cc
  beside_jobs size (Link path source moment) k = cc
  beside_jobs size (Delete path moment) k = cc
  beside_jobs size (NewJob document moment) k = cc
  beside_jobs size (AddInputs job lines moment) k = cc
  beside_jobs size (EndInput job moment) k = cc
  beside_jobs size (Commit job phase place fate moment) k = cc
  beside_jobs size (Finish job moment) k = cc
  beside_jobs size (Cancel job moment) k = cc
  beside_jobs size (Close job cancelled archive moment) k = cc
