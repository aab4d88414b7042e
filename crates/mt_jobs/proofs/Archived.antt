-- The archive of a job can be put into its folder.
use Rattle.std.proofs.Common.{◌≡◌, ℕ, ◌<◌, ◌^◌, Bool, true, false, cond, not, ◌&&◌, ◌||◌, List, [], ◌∷◌, length, Option, Some, None, refl, sym, ap, subst, ◌∙◌, arith, codes, bytes_eq}
use Rattle.std.specs.Prelude.{IsTrue, is_some}
use Rattle.std.specs.List.{AllByRecursion, list_any}
use Rattle.std.proofs.lemmas.Slice.Eq.{bytes_eq-Decides}
use Rattle.mt_path.specs.AccountPath.{AccountPath}
use Rattle.mt_types.specs.declared.job.Job.{Job}
use Rattle.mt_types.specs.declared.limits.TheConstants.{MOST_COMMANDS}
use Rattle.mt_types.specs.declared.object.Entry.{Entry}
use Rattle.mt_types.specs.declared.object.Entry.TheVariants as entry
use Rattle.mt_types.specs.declared.object.Object.{Object}
use Rattle.mt_types.specs.declared.refusal.Refusal.TheVariants.{RootDirectory, DirectoryOperation}
use Rattle.mt_model.specs.JobSteps.{archive_names}
use Rattle.mt_model.specs.Lawful.{HasFolders, LawfulJob, LawfulJobs, LawfulRows, fits_below, fits_in_folder, is_archive_name, job_named}
use Rattle.mt_model.specs.Names.{in_job_folder, job_folder, job_name}
use Rattle.mt_model.specs.Rows.{Rows, above_refusal, at, directory_refusal, first_refusal, is_directory, is_path, parent_refusal, put_refusal, refuse_if, with_row}
use Rattle.mt_model.specs.State.{job_at}
use Rattle.mt_model.proofs.Children.{parent-above}
use Rattle.mt_model.proofs.LawfulClose.{job_in, named, no_stor, number}
use Rattle.mt_model.proofs.LawfulNewJob.{other_path}
use Rattle.mt_model.proofs.RowLaws.{IsTree-put, at-with_row}
use Rattle.mt_jobs.specs.Archive.{MayArchive}

-- no name of an archive is `stor`
not_stor_in : (name : List ℕ) (ns : List (List ℕ × List ℕ)) → AllByRecursion (λ a. bytes_eq a.0 (codes "stor") ≡ false) ns → list_any (λ a. bytes_eq a.0 name) ns ≡ true → bytes_eq name (codes "stor") ≡ false
not_stor_in name [] never is = cc
not_stor_in name (a ∷ rest) never is = by (bytes_eq a.0 name) refl is (not_stor_in name rest never.1)
  where
    by : (b : Bool) → bytes_eq a.0 name ≡ b → (b || list_any (λ a. bytes_eq a.0 name) rest) ≡ true → (list_any (λ a. bytes_eq a.0 name) rest ≡ true → bytes_eq name (codes "stor") ≡ false) → bytes_eq name (codes "stor") ≡ false
    by true same e more = ap (λ n. bytes_eq n (codes "stor")) (sym ((bytes_eq-Decides a.0 name).0 same)) ∙ never.0
    by false same e more = more e

not_stor : (name : List ℕ) → is_archive_name name ≡ true → bytes_eq name (codes "stor") ≡ false
not_stor name is = not_stor_in name archive_names no_stor is

clash : (a b c : Bool) → a ≡ false → ((a && true) || ((b && false) && c)) ≡ true → ⊥
clash true b c fails is = cc
clash false true c fails is = cc
clash false false c fails is = cc

module _ {B : Type 0} (count : ℕ) (rows : Rows B) (jobs : List (Job B)) (law : LawfulRows count rows) (lawful : LawfulJobs count rows jobs) (room : count < MOST_COMMANDS) (n : ℕ) (j : Job B) (found_j : job_at jobs n ≡ Some j) where
  named_n : job_named jobs (job_name n) ≡ Some j
  named_n = named count rows jobs law lawful room n j found_j

  no_directory : (name : List ℕ) → bytes_eq name (codes "stor") ≡ false → (e : Entry B) → fits_in_folder j (name ∷ []) e ≡ true → is_directory (Some e) ≡ false
  no_directory name never (entry.Object o) fits = refl
  no_directory name never (entry.Directory mtime) fits = absurd (clash (bytes_eq name (codes "stor")) (is_archive_name name) (is_some j.done) never fits)

  free_case : (name : List ℕ) → bytes_eq name (codes "stor") ≡ false → (o : Option (Entry B)) → at rows (in_job_folder n name) ≡ o → is_directory o ≡ false
  free_case name never None is = refl
  free_case name never (Some e) is = no_directory name never e (sym (ap (λ o. fits_below o (name ∷ []) e) named_n) ∙ lawful.entries (job_name n) (name ∷ []) e is)

  pub may_archive : MayArchive rows n
  may_archive = record {
    tree = law.tree;
    folder = subst (λ m. is_directory (at rows (job_folder m)) ≡ true) (number count rows jobs law lawful room n j found_j) (job_in n jobs j found_j (HasFolders rows) lawful.folders).folder;
    free = λ name is. free_case name (not_stor name is) (at rows (in_job_folder n name)) refl;
  }

-- the number of a job is small
pub number_small : {B : Type 0} (count : ℕ) (rows : Rows B) (jobs : List (Job B)) → LawfulRows count rows → LawfulJobs count rows jobs → count < MOST_COMMANDS → (n : ℕ) (j : Job B) → job_at jobs n ≡ Some j → n < 2 ^ 62
number_small count rows jobs law lawful room n j found_j =
    let same : j.number ≡ n = number count rows jobs law lawful room n j found_j in
    let own : LawfulJob count j = job_in n jobs j found_j (LawfulJob count) lawful.each in
    let below = own.number.below in
    subst (λ m. m < 2 ^ 62) same (omega (arith, below, room))

module _ {B : Type 0} (rows : Rows B) (job : ℕ) (name : List ℕ) (is : IsTrue (is_archive_name name)) (may : MayArchive rows job) where
  abbrev place : AccountPath
  place = in_job_folder job name

  fine : (o : Option (Entry B)) → is_directory o ≡ true → directory_refusal o ≡ None
  fine None is = cc
  fine (Some (entry.Directory mtime)) is = refl
  fine (Some (entry.Object object)) is = cc

  pub may_put_archive : put_refusal rows place ≡ None
  may_put_archive =
      ap (λ b. first_refusal (refuse_if b RootDirectory) (first_refusal (parent_refusal rows place) (refuse_if (is_directory (at rows place)) DirectoryOperation))) (ap (λ o. not (is_some o)) (parent-above place (omega arith)))
      ∙ ap (λ r. first_refusal r (refuse_if (is_directory (at rows place)) DirectoryOperation)) (ap (above_refusal rows) (parent-above place (omega arith)) ∙ fine (at rows (job_folder job)) may.folder)
      ∙ ap (λ b. refuse_if b DirectoryOperation) (may.free name is)

  stays_free : (object : Object B) (b : Bool) (e : Option (Entry B)) → is_directory e ≡ false → is_directory (cond b (Some (entry.Object object)) e) ≡ false
  stays_free object true e none = refl
  stays_free object false e none = none

  elsewhere : (b : Bool) (e x : Option (Entry B)) → b ≡ false → is_directory e ≡ true → is_directory (cond b x e) ≡ true
  elsewhere true e x fails d = cc
  elsewhere false e x fails d = d

  -- and then the others still can
  pub archive_stays : (object : Object B) → MayArchive (with_row rows place (entry.Object object)) job
  archive_stays object = record {
    tree = IsTree-put rows place object may.tree may_put_archive;
    folder = ap is_directory (at-with_row rows place (entry.Object object) (job_folder job))
        ∙ elsewhere (is_path place (job_folder job)) (at rows (job_folder job)) (Some (entry.Object object))
        (other_path place (job_folder job) (λ e. let longer : 2 ≡ 1 = ap (λ (p : AccountPath). length p.parts) e in absurd (omega (arith, longer)))) may.folder;
    free = λ other also. ap is_directory (at-with_row rows place (entry.Object object) (in_job_folder job other)) ∙ stays_free object (is_path place (in_job_folder job other)) (at rows (in_job_folder job other)) (may.free other also);
  }

-- one object more is put
pub put_next : {B : Type 0} (rows old new : Rows B) (p : AccountPath) (o x : Object B) → new ≡ with_row old p (entry.Object o) → old ≡ rows → o ≡ x → new ≡ with_row rows p (entry.Object x)
put_next rows old new p o x put before is = put ∙ ap (λ r. with_row r p (entry.Object o)) before ∙ ap (λ y. with_row rows p (entry.Object y)) is
