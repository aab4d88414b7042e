-- What the jobs of a lawful state need of its rows, and what a change of one job keeps.
use Rattle.std.proofs.Common.{◌≡◌, ℕ, ◌==◌, ◌<◌, ◌≤◌, Bool, true, false, cond, not, ◌&&◌, ◌||◌, List, [], ◌∷◌, map, Option, Some, None, refl, sym, ap, subst, ◌∙◌, arith, eq-eqb, true≢false}
use Rattle.std.specs.Prelude.{All, is_some, IsSome, bytes_eq, codes}
use Rattle.std.specs.List.{AllByRecursion, find, list_all}
use Rattle.std.specs.List.Sorted.{IsStrictlySortedBy}
use Rattle.std.specs.Ordering.{nat_cmp}
use Rattle.std.specs.Cmp.{unsigned_Decides}
use Rattle.std.specs.declared.cmp.Ordering.TheVariants.{Less}
use Rattle.std.proofs.lemmas.Cmp.{nat_cmp_total, tied_itself}
use Rattle.std.proofs.lemmas.Map.Keys.{sorted_head, sorted_tail}
use Rattle.std.specs.Option.{option_map}
use Rattle.std.proofs.lemmas.List.Elements.{All-nil, All-cons, All-head, All-tail, All-weaker}
use Rattle.mt_path.specs.declared.area.Area.TheVariants.{Jobs}
use Rattle.mt_types.specs.declared.job.Job.{Job}
use Rattle.mt_types.specs.declared.object.Entry.{Entry}
use Rattle.mt_types.specs.declared.refusal.Refusal.{Refusal}
use Rattle.mt_model.specs.JobSteps.{archive_names, job_refusal}
use Rattle.mt_model.specs.Lawful.{HasFolders, LawfulJob, LawfulJobs, fits_below, fits_in_folder, is_archive_name, job_named}
use Rattle.mt_model.specs.Names.{job_name}
use Rattle.mt_model.specs.Rows.{Rows, at, is_directory, object_in}
use Rattle.mt_model.specs.State.{job_at, with_job}
use Rattle.mt_model.proofs.LawfulRows.{IsBelow-later}
use Rattle.mt_model.proofs.Maps.{find-map, same_function, map-map}

module _ {B : Type 0} where
  -- what stands in the area of jobs, by the components of its path
  abbrev pub in_jobs : Rows B → List (List ℕ) → Option (Entry B)
  in_jobs rows names = at rows (record { area = Jobs; parts = names })

  -- ---- later, and over other rows

  pub LawfulJob-later : (m n : ℕ) → m ≤ n → (j : Job B) → LawfulJob m j → LawfulJob n j
  LawfulJob-later m n later j law = record {
    number = record { first = law.number.first; below = IsBelow-later m n j.number later law.number.below };
    positions = All-weaker (λ e. e.position < m) (λ e. e.position < n) (λ e b. omega arith) j.trace law.positions;
    few = law.few;
    missing = law.missing;
    few_each = law.few_each;
    inputs = law.inputs;
    outputs = law.outputs;
    document = law.document;
    assets = law.assets;
    sound = law.sound;
  }

  -- what a job needs of the area of jobs
  folder_of : (rows : Rows B) (g : List (List ℕ) → Option (Entry B)) → g ≡ in_jobs rows → (j : Job B) → HasFolders rows j
      → (is_directory (g (job_name j.number ∷ [])) ≡ true) × (is_directory (g (job_name j.number ∷ codes "stor" ∷ [])) ≡ true)
      × ((list_all (λ n. is_some (object_in (g (job_name j.number ∷ n.0 ∷ [])))) archive_names || list_all (λ n. not (is_some (g (job_name j.number ∷ n.0 ∷ [])))) archive_names) ≡ true)
  folder_of rows g e j h = subst (λ k. (is_directory (k (job_name j.number ∷ [])) ≡ true) × (is_directory (k (job_name j.number ∷ codes "stor" ∷ [])) ≡ true)
      × ((list_all (λ n. is_some (object_in (k (job_name j.number ∷ n.0 ∷ [])))) archive_names || list_all (λ n. not (is_some (k (job_name j.number ∷ n.0 ∷ [])))) archive_names) ≡ true)) (sym e) (h.folder, h.stor, h.archive)

  pub HasFolders-same : (rows new : Rows B) → ((names : List (List ℕ)) → in_jobs new names ≡ in_jobs rows names) → (j : Job B) → HasFolders rows j → HasFolders new j
  HasFolders-same rows new same j h =
      let all = folder_of rows (in_jobs new) (same_function (in_jobs new) (in_jobs rows) same) j h in
      record { folder = all.0; stor = all.1; archive = all.2 }

  -- a change elsewhere leaves the jobs lawful
  pub LawfulJobs-same : (m n : ℕ) → m ≤ n → (rows new : Rows B) (jobs : List (Job B)) → ((names : List (List ℕ)) → in_jobs new names ≡ in_jobs rows names) → LawfulJobs m rows jobs → LawfulJobs n new jobs
  LawfulJobs-same m n later rows new jobs same law = record {
    rising = law.rising;
    each = All-weaker (LawfulJob m) (LawfulJob n) (LawfulJob-later m n later) jobs law.each;
    folders = All-weaker (HasFolders rows) (HasFolders new) (HasFolders-same rows new same) jobs law.folders;
    entries = λ id names e is. law.entries id names e (sym (same (id ∷ names)) ∙ is);
  }

  -- ---- a change of one job

  -- a change that keeps the number, and leaves no job that is done undone
  pub record KeepsJob (c : Job B → Job B) : Type 0 where
    pub number : (j : Job B) → (c j).number ≡ j.number
    pub done : (j : Job B) → IsSome j.done → IsSome (c j).done

  module _ (number : ℕ) (c : Job B → Job B) (keeps : KeepsJob c) where
    -- the change, at the job of this number alone
    abbrev changed : Job B → Job B
    changed j = cond (j.number == number) (c j) j

    number_case : (b : Bool) (j : Job B) → (cond b (c j) j).number ≡ j.number
    number_case true j = keeps.number j
    number_case false j = refl

    done_case : (b : Bool) (j : Job B) → IsSome j.done → IsSome (cond b (c j) j).done
    done_case true j some = keeps.done j some
    done_case false j some = some

    pub same_numbers : (jobs : List (Job B)) → map (λ j. j.number) (with_job jobs number c) ≡ map (λ j. j.number) jobs
    same_numbers jobs =
        map-map (λ j. j.number) changed jobs
        ∙ ap (λ h. map h jobs) (same_function (λ j. (changed j).number) (λ j. j.number) (λ j. number_case (j.number == number) j))

    pub named-changed : (jobs : List (Job B)) (name : List ℕ) → job_named (with_job jobs number c) name ≡ option_map changed (job_named jobs name)
    named-changed jobs name =
        find-map changed (λ j. bytes_eq (job_name j.number) name) jobs
        ∙ ap (λ t. option_map changed (find t jobs)) (same_function (λ j. bytes_eq (job_name (changed j).number) name) (λ j. bytes_eq (job_name j.number) name)
        (λ j. ap (λ n. bytes_eq (job_name n) name) (number_case (j.number == number) j)))

    or_case : (a a' b b' : Bool) → (a ≡ true → a' ≡ true) → (b ≡ true → b' ≡ true) → (a || b) ≡ true → (a' || b') ≡ true
    or_case true a' b b' f g e = let first = f refl in cc
    or_case false true b b' f g e = refl
    or_case false false b b' f g e = g e

    and_case : (a b b' : Bool) → (b ≡ true → b' ≡ true) → (a && b) ≡ true → (a && b') ≡ true
    and_case true b b' f e = f e
    and_case false b b' f e = e

    fits_changed : (j : Job B) (names : List (List ℕ)) (e : Entry B) → fits_in_folder j names e ≡ true → fits_in_folder (changed j) names e ≡ true
    fits_changed j [] e fits = fits
    fits_changed j (name ∷ []) e fits =
        or_case (bytes_eq name (codes "stor") && is_directory (Some e)) (bytes_eq name (codes "stor") && is_directory (Some e))
        (is_archive_name name && is_some (object_in (Some e)) && is_some j.done) (is_archive_name name && is_some (object_in (Some e)) && is_some (changed j).done)
        (λ h. h) (and_case (is_archive_name name && is_some (object_in (Some e))) (is_some j.done) (is_some (changed j).done) (done_case (j.number == number) j)) fits
    fits_changed j (folder ∷ name ∷ more) e fits = fits

    below_changed : (o : Option (Job B)) (names : List (List ℕ)) (e : Entry B) → fits_below o names e ≡ true → fits_below (option_map changed o) names e ≡ true
    below_changed None names e fits = fits
    below_changed (Some j) names e fits = fits_changed j names e fits

    folders_case : (rows : Rows B) (b : Bool) (j : Job B) → HasFolders rows j → HasFolders rows (cond b (c j) j)
    folders_case rows true j h =
        let n : (c j).number ≡ j.number = keeps.number j in
        subst (λ m. HasFolders rows (record (c j) { number = m })) (sym n) (record { folder = h.folder; stor = h.stor; archive = h.archive })
    folders_case rows false j h = h

    all_changed : (P Q : Job B → Type 0) → ((j : Job B) → P j → Q (changed j)) → (jobs : List (Job B)) → All P jobs → All Q (with_job jobs number c)
    all_changed P Q each [] a = All-nil Q
    all_changed P Q each (j ∷ js) a = All-cons Q (changed j) (with_job js number c) (each j (All-head P j js a)) (all_changed P Q each js (All-tail P j js a))

    each_case : (n : ℕ) (j : Job B) (b : Bool) → j.number == number ≡ b → LawfulJob n j → (j.number ≡ number → LawfulJob n (c j)) → LawfulJob n (cond b (c j) j)
    each_case n j true t law good = good ((unsigned_Decides j.number number).0 t)
    each_case n j false t law good = law

    each_changed : (n : ℕ) (jobs : List (Job B)) → All (LawfulJob n) jobs → All (λ j. j.number ≡ number → LawfulJob n (c j)) jobs → All (LawfulJob n) (with_job jobs number c)
    each_changed n [] law good = All-nil (LawfulJob n)
    each_changed n (j ∷ js) law good =
        All-cons (LawfulJob n) (changed j) (with_job js number c)
        (each_case n j (j.number == number) refl (All-head (LawfulJob n) j js law) (All-head (λ x. x.number ≡ number → LawfulJob n (c x)) j js good))
        (each_changed n js (All-tail (LawfulJob n) j js law) (All-tail (λ x. x.number ≡ number → LawfulJob n (c x)) j js good))

    -- the jobs stay lawful where the changed one does
    pub LawfulJobs-changed : (n : ℕ) (rows : Rows B) (jobs : List (Job B)) → LawfulJobs n rows jobs → All (λ j. j.number ≡ number → LawfulJob n (c j)) jobs → LawfulJobs n rows (with_job jobs number c)
    LawfulJobs-changed n rows jobs law good = record {
      rising = subst (IsStrictlySortedBy nat_cmp) (sym (same_numbers jobs)) law.rising;
      each = each_changed n jobs law.each good;
      folders = all_changed (HasFolders rows) (HasFolders rows) (λ j h. folders_case rows (j.number == number) j h) jobs law.folders;
      entries = λ id names e is.
          ap (λ o. fits_below o names e) (named-changed jobs id) ∙ below_changed (job_named jobs id) names e (law.entries id names e is);
    }

  -- ---- the job that a command finds

  -- no later job has the number of the first
  none_later : (number : ℕ) (P : Job B → Type 0) (js : List (Job B)) → AllByRecursion (λ y. nat_cmp number y ≡ Less) (map (λ j. j.number) js) → All (λ j. j.number ≡ number → P j) js
  none_later number P [] a = All-nil (λ j. j.number ≡ number → P j)
  none_later number P (j ∷ js) a =
      All-cons (λ x. x.number ≡ number → P x) j js
      (λ e. let same : nat_cmp number number ≡ Less = subst (λ y. nat_cmp number y ≡ Less) e a.0 in let tied = tied_itself nat_cmp_total number in cc)
      (none_later number P js a.1)

  -- what is not refused of the job of a number holds of each job of it, since there is one
  found_case : (number : ℕ) (r : Job B → Option Refusal) (j : Job B) (js : List (Job B)) (b : Bool) → j.number == number ≡ b
      → AllByRecursion (λ y. nat_cmp j.number y ≡ Less) (map (λ x. x.number) js)
      → (job_refusal (job_at js number) r ≡ None → All (λ x. x.number ≡ number → r x ≡ None) js)
      → job_refusal (cond b (Some j) (job_at js number)) r ≡ None → All (λ x. x.number ≡ number → r x ≡ None) (j ∷ js)
  found_case number r j js true t later rest e =
      let same : j.number ≡ number = (unsigned_Decides j.number number).0 t in
      All-cons (λ x. x.number ≡ number → r x ≡ None) j js (λ _. e)
      (none_later number (λ x. r x ≡ None) js (subst (λ n. AllByRecursion (λ y. nat_cmp n y ≡ Less) (map (λ x. x.number) js)) same later))
  found_case number r j js false t later rest e =
      All-cons (λ x. x.number ≡ number → r x ≡ None) j js (λ same. let is : j.number == number ≡ true = eq-eqb j.number number same in absurd (true≢false (sym is ∙ t))) (rest e)

  pub found : (number : ℕ) (r : Job B → Option Refusal) (jobs : List (Job B)) → IsStrictlySortedBy nat_cmp (map (λ j. j.number) jobs) → job_refusal (job_at jobs number) r ≡ None → All (λ j. j.number ≡ number → r j ≡ None) jobs
  found number r [] s e = All-nil (λ j. j.number ≡ number → r j ≡ None)
  found number r (j ∷ js) s e =
      found_case number r j js (j.number == number) refl (sorted_head nat_cmp j.number (map (λ x. x.number) js) s)
      (found number r js (sorted_tail nat_cmp j.number (map (λ x. x.number) js) s)) e
