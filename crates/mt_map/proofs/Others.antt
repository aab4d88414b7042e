-- No command changes what is at a path that it does not name.
use Rattle.std.proofs.Common.{◌≡◌, ℕ, ◌+◌, ◌==◌, ◌⊎◌, inl, inr, Bool, true, false, cond, not, ◌&&◌, ◌||◌, List, [], ◌∷◌, ◌++◌, codes, bytes_eq, Option, Some, None, Result, Ok, Err, refl, sym, ap, subst, ◌∙◌, arith, true≢false}
use Rattle.std.specs.Prelude.{is_some}
use Rattle.std.specs.List.{fold, list_any}
use Rattle.std.proofs.lemmas.Option.{same_Some}
use Rattle.std.proofs.lemmas.Slice.Eq.{bytes_eq-Decides}
use Rattle.mt_ident.specs.Identifiers.{identifier_text}
use Rattle.mt_map.specs.Map.{OnlyItsOwn, fate_may_put, is_of_job, puts_below}
use Rattle.mt_model.proofs.LawfulNewJob.{other_path}
use Rattle.mt_model.proofs.RowLaws.{at-with_row, at-without_row, is_path-exact}
use Rattle.mt_model.specs.Types.{AbortUpload, AccountPath, AddInputs, Cancel, Close, Commit, CommitUpload, Delete, Emit, EndInput, Fate, Finish, Job, Jobs, Keep, Link, MakeDirectory, NewJob, NewUpload, Object, Put, PutPart, Ref, TaskFailure, TaskPlaceRefused, TaskRecord}
use Rattle.mt_model.specs.CommandStep.{change, linked, step}
use Rattle.mt_model.specs.JobSteps.{archive_bodies, archive_names, archive_object, commit, task_root, with_archive_from}
use Rattle.mt_model.specs.Names.{in_job_folder, job_folder, job_name, job_stor, number_at, output_prefix, paths_above}
use Rattle.mt_model.specs.Resolve.{Committing, Taken, and_then, can_hold_object, fresh_place, kept, next_number, puts_at, resolve, resolved, take_placed, take_record, take_records, take_reference, with_directory, with_output, with_parents}
use Rattle.mt_model.specs.Rows.{Rows, at, is_path, object_at, with_row}
use Rattle.mt_model.specs.State.{State, job_at}
use Rattle.mt_types.specs.declared.object.Entry.{Entry}
use Rattle.mt_types.specs.declared.object.Entry.TheVariants as entry
use Rattle.mt_types.specs.declared.task.Fate.TheVariants as fate

-- ---- tests

or_first : (a b : Bool) → (a || b) ≡ false → a ≡ false
or_first true b e = e
or_first false b e = refl

or_second : (a b : Bool) → (a || b) ≡ false → b ≡ false
or_second true b e = absurd (true≢false e)
or_second false b e = e

three : (a b c : Bool) → a ≡ false → b ≡ false → c ≡ false → (a || (b || (c || false))) ≡ false
three true b c x y z = x
three false true c x y z = y
three false false true x y z = z
three false false false x y z = refl

bytes_self : (xs : List ℕ) → bytes_eq xs xs ≡ true
bytes_self xs = (bytes_eq-Decides xs xs).1 refl

-- no path of the folder of a job, and none above it, is this one
module _ (q : AccountPath) (job : ℕ) (strange : is_of_job job q ≡ false) where
  of_job : (p : AccountPath) → is_of_job job p ≡ true → is_path p q ≡ false
  of_job p is = other_path p q (λ same. true≢false (sym is ∙ (ap (is_of_job job) same ∙ strange)))

  root_of_job : is_path (record { area = Jobs; parts = [] }) q ≡ false
  root_of_job = of_job (record { area = Jobs; parts = [] }) refl

  below_job : (names : List (List ℕ)) → is_path (record { area = Jobs; parts = job_name job ∷ names }) q ≡ false
  below_job names = of_job (record { area = Jobs; parts = job_name job ∷ names }) (bytes_self (job_name job))

-- the job that is found has the number
number_found : {B : Type 0} → (n : ℕ) (js : List (Job B)) (j : Job B) → job_at js n ≡ Some j → j.number ≡ n
number_found n [] j is = absurd (cc)
number_found {B} n (x ∷ js) j is = by (x.number == n) refl (number_found n js j) is
  where
    by : (b : Bool) → (x.number == n) ≡ b → (job_at js n ≡ Some j → j.number ≡ n) → cond {A = Option (Job B)} b (Some x) (job_at js n) ≡ Some j → j.number ≡ n
    by true e rest here = let same : x ≡ j = same_Some _ _ here in ap (λ (k : Job B). k.number) (sym same) ∙ (let f : (x.number == n) ≡ true = e in grind arith)
    by false e rest later = rest later

module _ {B : Type 0} (q : AccountPath) where
  -- ---- one row

  other : (rows : Rows B) (p : AccountPath) (e : Entry B) → is_path p q ≡ false → at (with_row rows p e) q ≡ at rows q
  other rows p e apart = at-with_row rows p e q ∙ ap (λ (b : Bool). cond {A = Option (Entry B)} b (Some e) (at rows q)) apart

  linked_other : (rows : Rows B) (p : AccountPath) (o : Option (Object B)) (moment : ℕ) → is_path p q ≡ false → at (linked rows p o moment) q ≡ at rows q
  linked_other rows p None moment apart = refl
  linked_other rows p (Some o) moment apart = other rows p _ apart

  -- ---- directories above a path

  -- something is here, or it is none of these
  abbrev Safe : Rows B → List AccountPath → Type 0
  Safe rows ds = (is_some (at rows q) ≡ true) ⊎ (list_any (λ d. is_path d q) ds ≡ false)

  directory_other : (moment : ℕ) (rows : Rows B) (d : AccountPath) → (is_some (at rows q) ≡ true) ⊎ (is_path d q ≡ false) → at (with_directory moment rows d) q ≡ at rows q
  directory_other moment rows d safe = by (is_some (at rows d)) refl (is_path d q) refl safe
    where
      by : (a : Bool) → is_some (at rows d) ≡ a → (b : Bool) → is_path d q ≡ b → (is_some (at rows q) ≡ true) ⊎ (is_path d q ≡ false)
          → at (cond a rows (with_row rows d (entry.Directory moment))) q ≡ at rows q
      by true here b is s = refl
      by false here false is s = other rows d (entry.Directory moment) is
      by false here true is (inr apart) = absurd (true≢false (sym is ∙ apart))
      by false here true is (inl there) = absurd (true≢false (sym there ∙ (ap (λ (x : AccountPath). is_some (at rows x)) (sym (is_path-exact d q is)) ∙ here)))

  directories_other : (moment : ℕ) (ds : List AccountPath) (rows : Rows B) → Safe rows ds → at (fold (with_directory moment) rows ds) q ≡ at rows q
  directories_other moment [] rows safe = refl
  directories_other moment (d ∷ ds) rows safe =
      let one = directory_other moment rows d (first safe) in
      directories_other moment ds (with_directory moment rows d) (rest one safe) ∙ one
    where
      first : Safe rows (d ∷ ds) → (is_some (at rows q) ≡ true) ⊎ (is_path d q ≡ false)
      first (inl there) = inl there
      first (inr apart) = inr (or_first (is_path d q) _ apart)

      rest : at (with_directory moment rows d) q ≡ at rows q → Safe rows (d ∷ ds) → Safe (with_directory moment rows d) ds
      rest one (inl there) = inl (ap is_some one ∙ there)
      rest one (inr apart) = inr (or_second (is_path d q) _ apart)

  -- ---- the records of a commit

  module _ (c : Committing) (strange : is_of_job c.job q ≡ false) where
    kept_other : (place : AccountPath) (body : B) (t : Taken B) → is_path place q ≡ false → Safe t.rows (paths_above place) → at (kept c place body t).rows q ≡ at t.rows q
    kept_other place body t apart safe =
        other (with_parents t.rows place c.moment) place _ apart ∙ directories_other c.moment (paths_above place) t.rows safe

    fresh_apart : (t : Taken B) → is_path (fresh_place c t) q ≡ false
    fresh_apart t = below_job q c.job strange (codes "stor" ∷ (output_prefix c.root c.phase ++ identifier_text 3 (next_number c t)) ∷ [])

    fresh_above : (t : Taken B) → list_any (λ d. is_path d q) (paths_above (fresh_place c t)) ≡ false
    fresh_above t = three _ _ _ (root_of_job q c.job strange) (below_job q c.job strange []) (below_job q c.job strange (codes "stor" ∷ []))

    abbrev Same : Rows B → Result (Taken B) TaskFailure → Type 0
    Same rows (Ok t) = at t.rows q ≡ at rows q
    Same rows (Err failure) = Unit {0}

    same_on : (rows new : Rows B) (x : Result (Taken B) TaskFailure) → Same new x → at new q ≡ at rows q → Same rows x
    same_on rows new (Ok t) same is = same ∙ is
    same_on rows new (Err failure) same is = tt

    placed_other : (place : AccountPath) (body : B) (t : Taken B) → is_path place q ≡ false → Safe t.rows (paths_above place) → Same t.rows (take_placed c place body t)
    placed_other place body t apart safe = by (can_hold_object t.rows c.job place)
      where
        by : (b : Bool) → Same t.rows (cond {A = Result (Taken B) TaskFailure} b (Ok (kept c place body t)) (Err TaskPlaceRefused))
        by true = kept_other place body t apart safe
        by false = tt

    output_other : (place : AccountPath) (body : B) (reducer : Option ℕ) (rows : Rows B) (x : Result (Taken B) TaskFailure) → Same rows x → Same rows (and_then (λ new. Ok (with_output c place body reducer new)) x)
    output_other place body reducer rows (Ok t) same = same
    output_other place body reducer rows (Err failure) same = tt

    reference_other : (name : AccountPath) (t : Taken B) (o : Option (Object B)) → Same t.rows (take_reference c name t o)
    reference_other name t None = tt
    reference_other name t (Some o) = refl

    record_other : (t : Taken B) (r : TaskRecord B) → puts_at q r ≡ false → (is_some (at t.rows q) ≡ true) ⊎ (puts_below q r ≡ false) → Same t.rows (take_record c t r)
    record_other t (Emit None reducer body) apart safe = kept_other (fresh_place c t) body t (fresh_apart t) (inr (fresh_above t))
    record_other t (Emit (Some place) reducer body) apart safe = output_other place body reducer t.rows (take_placed c place body t) (placed_other place body t apart safe)
    record_other t (Keep place body) apart safe = placed_other place body t apart safe
    record_other t (Ref name) apart safe = reference_other name t (object_at t.rows name)

    -- something is here, or no record puts anything below
    abbrev Free : Rows B → List (TaskRecord B) → Type 0
    Free rows rs = (is_some (at rows q) ≡ true) ⊎ (list_any (puts_below q) rs ≡ false)

    first_free : (rows now : Rows B) (r : TaskRecord B) (rs : List (TaskRecord B)) → at now q ≡ at rows q → Free rows (r ∷ rs) → (is_some (at now q) ≡ true) ⊎ (puts_below q r ≡ false)
    first_free rows now r rs same (inl there) = inl (ap is_some same ∙ there)
    first_free rows now r rs same (inr none) = inr (or_first (puts_below q r) _ none)

    rest_free : (rows : Rows B) (r : TaskRecord B) (rs : List (TaskRecord B)) → Free rows (r ∷ rs) → Free rows rs
    rest_free rows r rs (inl there) = inl there
    rest_free rows r rs (inr none) = inr (or_second (puts_below q r) _ none)

    records_other : (rs : List (TaskRecord B)) (x : Result (Taken B) TaskFailure) (rows : Rows B) → Same rows x → list_any (puts_at q) rs ≡ false → Free rows rs → Same rows (take_records c rs x)
    records_other [] x rows same apart free = same
    records_other (r ∷ rs) (Err failure) rows same apart free = records_other rs (Err failure) rows tt (or_second (puts_at q r) _ apart) (rest_free rows r rs free)
    records_other (r ∷ rs) (Ok t) rows same apart free =
        records_other rs (take_record c t r) rows
        (same_on rows t.rows (take_record c t r) (record_other t r (or_first (puts_at q r) _ apart) (first_free rows t.rows r rs same free)) same)
        (or_second (puts_at q r) _ apart) (rest_free rows r rs free)

    resolved_other : (rows : Rows B) (x : Result (Taken B) TaskFailure) → Same rows x → at (resolved rows x).rows q ≡ at rows q
    resolved_other rows (Ok t) same = same
    resolved_other rows (Err failure) same = refl

    free_by : (rows : Rows B) (rs : List (TaskRecord B)) (there below : Bool) → is_some (at rows q) ≡ there → list_any (puts_below q) rs ≡ below → (not there && below) ≡ false → Free rows rs
    free_by rows rs true below is sum none = inl is
    free_by rows rs false below is sum none = inr (sum ∙ none)

    fate_other : (rows : Rows B) (f : Fate B) → fate_may_put rows q f ≡ false → at (resolve c rows f).rows q ≡ at rows q
    fate_other rows (fate.Good records) none =
        resolved_other rows (take_records c records (Ok (record { rows = rows; items = []; made = 0 })))
        (records_other records (Ok (record { rows = rows; items = []; made = 0 })) rows refl (or_first (list_any (puts_at q) records) _ none)
        (free_by rows records (is_some (at rows q)) (list_any (puts_below q) records) refl refl (or_second (list_any (puts_at q) records) _ none)))
    fate_other rows (fate.Bad failure status stderr) none = refl

  -- ---- commits and ends of jobs

  commit_other : (s : State B) (job phase place : ℕ) (f : Fate B) (moment : ℕ) (o : Option (Job B)) → job_at s.jobs job ≡ o → is_of_job job q ≡ false → fate_may_put s.rows q f ≡ false
      → at (commit s o phase place f moment).rows q ≡ at s.rows q
  commit_other s job phase place f moment None is strange none = refl
  commit_other s job phase place f moment (Some j) is strange none =
      fate_other (record { job = j.number; phase = phase; root = task_root j phase place; position = s.count; moment = moment })
      (subst (λ (n : ℕ). is_of_job n q ≡ false) (sym (number_found job s.jobs j is)) strange) s.rows f none

  archive_other : (index : ℕ) (rows : Rows B) (job position moment : ℕ) (names : List (List ℕ × List ℕ)) (bodies : List B) → list_any (λ n. is_path (in_job_folder job n.0) q) names ≡ false
      → at (with_archive_from index rows job position moment names bodies) q ≡ at rows q
  archive_other index rows job position moment [] bodies apart = refl
  archive_other index rows job position moment (n ∷ ns) [] apart = refl
  archive_other index rows job position moment (n ∷ ns) (b ∷ bs) apart =
      archive_other (index + 1) (with_row rows (in_job_folder job n.0) (entry.Object (archive_object (number_at position index) n.1 b moment))) job position moment ns bs (or_second (is_path (in_job_folder job n.0) q) _ apart)
      ∙ other rows (in_job_folder job n.0) _ (or_first (is_path (in_job_folder job n.0) q) _ apart)

pub only_its_own : {B : Type 0} → OnlyItsOwn B
unfolding step change
only_its_own s (Put path content_type body durability metadata moment) q lawful apart = other q s.rows path _ apart
only_its_own s (MakeDirectory path moment) q lawful apart = other q s.rows path _ apart
only_its_own s (Link path source moment) q lawful apart = linked_other q s.rows path (object_at s.rows source) moment apart
only_its_own {B} s (Delete path moment) q lawful apart =
    at-without_row s.rows path q lawful.rows.tree.ordered ∙ ap (λ (b : Bool). cond {A = Option (Entry B)} b None (at s.rows q)) apart
only_its_own s (NewJob document moment) q lawful apart =
    other q (with_row s.rows (job_folder (number_at s.count 0)) (entry.Directory moment)) (job_stor (number_at s.count 0)) _ (or_second (is_path (job_folder (number_at s.count 0)) q) _ apart)
    ∙ other q s.rows (job_folder (number_at s.count 0)) _ (or_first (is_path (job_folder (number_at s.count 0)) q) _ apart)
only_its_own s (AddInputs job lines moment) q lawful apart = refl
only_its_own s (EndInput job moment) q lawful apart = refl
only_its_own s (Commit job phase place f moment) q lawful apart =
    commit_other q s job phase place f moment (job_at s.jobs job) refl (or_first (is_of_job job q) _ apart) (or_second (is_of_job job q) _ apart)
only_its_own s (Finish job moment) q lawful apart = refl
only_its_own s (Cancel job moment) q lawful apart = refl
only_its_own s (Close job cancelled archive moment) q lawful apart = archive_other q 0 s.rows job s.count moment archive_names (archive_bodies archive) apart
only_its_own s (NewUpload path content_type moment) q lawful apart = refl
only_its_own s (PutPart upload index body moment) q lawful apart = refl
only_its_own s (CommitUpload upload parts body moment) q lawful apart = absurd (true≢false apart)
only_its_own s (AbortUpload upload moment) q lawful apart = refl
