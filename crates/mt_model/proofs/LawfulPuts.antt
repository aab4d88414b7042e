-- What a task puts keeps the rows and the jobs lawful, where it belongs there.
use Rattle.std.proofs.Common.{◌≡◌, ℕ, ◌+◌, ◌-◌, ◌<◌, ◌≤◌, Bool, true, false, cond, not, ◌||◌, nat_lt, List, [], ◌∷◌, length, map, take, Option, Some, None, refl, sym, ap, subst, ◌∙◌, arith, true≢false, codes, bytes_eq, ◌⊎◌, inl, inr, zero, suc}
use Rattle.std.specs.Prelude.{is_some}
use Rattle.std.specs.List.{fold, list_all, range_with_len}
use Rattle.std.specs.Option.{unwrap_or}
use Rattle.std.proofs.lemmas.Bool.{cases_lt}
use Rattle.std.proofs.lemmas.List.{length-take-le}
use Rattle.std.proofs.lemmas.List.Elements.{All-weaker}
use Rattle.mt_path.proofs.Fronts.{IsPath-take}
use Rattle.mt_path.specs.AccountPath.{AccountPath, IsPath, parent_of}
use Rattle.mt_path.specs.declared.area.Area.TheVariants.{Jobs}
use Rattle.mt_types.specs.declared.job.Job.{Job}
use Rattle.mt_types.specs.declared.object.Entry.{Entry}
use Rattle.mt_types.specs.declared.object.Entry.TheVariants as entry
use Rattle.mt_types.specs.declared.object.Object.{Object}
use Rattle.mt_model.specs.JobSteps.{archive_names}
use Rattle.mt_model.specs.Lawful.{HasFolders, IsBelow, LawfulJobs, LawfulRows, fits_below, job_named}
use Rattle.mt_model.specs.Names.{in_job_folder}
use Rattle.mt_model.specs.Resolve.{is_object_at, with_directory, with_parents}
use Rattle.mt_model.specs.Rows.{Rows, IsTree, at, is_directory, is_path, object_in, with_row}
use Rattle.mt_model.specs.UploadSteps.{is_jobs}
use Rattle.mt_model.proofs.LawfulClose.{head, no_stor}
use Rattle.mt_model.proofs.LawfulJobs.{LawfulJobs-same, in_jobs}
use Rattle.mt_model.proofs.LawfulNewJob.{list_all-same, other_path}
use Rattle.mt_model.proofs.LawfulRows.{LawfulRows-with_row, jobs-with_row}
use Rattle.mt_model.proofs.RowLaws.{IsTree-with_row, at-with_row, is_path-exact, is_path-self}

abbrev tail : List (List ℕ) → List (List ℕ)
tail [] = []
tail (x ∷ xs) = xs

-- the front of a path
abbrev pub front : AccountPath → ℕ → AccountPath
front p k = record p { parts = take k p.parts }

take_again : {X : Type 0} (k a : ℕ) (xs : List X) → k ≤ a → take k (take a xs) ≡ take k xs
take_again zero a xs le = refl
take_again (suc k) zero xs le = absurd (omega arith)
take_again (suc k) (suc a) [] le = refl
take_again (suc k) (suc a) (x ∷ xs) le = ap (λ more. x ∷ more) (take_again k a xs (omega arith))

above_case : (q d : AccountPath) (b : Bool) → nat_lt 0 (length q.parts) ≡ b → cond b (Some (record q { parts = take (length q.parts - 1) q.parts })) None ≡ Some d → record q { parts = take (length q.parts - 1) q.parts } ≡ d
above_case q d true t is = ap (λ o. unwrap_or o d) is
above_case q d false t is = cc

-- the path above the front is the next shorter one
pub front_above : (p : AccountPath) (a : ℕ) (d : AccountPath) → suc a ≤ length p.parts → parent_of (front p (suc a)) ≡ Some d → front p a ≡ d
front_above p a d le is =
    let long : length (take (suc a) p.parts) ≡ suc a = length-take-le (suc a) p.parts le in
    let short : length (take (suc a) p.parts) - 1 ≡ a = omega (arith, long) in
    ap (λ xs. record p { parts = xs }) (sym (ap (λ n. take n (take (suc a) p.parts)) short ∙ take_again a (suc a) p.parts (omega arith)))
    ∙ above_case (front p (suc a)) d (nat_lt 0 (length (take (suc a) p.parts))) refl is

none_above : (p : AccountPath) (d : AccountPath) → parent_of (front p 0) ≡ Some d → ⊥
none_above p d is = cc

module _ {B : Type 0} (m : ℕ) (jobs : List (Job B)) where
  -- the rows and the jobs are lawful together
  pub record Whole (rows : Rows B) : Type 0 where
    pub rows_are : LawfulRows m rows
    pub jobs_are : LawfulJobs m rows jobs

  -- it stands below the folder of a job, where it may
  pub record IsInFolder (p : AccountPath) (e : Entry B) : Type 0 where
    pub id : List ℕ
    pub first : List ℕ
    pub second : List ℕ
    pub more : List (List ℕ)
    pub is : p ≡ record { area = Jobs; parts = id ∷ first ∷ second ∷ more }
    pub fits : fits_below (job_named jobs id) (first ∷ second ∷ more) e ≡ true

  abbrev pub Belongs : AccountPath → Entry B → Type 0
  Belongs p e = (is_jobs p.area ≡ false) ⊎ IsInFolder p e

  -- ---- one row

  module _ (rows : Rows B) (p : AccountPath) (e : Entry B) (f : IsInFolder p e) where
    new_false : (t : Bool) (x y : Option (Entry B)) → t ≡ false → cond t x y ≡ y
    new_false true x y is = cc
    new_false false x y is = refl

    short : (names : List (List ℕ)) → length names ≤ 2 → in_jobs (with_row rows p e) names ≡ in_jobs rows names
    short names le =
        let q : AccountPath = record { area = Jobs; parts = names } in
        at-with_row rows p e q ∙ new_false (is_path p q) (Some e) (at rows q)
        (other_path p q (λ same. let longer : length names ≡ suc (suc (suc (length f.more))) = ap (λ (x : AccountPath). length x.parts) (sym same ∙ f.is) in absurd (omega (arith, longer, le))))

    folders : (j : Job B) → HasFolders rows j → HasFolders (with_row rows p e) j
    folders j h = record {
      folder = ap is_directory (short (_ ∷ []) (omega arith)) ∙ h.folder;
      stor = ap is_directory (short (_ ∷ codes "stor" ∷ []) (omega arith)) ∙ h.stor;
      archive =
          ap (λ b. b || list_all (λ a. not (is_some (at (with_row rows p e) (in_job_folder j.number a.0)))) archive_names)
          (list_all-same (λ (a : List ℕ × List ℕ). bytes_eq a.0 (codes "stor") ≡ false) (λ a. is_object_at (with_row rows p e) (in_job_folder j.number a.0)) (λ a. is_object_at rows (in_job_folder j.number a.0)) (λ a never. ap (λ x. is_some (object_in x)) (short (_ ∷ a.0 ∷ []) (omega arith))) archive_names no_stor)
          ∙ ap (λ b. list_all (λ a. is_object_at rows (in_job_folder j.number a.0)) archive_names || b)
          (list_all-same (λ (a : List ℕ × List ℕ). bytes_eq a.0 (codes "stor") ≡ false) (λ a. not (is_some (at (with_row rows p e) (in_job_folder j.number a.0)))) (λ a. not (is_some (at rows (in_job_folder j.number a.0)))) (λ a never. ap (λ x. not (is_some x)) (short (_ ∷ a.0 ∷ []) (omega arith))) archive_names no_stor)
          ∙ h.archive;
    }

    entry_case : (old : (id : List ℕ) (names : List (List ℕ)) (x : Entry B) → at rows (record { area = Jobs; parts = id ∷ names }) ≡ Some x → fits_below (job_named jobs id) names x ≡ true)
        → (id : List ℕ) (names : List (List ℕ)) (x : Entry B) (t : Bool) → is_path p (record { area = Jobs; parts = id ∷ names }) ≡ t → cond t (Some e) (at rows (record { area = Jobs; parts = id ∷ names })) ≡ Some x → fits_below (job_named jobs id) names x ≡ true
    entry_case old id names x true t is =
        let parts : f.id ∷ f.first ∷ f.second ∷ f.more ≡ id ∷ names = ap (λ (q : AccountPath). q.parts) (sym f.is ∙ is_path-exact p (record { area = Jobs; parts = id ∷ names }) t) in
        let same : e ≡ x = ap (λ o. unwrap_or o e) is in
        subst (λ q. fits_below (job_named jobs (head q)) (tail q) x ≡ true) parts (subst (λ y. fits_below (job_named jobs f.id) (f.first ∷ f.second ∷ f.more) y ≡ true) same f.fits)
    entry_case old id names x false t is = old id names x is

    in_folder : LawfulJobs m rows jobs → LawfulJobs m (with_row rows p e) jobs
    in_folder law = record {
      rising = law.rising;
      each = law.each;
      folders = All-weaker (HasFolders rows) (HasFolders (with_row rows p e)) folders jobs law.folders;
      entries = λ id names x is. entry_case law.entries id names x (is_path p (record { area = Jobs; parts = id ∷ names })) refl (sym (at-with_row rows p e (record { area = Jobs; parts = id ∷ names })) ∙ is);
    }

  pub put_whole : (rows : Rows B) → Whole rows → (p : AccountPath) (e : Entry B) → IsPath p → IsTree (with_row rows p e) → ((o : Object B) → object_in (Some e) ≡ Some o → IsBelow m o.number) → Belongs p e → Whole (with_row rows p e)
  put_whole rows w p e path tree below (inl outside) = record {
    rows_are = LawfulRows-with_row m rows w.rows_are p e path tree below;
    jobs_are = LawfulJobs-same m m (omega arith) rows (with_row rows p e) jobs (jobs-with_row rows p e outside) w.jobs_are;
  }
  put_whole rows w p e path tree below (inr f) = record {
    rows_are = LawfulRows-with_row m rows w.rows_are p e path tree below;
    jobs_are = in_folder rows p e f w.jobs_are;
  }

  -- ---- the directories above a path

  -- what stands above a path is settled, or may be a directory
  abbrev pub IsReady : AccountPath → ℕ → Type 0
  IsReady p k = ((rows : Rows B) → Whole rows → is_directory (at rows (front p k)) ≡ true) ⊎ ((moment : ℕ) → Belongs (front p k) (entry.Directory moment))

  -- the first so many are made
  pub record Made (p : AccountPath) (a : ℕ) (rows : Rows B) : Type 0 where
    pub whole : Whole rows
    pub made : (k : ℕ) → k < a → is_directory (at rows (front p k)) ≡ true
    pub clear : (k : ℕ) → k < length p.parts → is_object_at rows (front p k) ≡ false
    pub free : is_directory (at rows p) ≡ false

  module _ (p : AccountPath) (path : IsPath p) (ready : (k : ℕ) → k < length p.parts → IsReady p k) (moment : ℕ) where
    abbrev dir : Entry B
    dir = entry.Directory moment

    any_directory : (t : Bool) (e : Option (Entry B)) → is_directory e ≡ true → is_directory (cond t (Some dir) e) ≡ true
    any_directory true e is = refl
    any_directory false e is = is

    any_object : (t : Bool) (e : Option (Entry B)) → is_some (object_in e) ≡ false → is_some (object_in (cond t (Some dir) e)) ≡ false
    any_object true e is = refl
    any_object false e is = is

    none_else : (t : Bool) (e : Option (Entry B)) → t ≡ false → is_directory e ≡ false → is_directory (cond t (Some dir) e) ≡ false
    none_else true e f is = cc
    none_else false e f is = is

    next_made : (rows : Rows B) (a k : ℕ) → k < suc a → ((k : ℕ) → k < a → is_directory (at rows (front p k)) ≡ true) → is_directory (at rows (front p a)) ≡ true → is_directory (at rows (front p k)) ≡ true
    next_made rows a k less old here = by (cases_lt k a)
      where
        by : (k < a) ⊎ (a ≤ k) → is_directory (at rows (front p k)) ≡ true
        by (inl under) = old k under
        by (inr le) = let same : a ≡ k = omega (arith, less, le) in subst (λ x. is_directory (at rows (front p x)) ≡ true) same here

    is_there : (x : Entry B) → is_some (object_in (Some x)) ≡ false → is_directory (Some x) ≡ true
    is_there (entry.Directory mtime) none = refl
    is_there (entry.Object object) none = cc

    no_object : (o : Object B) → object_in (Some dir) ≡ Some o → IsBelow m o.number
    no_object o is = cc

    parent_made : (rows : Rows B) (a : ℕ) → a < length p.parts → Made p a rows → (d : AccountPath) → parent_of (front p a) ≡ Some d → is_directory (at rows d) ≡ true
    parent_made rows zero less w d is = absurd (none_above p d is)
    parent_made rows (suc a) less w d is = subst (λ q. is_directory (at rows q) ≡ true) (front_above p a d (omega arith) is) (w.made a (omega arith))

    belongs_here : (rows : Rows B) (a : ℕ) → Whole rows → at rows (front p a) ≡ None → IsReady p a → Belongs (front p a) dir
    belongs_here rows a w none (inl settled) = absurd (true≢false (sym (settled rows w) ∙ ap is_directory none))
    belongs_here rows a w none (inr may) = may moment

    step_case : (rows : Rows B) (a : ℕ) → a < length p.parts → Made p a rows → (o : Option (Entry B)) → at rows (front p a) ≡ o → Made p (suc a) (cond (is_some o) rows (with_row rows (front p a) dir))
    step_case rows a less w (Some x) is = record {
      whole = w.whole;
      made = λ k under. next_made rows a k under w.made (ap is_directory is ∙ is_there x (sym (ap (λ o. is_some (object_in o)) is) ∙ w.clear a less));
      clear = w.clear;
      free = w.free;
    }
    step_case rows a less w None is =
        let q : AccountPath = front p a in
        let new : Rows B = with_row rows q dir in
        let tree = IsTree-with_row rows q dir (λ d. refl) w.whole.rows_are.tree (parent_made rows a less w) in
        record {
          whole = put_whole rows w.whole q dir (IsPath-take p a path) tree no_object (belongs_here rows a w.whole is (ready a less));
          made = λ k under. next_made new a k under
              (λ k' under'. ap is_directory (at-with_row rows q dir (front p k')) ∙ any_directory (is_path q (front p k')) (at rows (front p k')) (w.made k' under'))
              (ap is_directory (at-with_row rows q dir q) ∙ ap (λ t. is_directory (cond t (Some dir) (at rows q))) (is_path-self q));
          clear = λ k under. ap (λ x. is_some (object_in x)) (at-with_row rows q dir (front p k)) ∙ any_object (is_path q (front p k)) (at rows (front p k)) (w.clear k under);
          free = ap is_directory (at-with_row rows q dir p) ∙ none_else (is_path q p) (at rows p)
              (other_path q p (λ e. let same : length (take a p.parts) ≡ length p.parts = ap (λ (x : AccountPath). length x.parts) e in let long = length-take-le a p.parts (omega arith) in absurd (omega (arith, same, long, less)))) w.free;
        }

    fold_made : (n a : ℕ) (rows : Rows B) → a + n ≡ length p.parts → Made p a rows → Made p (length p.parts) (fold (with_directory moment) rows (map (front p) (range_with_len a n)))
    fold_made zero a rows whole_length w = let same : a ≡ length p.parts = omega (arith, whole_length) in subst (λ x. Made p x rows) same w
    fold_made (suc n) a rows whole_length w =
        let next : suc a ≡ a + 1 = omega arith in
        fold_made n (a + 1) (with_directory moment rows (front p a)) (omega (arith, whole_length))
        (subst (λ x. Made p x (with_directory moment rows (front p a))) next (step_case rows a (omega (arith, whole_length)) w (at rows (front p a)) refl))

    pub parents_made : (rows : Rows B) → Made p 0 rows → Made p (length p.parts) (with_parents rows p moment)
    parents_made rows w = fold_made (length p.parts) 0 rows (omega arith) w

    last_above : (rows : Rows B) (n : ℕ) → length p.parts ≡ n → 0 < n → Made p n rows → (d : AccountPath) → parent_of p ≡ Some d → is_directory (at rows d) ≡ true
    last_above rows n same some w d is =
        let q : front p (length p.parts - 1) ≡ d = above_case p d (nat_lt 0 (length p.parts)) refl is in
        subst (λ x. is_directory (at rows x) ≡ true) q (w.made (length p.parts - 1) (omega (arith, same, some)))

    -- an object below them
    pub placed_whole : (rows : Rows B) → Made p 0 rows → 0 < length p.parts → (o : Object B) → IsBelow m o.number → Belongs p (entry.Object o) → Whole (with_row (with_parents rows p moment) p (entry.Object o))
    placed_whole rows start some o below belongs =
        let w = parents_made rows start in
        let e : Entry B = entry.Object o in
        let old : Rows B = with_parents rows p moment in
        put_whole old w.whole p e path
        (IsTree-with_row old p e (λ d. absurd (true≢false (sym d ∙ w.free))) w.whole.rows_are.tree (last_above old (length p.parts) refl some w))
        (λ x is. let same : x.number ≡ o.number = sym (ap (λ y. (unwrap_or y o).number) is) in omega (arith, same, below)) belongs
