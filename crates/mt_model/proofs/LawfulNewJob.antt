-- A state with one more job stays lawful.
use Rattle.std.proofs.Common.{◌≡◌, ℕ, ◌+◌, ◌^◌, ◌<◌, ◌≤◌, Bool, true, false, cond, not, ◌&&◌, ◌||◌, List, [], ◌∷◌, ◌++◌, length, map, Option, Some, None, refl, sym, ap, subst, ◌∙◌, arith, true≢false, codes, bytes_eq, suc}
use Rattle.std.specs.Prelude.{All, is_some}
use Rattle.std.specs.Cmp.{nat_cmp_is}
use Rattle.std.specs.List.{AllByRecursion, cons_option, filter_map, find, list_all, list_any}
use Rattle.std.specs.List.Sorted.{IsStrictlySortedBy}
use Rattle.std.specs.Option.{option_map, unwrap_or}
use Rattle.std.specs.Ordering.{nat_cmp}
use Rattle.std.specs.declared.cmp.Ordering.TheVariants.{Less}
use Rattle.std.proofs.lemmas.List.Elements.{All-nil, All-cons, All-head, All-tail, All-push, All-weaker}
use Rattle.std.proofs.lemmas.Slice.Eq.{bytes_eq-Decides}
use Rattle.mt_ident.specs.Identifiers.{identifier_number, identifier_text}
use Rattle.mt_ident.proofs.IdentifierTexts.{identifier_number-written}
use Rattle.mt_path.specs.AccountPath.{AccountPath}
use Rattle.mt_path.specs.declared.area.Area.TheVariants.{Jobs}
use Rattle.mt_types.specs.WellMade.{IsDocument}
use Rattle.mt_types.specs.declared.document.JobDocument.{JobDocument}
use Rattle.mt_types.specs.declared.document.Phase.{Phase}
use Rattle.mt_types.specs.declared.job.Job.{Job}
use Rattle.mt_types.specs.declared.object.Entry.{Entry}
use Rattle.mt_types.specs.declared.object.Entry.TheVariants as entry
use Rattle.mt_types.specs.declared.object.Object.{Object}
use Rattle.mt_model.specs.JobSteps.{archive_names, bodies_of, lacks_asset, new_job, with_folders}
use Rattle.mt_model.specs.Lawful.{HasFolders, LawfulItem, IsBelow, LawfulJob, LawfulJobs, LawfulRows, fits_below, fits_in_folder, job_named}
use Rattle.mt_model.specs.Feed.{items_of}
use Rattle.mt_types.specs.declared.limits.TheConstants.{MOST_COMMANDS}
use Rattle.mt_model.specs.Names.{in_job_folder, job_folder, job_name, job_stor, number_at}
use Rattle.mt_model.specs.Rows.{Rows, IsTree, at, is_path, is_directory, object_at, object_in, with_row}
use Rattle.mt_model.specs.Resolve.{is_object_at}
use Rattle.mt_model.specs.Sound.{Sound}
use Rattle.mt_model.proofs.LawfulJobs.{LawfulJob-later, in_jobs}
use Rattle.mt_model.proofs.LawfulRows.{LawfulRows-with_row}
use Rattle.mt_model.proofs.Maps.{map-append}
use Rattle.mt_model.proofs.RowLaws.{IsTree-with_row, at-with_row, is_path-exact, is_path-self}
use Rattle.mt_model.proofs.Words.{job_folder_is_path, job_stor_is_path}

-- ---- lists and options

none_from : {X : Type 0} (o : Option X) → ((x : X) → o ≡ Some x → ⊥) → o ≡ None
none_from None never = refl
none_from (Some x) never = absurd (never x refl)

find_none : {X : Type 0} (t : X → Bool) (xs : List X) → All (λ x. t x ≡ false) xs → find t xs ≡ None
find_none t [] a = refl
find_none t (x ∷ xs) a = ap (λ b. cond b (Some x) (find t xs)) (All-head (λ x. t x ≡ false) x xs a) ∙ find_none t xs (All-tail (λ x. t x ≡ false) x xs a)

more_case : {X : Type 0} (found more : Option X) (x y : X) (b : Bool) → (found ≡ Some x → more ≡ Some x) → cond b (Some y) found ≡ Some x → cond b (Some y) more ≡ Some x
more_case found more x y true rest e = e
more_case found more x y false rest e = rest e

find_more : {X : Type 0} (t : X → Bool) (xs ys : List X) (x : X) → find t xs ≡ Some x → find t (xs ++ ys) ≡ Some x
find_more t [] ys x e = cc
find_more t (y ∷ xs) ys x e = more_case (find t xs) (find t (xs ++ ys)) x y (t y) (find_more t xs ys x) e

last_case : {X : Type 0} (found more : Option X) (x y : X) (b : Bool) → (found ≡ None → more ≡ Some x) → cond b (Some y) found ≡ None → cond b (Some y) more ≡ Some x
last_case found more x y true rest e = cc
last_case found more x y false rest e = rest e

find_last : {X : Type 0} (t : X → Bool) (xs : List X) (x : X) → t x ≡ true → find t xs ≡ None → find t (xs ++ x ∷ []) ≡ Some x
find_last t [] x h e = ap (λ b. cond b (Some x) None) h
find_last t (y ∷ xs) x h e = last_case (find t xs) (find t (xs ++ x ∷ [])) x y (t y) (find_last t xs x h) e

pub list_all-same : {X : Type 0} (P : X → Type 0) (s t : X → Bool) → ((x : X) → P x → s x ≡ t x) → (xs : List X) → AllByRecursion P xs → list_all s xs ≡ list_all t xs
list_all-same P s t each [] a = refl
list_all-same P s t each (x ∷ xs) a = ap (λ b. b && list_all s xs) (each x a.0) ∙ ap (λ b. t x && b) (list_all-same P s t each xs a.1)

recursion_push : {X : Type 0} (P : X → Type 0) (xs : List X) (y : X) → AllByRecursion P xs → P y → AllByRecursion P (xs ++ y ∷ [])
recursion_push P [] y a p = (p, tt)
recursion_push P (x ∷ xs) y a p = (a.0, recursion_push P xs y a.1 p)

pub sorted_push : (xs : List ℕ) (y : ℕ) → IsStrictlySortedBy nat_cmp xs → All (λ x. x < y) xs → IsStrictlySortedBy nat_cmp (xs ++ y ∷ [])
unfolding IsStrictlySortedBy
sorted_push [] y s a = (tt, tt)
sorted_push (x ∷ xs) y s a = (
  recursion_push (λ z. nat_cmp x z ≡ Less) xs y s.0 (sym (nat_cmp_is x y Less (All-head (λ z. z < y) x xs a))),
  sorted_push xs y s.1 (All-tail (λ z. z < y) x xs a),
)

pub all_numbers : {X : Type 0} (f : X → ℕ) (y : ℕ) (xs : List X) → All (λ x. f x < y) xs → All (λ z. z < y) (map f xs)
all_numbers f y [] a = All-nil (λ z. z < y)
all_numbers f y (x ∷ xs) a = All-cons (λ z. z < y) (f x) (map f xs) (All-head (λ x. f x < y) x xs a) (all_numbers f y xs (All-tail (λ x. f x < y) x xs a))

-- ---- assets

pub or_none : (a b : Bool) → (a || b) ≡ false → (a ≡ false) × (b ≡ false)
or_none true b e = cc
or_none false b e = (refl, e)

module _ {B : Type 0} (rows : Rows B) where
  asset_case : (o : Option (Object B)) → not (is_some o) ≡ false → (xs : List B) (n : ℕ) → length xs ≡ n → length (cons_option (option_map (λ x. x.body) o) xs) ≡ suc n
  asset_case None e xs n same = cc
  asset_case (Some x) e xs n same = ap suc same

  bodies_here : (names : List AccountPath) → list_any (λ name. not (is_object_at rows name)) names ≡ false → length (filter_map (λ name. option_map (λ x. x.body) (object_at rows name)) names) ≡ length names
  bodies_here [] e = refl
  bodies_here (name ∷ names) e =
      let both = or_none _ _ e in
      asset_case (object_at rows name) both.0 (filter_map (λ q. option_map (λ x. x.body) (object_at rows q)) names) (length names) (bodies_here names both.1)

  -- where no asset is missing each has a body
  all_assets : (ps : List Phase) → list_any (lacks_asset rows) ps ≡ false → map length (map (bodies_of rows) ps) ≡ map (λ p. length p.assets) ps
  all_assets [] e = refl
  all_assets (p ∷ ps) e =
      let both = or_none _ _ e in
      ap (λ n. n ∷ map length (map (bodies_of rows) ps)) (bodies_here p.assets both.0) ∙ ap (λ more. length p.assets ∷ more) (all_assets ps both.1)

-- ---- names of jobs

-- a job's name tells its number
pub name_injective : (m n : ℕ) → m < 2 ^ 62 → n < 2 ^ 62 → job_name m ≡ job_name n → m ≡ n
name_injective m n small small' same =
    let first : identifier_number 2 (identifier_text 2 m) ≡ Some m = identifier_number-written 2 m (identifier_text 2 m) (record { known = (omega arith, omega arith); small = small; written = refl }) in
    let second : identifier_number 2 (identifier_text 2 n) ≡ Some n = identifier_number-written 2 n (identifier_text 2 n) (record { known = (omega arith, omega arith); small = small'; written = refl }) in
    ap (λ o. unwrap_or o m) (sym first ∙ ap (identifier_number 2) same ∙ second)

other_case : (p q : AccountPath) (b : Bool) → is_path p q ≡ b → (p ≡ q → ⊥) → b ≡ false
other_case p q true t never = absurd (never (is_path-exact p q t))
other_case p q false t never = refl

-- paths that differ are two
pub other_path : (p q : AccountPath) → (p ≡ q → ⊥) → is_path p q ≡ false
other_path p q never = other_case p q (is_path p q) refl never

abbrev head : List (List ℕ) → List ℕ
head [] = []
head (x ∷ xs) = x

abbrev tail : List (List ℕ) → List (List ℕ)
tail [] = []
tail (x ∷ xs) = xs

pub sorted_nil : IsStrictlySortedBy nat_cmp []
unfolding IsStrictlySortedBy
sorted_nil = tt

module _ {B : Type 0} (count : ℕ) (rows : Rows B) (jobs : List (Job B)) (law : LawfulRows count rows) (lawful : LawfulJobs count rows jobs) (room : count < MOST_COMMANDS) (document : JobDocument) (moment : ℕ) (is_document : IsDocument document) (none_lacks : list_any (lacks_asset rows) document.phases ≡ false) where
  abbrev n : ℕ
  n = number_at count 0

  abbrev id : List ℕ
  id = job_name n

  abbrev directory : Entry B
  directory = entry.Directory moment

  abbrev one : Rows B
  one = with_row rows (job_folder n) directory

  abbrev new : Rows B
  new = with_folders rows n moment

  abbrev job : Job B
  job = new_job rows n document moment

  -- ---- the new name

  small : n < 2 ^ 62
  small = omega arith

  unnamed_case : (j : Job B) → LawfulJob count j → (b : Bool) → bytes_eq (job_name j.number) id ≡ b → b ≡ false
  unnamed_case j l true t =
      let same : job_name j.number ≡ job_name n = (bytes_eq-Decides (job_name j.number) id).0 t in
      let under : IsBelow count j.number = l.number.below in
      let number : j.number ≡ n = name_injective j.number n (omega arith) small same in
      absurd (omega arith)
  unnamed_case j l false t = refl

  -- no job has it
  fresh : job_named jobs id ≡ None
  fresh = find_none (λ j. bytes_eq (job_name j.number) id) jobs
      (All-weaker (LawfulJob count) (λ j. bytes_eq (job_name j.number) id ≡ false) (λ j l. unnamed_case j l (bytes_eq (job_name j.number) id) refl) jobs lawful.each)

  -- and nothing stands below it
  pub unused : (names : List (List ℕ)) → in_jobs rows (id ∷ names) ≡ None
  unused names = none_from (in_jobs rows (id ∷ names)) (λ e is.
      let fits : fits_below (job_named jobs id) names e ≡ true = lawful.entries id names e is in
      true≢false (sym fits ∙ ap (λ o. fits_below o names e) fresh))

  -- ---- the rows

  folder_tree : IsTree one
  folder_tree = IsTree-with_row rows (job_folder n) directory (λ d. refl) law.tree
      (λ d is. ap (λ o. is_directory (at rows (unwrap_or o d))) (sym is) ∙ law.tree.roots Jobs)

  folder_there : is_directory (at one (job_folder n)) ≡ true
  folder_there =
      ap is_directory (at-with_row rows (job_folder n) directory (job_folder n))
      ∙ ap (λ b. is_directory (cond b (Some directory) (at rows (job_folder n)))) (is_path-self (job_folder n))

  stor_tree : IsTree new
  stor_tree = IsTree-with_row one (job_stor n) directory (λ d. refl) folder_tree
      (λ d is. ap (λ o. is_directory (at one (unwrap_or o d))) (sym is) ∙ folder_there)

  no_object : (m : ℕ) (o : Object B) → object_in (Some directory) ≡ Some o → IsBelow m o.number
  no_object m o e = cc

  pub LawfulRows-new_job : LawfulRows count new
  LawfulRows-new_job =
      LawfulRows-with_row count one (LawfulRows-with_row count rows law (job_folder n) directory (job_folder_is_path n) folder_tree (no_object count))
      (job_stor n) directory (job_stor_is_path n) stor_tree (no_object count)

  -- what stands in the area of jobs now
  stands : (names : List (List ℕ)) → let q : AccountPath = record { area = Jobs; parts = names } in in_jobs new names ≡ cond (is_path (job_stor n) q) (Some directory) (cond (is_path (job_folder n) q) (Some directory) (in_jobs rows names))
  stands names =
      let q : AccountPath = record { area = Jobs; parts = names } in
      at-with_row one (job_stor n) directory q
      ∙ ap (cond (is_path (job_stor n) q) (Some directory)) (at-with_row rows (job_folder n) directory q)

  same_elsewhere : (names : List (List ℕ)) → let q : AccountPath = record { area = Jobs; parts = names } in is_path (job_stor n) q ≡ false → is_path (job_folder n) q ≡ false → in_jobs new names ≡ in_jobs rows names
  same_elsewhere names a b =
      let q : AccountPath = record { area = Jobs; parts = names } in
      stands names
      ∙ ap (λ t. cond t (Some directory) (cond (is_path (job_folder n) q) (Some directory) (in_jobs rows names))) a
      ∙ ap (λ t. cond t (Some directory) (in_jobs rows names)) b

  directory_case : (a b : Bool) (e : Option (Entry B)) → is_directory e ≡ true → is_directory (cond a (Some directory) (cond b (Some directory) e)) ≡ true
  directory_case true b e d = refl
  directory_case false true e d = refl
  directory_case false false e d = d

  directory_stays : (names : List (List ℕ)) → is_directory (in_jobs rows names) ≡ true → is_directory (in_jobs new names) ≡ true
  directory_stays names d =
      let q : AccountPath = record { area = Jobs; parts = names } in
      ap is_directory (stands names) ∙ directory_case (is_path (job_stor n) q) (is_path (job_folder n) q) (in_jobs rows names) d

  -- ---- the folders of the earlier jobs

  no_stor : (name : List ℕ) → bytes_eq name (codes "stor") ≡ false → name ≡ codes "stor" → ⊥
  no_stor name never e = true≢false (sym ((bytes_eq-Decides name (codes "stor")).1 e) ∙ never)

  abbrev second : List (List ℕ) → List ℕ
  second [] = []
  second (x ∷ []) = []
  second (x ∷ y ∷ zs) = y

  archive_stays : (m : ℕ) (name : List ℕ) → bytes_eq name (codes "stor") ≡ false → in_jobs new (job_name m ∷ name ∷ []) ≡ in_jobs rows (job_name m ∷ name ∷ [])
  archive_stays m name never =
      let q : AccountPath = in_job_folder m name in
      same_elsewhere (job_name m ∷ name ∷ [])
      (other_path (job_stor n) q (λ e. no_stor name never (sym (ap (λ (p : AccountPath). second p.parts) e))))
      (other_path (job_folder n) q (λ e. let longer : 1 ≡ 2 = ap (λ (p : AccountPath). length p.parts) e in absurd (omega arith)))

  no_archive_is_stor : AllByRecursion (λ (a : List ℕ × List ℕ). bytes_eq a.0 (codes "stor") ≡ false) archive_names
  no_archive_is_stor = (refl, (refl, (refl, (refl, (refl, tt)))))

  archive_same : (m : ℕ) (g : Option (Entry B) → Bool) → list_all (λ a. g (in_jobs new (job_name m ∷ a.0 ∷ []))) archive_names ≡ list_all (λ a. g (in_jobs rows (job_name m ∷ a.0 ∷ []))) archive_names
  archive_same m g = list_all-same (λ a. bytes_eq a.0 (codes "stor") ≡ false) (λ a. g (in_jobs new (job_name m ∷ a.0 ∷ []))) (λ a. g (in_jobs rows (job_name m ∷ a.0 ∷ [])))
      (λ a never. ap g (archive_stays m a.0 never)) archive_names no_archive_is_stor

  folders_stay : (j : Job B) → HasFolders rows j → HasFolders new j
  folders_stay j h = record {
    folder = directory_stays (job_name j.number ∷ []) h.folder;
    stor = directory_stays (job_name j.number ∷ codes "stor" ∷ []) h.stor;
    archive =
        ap (λ b. b || list_all (λ a. not (is_some (in_jobs new (job_name j.number ∷ a.0 ∷ [])))) archive_names) (archive_same j.number (λ e. is_some (object_in e)))
        ∙ ap (λ b. list_all (λ a. is_some (object_in (in_jobs rows (job_name j.number ∷ a.0 ∷ [])))) archive_names || b) (archive_same j.number (λ e. not (is_some e)))
        ∙ h.archive;
  }

  -- ---- the folders of the new one

  made : (a b : Bool) (e : Option (Entry B)) → b ≡ true → is_directory (cond a (Some directory) (cond b (Some directory) e)) ≡ true
  made true b e t = refl
  made false true e t = refl
  made false false e t = cc

  or_right : (a b : Bool) → b ≡ true → (a || b) ≡ true
  or_right true b e = refl
  or_right false b e = e

  none_stand : list_all (λ a. not (is_some (in_jobs rows (id ∷ a.0 ∷ [])))) archive_names ≡ true
  none_stand = list_all-same (λ (a : List ℕ × List ℕ). bytes_eq a.0 (codes "stor") ≡ false) (λ a. not (is_some (in_jobs rows (id ∷ a.0 ∷ [])))) (λ a. true)
      (λ a never. ap (λ e. not (is_some e)) (unused (a.0 ∷ []))) archive_names no_archive_is_stor

  folders_new : HasFolders new job
  folders_new = record {
    folder = ap is_directory (stands (id ∷ [])) ∙ made (is_path (job_stor n) (job_folder n)) (is_path (job_folder n) (job_folder n)) (in_jobs rows (id ∷ [])) (is_path-self (job_folder n));
    stor = ap is_directory (stands (id ∷ codes "stor" ∷ [])) ∙ ap (λ b. is_directory (cond b (Some directory) (cond (is_path (job_folder n) (job_stor n)) (Some directory) (in_jobs rows (id ∷ codes "stor" ∷ []))))) (is_path-self (job_stor n));
    archive = or_right _ _ (archive_same n (λ e. not (is_some e)) ∙ none_stand);
  }

  -- ---- what stands in the area of jobs

  named_new : job_named (jobs ++ job ∷ []) id ≡ Some job
  named_new = find_last (λ j. bytes_eq (job_name j.number) id) jobs job ((bytes_eq-Decides id id).1 refl) fresh

  fits_old : (name : List ℕ) (names : List (List ℕ)) (e : Entry B) (o : Option (Job B)) → job_named jobs name ≡ o → fits_below o names e ≡ true → fits_below (job_named (jobs ++ job ∷ []) name) names e ≡ true
  fits_old name names e None is fits = absurd (true≢false (sym fits))
  fits_old name names e (Some j) is fits = ap (λ x. fits_below x names e) (find_more (λ k. bytes_eq (job_name k.number) name) jobs (job ∷ []) j is) ∙ fits

  entry_inside : (name : List ℕ) (names : List (List ℕ)) (e : Entry B) (rest : List (List ℕ)) → id ∷ rest ≡ name ∷ names → Some directory ≡ Some e → fits_in_folder job rest directory ≡ true → fits_below (job_named (jobs ++ job ∷ []) name) names e ≡ true
  entry_inside name names e rest same is fits =
      ap (λ x. fits_below (job_named (jobs ++ job ∷ []) (head x)) (tail x) (unwrap_or (Some e) e)) (sym same)
      ∙ ap (λ y. fits_below (job_named (jobs ++ job ∷ []) id) rest (unwrap_or y e)) (sym is)
      ∙ ap (λ o. fits_below o rest directory) named_new
      ∙ fits

  entry_case : (name : List ℕ) (names : List (List ℕ)) (e : Entry B) (a b : Bool)
      → is_path (job_stor n) (record { area = Jobs; parts = name ∷ names }) ≡ a → is_path (job_folder n) (record { area = Jobs; parts = name ∷ names }) ≡ b
      → cond a (Some directory) (cond b (Some directory) (in_jobs rows (name ∷ names))) ≡ Some e → fits_below (job_named (jobs ++ job ∷ []) name) names e ≡ true
  entry_case name names e true b s f is = entry_inside name names e (codes "stor" ∷ []) (ap (λ (p : AccountPath). p.parts) (is_path-exact (job_stor n) (record { area = Jobs; parts = name ∷ names }) s)) is refl
  entry_case name names e false true s f is = entry_inside name names e [] (ap (λ (p : AccountPath). p.parts) (is_path-exact (job_folder n) (record { area = Jobs; parts = name ∷ names }) f)) is refl
  entry_case name names e false false s f is = fits_old name names e (job_named jobs name) refl (lawful.entries name names e is)

  entries : (name : List ℕ) (names : List (List ℕ)) (e : Entry B) → in_jobs new (name ∷ names) ≡ Some e → fits_below (job_named (jobs ++ job ∷ []) name) names e ≡ true
  entries name names e is =
      let q : AccountPath = record { area = Jobs; parts = name ∷ names } in
      entry_case name names e (is_path (job_stor n) q) (is_path (job_folder n) q) refl refl (sym (stands (name ∷ names)) ∙ is)

  -- ---- the jobs

  sound_new : Sound job
  sound_new = record {
    tasks = λ k e is. cc;
    once = λ k e is. cc;
    rising = sorted_nil;
    finished = λ some. cc;
    cancelled = λ e. cc;
  }

  lawful_new : LawfulJob (count + 1) job
  lawful_new = record {
    number = record { first = omega arith; below = omega arith };
    positions = All-nil (λ e. e.position < count + 1);
    few = omega arith;
    missing = tt;
    few_each = All-nil (λ e. length (items_of e.outcome) ≤ 4095);
    inputs = All-nil LawfulItem;
    outputs = All-nil (λ e. All LawfulItem (items_of e.outcome));
    document = is_document;
    assets = all_assets rows document.phases none_lacks;
    sound = sound_new;
  }

  pub LawfulJobs-new_job : LawfulJobs (count + 1) new (jobs ++ job ∷ [])
  LawfulJobs-new_job = record {
    rising = subst (IsStrictlySortedBy nat_cmp) (sym (map-append (λ j. j.number) jobs (job ∷ [])))
        (sorted_push (map (λ j. j.number) jobs) n lawful.rising (all_numbers (λ j. j.number) n jobs
        (All-weaker (LawfulJob count) (λ j. j.number < n) (λ j l. let under : IsBelow count j.number = l.number.below in omega arith) jobs lawful.each)));
    each = All-push (LawfulJob (count + 1)) jobs job (All-weaker (LawfulJob count) (LawfulJob (count + 1)) (LawfulJob-later count (count + 1) (omega arith)) jobs lawful.each) lawful_new;
    folders = All-push (HasFolders new) jobs job (All-weaker (HasFolders rows) (HasFolders new) folders_stay jobs lawful.folders) folders_new;
    entries = entries;
  }
