-- A job that is closed leaves a lawful state: it is done, and its archive stands in its folder.
use Rattle.std.proofs.Common.{◌≡◌, ℕ, ◌+◌, ◌==◌, ◌<◌, ◌≤◌, Bool, true, false, cond, not, ◌&&◌, ◌||◌, nat_lt, List, [], ◌∷◌, ◌++◌, length, length-append, Option, Some, None, refl, sym, ap, subst, ◌∙◌, arith, true≢false, codes, bytes_eq, ◌⊎◌, inl, inr, eq-eqb}
use Rattle.std.specs.Prelude.{All, is_some}
use Rattle.std.specs.List.{AllByRecursion, find, list_all, list_any}
use Rattle.std.specs.Option.{option_map, unwrap_or}
use Rattle.std.proofs.lemmas.Bool.{eqb-true}
use Rattle.std.proofs.lemmas.List.Elements.{All-nil, All-cons, All-head, All-tail, All-weaker}
use Rattle.std.proofs.lemmas.Slice.Eq.{bytes_eq-Decides}
use Rattle.std.proofs.lemmas.Str.{IsUtf8-from_ascii}
use Rattle.mt_ident.proofs.IdentifierTexts.{length-identifier_text}
use Rattle.mt_path.specs.AccountPath.{AccountPath, IsComponent, IsPath, is_barred, slash}
use Rattle.mt_path.specs.declared.area.Area.TheVariants.{Jobs}
use Rattle.mt_types.specs.declared.job.Job.{Job}
use Rattle.mt_types.specs.declared.limits.TheConstants.{MOST_COMMANDS}
use Rattle.mt_types.specs.declared.object.Entry.{Entry}
use Rattle.mt_types.specs.declared.object.Entry.TheVariants as entry
use Rattle.mt_types.specs.declared.object.Object.{Object}
use Rattle.mt_model.specs.JobSteps.{archive_names, archive_object, done_at, with_archive_from}
use Rattle.mt_model.specs.Lawful.{HasFolders, IsBelow, LawfulJob, LawfulJobs, LawfulRows, fits_below, fits_in_folder, is_archive_name, job_named}
use Rattle.mt_model.specs.Names.{in_job_folder, job_folder, job_name, job_stor, number_at}
use Rattle.mt_model.specs.Resolve.{is_object_at}
use Rattle.mt_model.specs.Rows.{Rows, at, is_directory, is_path, object_in, with_row}
use Rattle.mt_model.specs.State.{job_at, with_job}
use Rattle.mt_model.proofs.LawfulEnds.{KeepsJob-done}
use Rattle.mt_model.proofs.LawfulJobs.{LawfulJob-later, LawfulJobs-changed, in_jobs, named-changed}
use Rattle.mt_model.proofs.LawfulNewJob.{list_all-same, name_injective, other_path}
use Rattle.mt_model.proofs.LawfulRows.{LawfulRows-later, LawfulRows-with_row}
use Rattle.mt_model.proofs.RowLaws.{IsTree-with_row, at-with_row, is_path-exact, is_path-self}
use Rattle.mt_model.proofs.Standing.{number_at_job}
use Rattle.mt_model.proofs.Words.{IsAscii-from_test, name_is_component}

-- ---- the names of an archive

pub word : (name : List ℕ) → 3 ≤ length name → length name ≤ 8 → list_all (λ b. nat_lt b 128) name ≡ true → list_any is_barred name ≡ false → IsComponent name
word name least most ascii clear = record {
  some = omega arith;
  short = omega arith;
  text = IsUtf8-from_ascii name (IsAscii-from_test name ascii);
  clear = clear;
  no_dot = λ e. let short : length name ≡ 1 = ap length e in absurd (omega arith);
  no_dots = λ e. let short : length name ≡ 2 = ap length e in absurd (omega arith);
}

in_folder : (number : ℕ) (name : List ℕ) → 3 ≤ length name → length name ≤ 8 → list_all (λ b. nat_lt b 128) name ≡ true → list_any is_barred name ≡ false → IsPath (in_job_folder number name)
in_folder number name least most ascii clear =
    let long : length (job_name number) ≡ 36 = length-identifier_text 2 number in
    record {
      components = All-cons IsComponent (job_name number) (name ∷ []) (name_is_component number) (All-cons IsComponent name [] (word name least most ascii clear) (All-nil IsComponent));
      short = omega (arith, long, most, length-append (job_name number) (slash ∷ name ++ []), length-append name []);
    }

archive_paths : (number : ℕ) → AllByRecursion (λ (a : List ℕ × List ℕ). IsPath (in_job_folder number a.0)) archive_names
archive_paths number = (
  in_folder number (codes "err.txt") (omega arith) (omega arith) refl refl,
  (
    in_folder number (codes "fail.txt") (omega arith) (omega arith) refl refl,
    (
      in_folder number (codes "in.txt") (omega arith) (omega arith) refl refl,
      (
        in_folder number (codes "job.json") (omega arith) (omega arith) refl refl,
        (in_folder number (codes "out.txt") (omega arith) (omega arith) refl refl, tt),
      ),
    ),
  ),
)

pub no_stor : AllByRecursion (λ (a : List ℕ × List ℕ). bytes_eq a.0 (codes "stor") ≡ false) archive_names
no_stor = (refl, (refl, (refl, (refl, (refl, tt)))))

each_from : {X : Type 0} (P Q : X → Type 0) → ((x : X) → P x → Q x) → (xs : List X) → AllByRecursion P xs → AllByRecursion Q xs
each_from P Q f [] all = tt
each_from P Q f (x ∷ xs) all = (f x all.0, each_from P Q f xs all.1)

all_of : {X : Type 0} (Q : X → Type 0) → ((x : X) → Q x) → (xs : List X) → AllByRecursion Q xs
all_of Q f [] = tt
all_of Q f (x ∷ xs) = (f x, all_of Q f xs)

list_all_true : {X : Type 0} (t : X → Bool) (xs : List X) → AllByRecursion (λ x. t x ≡ true) xs → list_all t xs ≡ true
list_all_true t [] all = refl
list_all_true t (x ∷ xs) all = ap (λ b. b && list_all t xs) all.0 ∙ list_all_true t xs all.1

pub or_left : (a b : Bool) → a ≡ true → (a || b) ≡ true
or_left true b e = refl
or_left false b e = cc

pub or_right : (a b : Bool) → b ≡ true → (a || b) ≡ true
or_right true b e = refl
or_right false b e = e

find_same : {X : Type 0} (P : X → Type 0) (s t : X → Bool) → ((x : X) → P x → s x ≡ t x) → (xs : List X) → All P xs → find s xs ≡ find t xs
find_same P s t each [] a = refl
find_same P s t each (x ∷ xs) a =
    ap (λ b. cond b (Some x) (find s xs)) (each x (All-head P x xs a)) ∙ ap (λ o. cond (t x) (Some x) o) (find_same P s t each xs (All-tail P x xs a))

abbrev pub head : List (List ℕ) → List ℕ
head [] = []
head (x ∷ xs) = x

abbrev pub second : List (List ℕ) → List ℕ
second [] = []
second (x ∷ []) = []
second (x ∷ y ∷ zs) = y

folder_apart : (n : ℕ) (name : List ℕ) (m : ℕ) → is_path (in_job_folder n name) (job_folder m) ≡ false
folder_apart n name m = other_path (in_job_folder n name) (job_folder m) (λ e. let longer : 2 ≡ 1 = ap (λ (p : AccountPath). length p.parts) e in absurd (omega arith))

module _ {B : Type 0} (n position moment : ℕ) where
  -- the rows with what is left of the archive
  abbrev laid : ℕ → List (List ℕ × List ℕ) → List B → Rows B → Rows B
  laid index ns bs rows = with_archive_from index rows n position moment ns bs

  abbrev object_of : ℕ → List ℕ × List ℕ → B → Object B
  object_of index a b = archive_object (number_at position index) a.1 b moment

  abbrev one : ℕ → List ℕ × List ℕ → B → Rows B → Rows B
  one index a b rows = with_row rows (in_job_folder n a.0) (entry.Object (object_of index a b))

  at_one : (index : ℕ) (a : List ℕ × List ℕ) (b : B) (rows : Rows B) (q : AccountPath) → at (one index a b rows) q ≡ cond (is_path (in_job_folder n a.0) q) (Some (entry.Object (object_of index a b))) (at rows q)
  at_one index a b rows q = at-with_row rows (in_job_folder n a.0) (entry.Object (object_of index a b)) q

  -- what stands at another path stays
  stays : (index : ℕ) (ns : List (List ℕ × List ℕ)) (bs : List B) (rows : Rows B) (q : AccountPath) → AllByRecursion (λ a. is_path (in_job_folder n a.0) q ≡ false) ns → at (laid index ns bs rows) q ≡ at rows q
  stays index [] bs rows q none = refl
  stays index (a ∷ ns) [] rows q none = refl
  stays index (a ∷ ns) (b ∷ bs) rows q none =
      stays (index + 1) ns bs (one index a b rows) q none.1
      ∙ at_one index a b rows q
      ∙ ap (λ t. cond t (Some (entry.Object (object_of index a b))) (at rows q)) none.0

  object_case : (t : Bool) (o : Object B) (e : Option (Entry B)) → is_some (object_in e) ≡ true → is_some (object_in (cond t (Some (entry.Object o)) e)) ≡ true
  object_case true o e is = refl
  object_case false o e is = is

  -- an object stays one
  kept : (index : ℕ) (ns : List (List ℕ × List ℕ)) (bs : List B) (rows : Rows B) (q : AccountPath) → is_object_at rows q ≡ true → is_object_at (laid index ns bs rows) q ≡ true
  kept index [] bs rows q is = is
  kept index (a ∷ ns) [] rows q is = is
  kept index (a ∷ ns) (b ∷ bs) rows q is =
      kept (index + 1) ns bs (one index a b rows) q
      (ap (λ e. is_some (object_in e)) (at_one index a b rows q) ∙ object_case (is_path (in_job_folder n a.0) q) (object_of index a b) (at rows q) is)

  -- the objects stand
  objects : (index : ℕ) (ns : List (List ℕ × List ℕ)) (bs : List B) (rows : Rows B) → length ns ≤ length bs → AllByRecursion (λ a. is_object_at (laid index ns bs rows) (in_job_folder n a.0) ≡ true) ns
  objects index [] bs rows le = tt
  objects index (a ∷ ns) [] rows le = absurd (omega arith)
  objects index (a ∷ ns) (b ∷ bs) rows le = (
    kept (index + 1) ns bs (one index a b rows) (in_job_folder n a.0)
        (ap (λ e. is_some (object_in e)) (at_one index a b rows (in_job_folder n a.0)) ∙ ap (λ t. is_some (object_in (cond t (Some (entry.Object (object_of index a b))) (at rows (in_job_folder n a.0))))) (is_path-self (in_job_folder n a.0))),
    objects (index + 1) ns bs (one index a b rows) (omega arith),
  )

  -- a path where an object of the archive was put
  record IsNew (ns : List (List ℕ × List ℕ)) (rows : Rows B) (q : AccountPath) : Type 0 where
    name : List ℕ
    object : Object B
    here : in_job_folder n name ≡ q
    there : at rows q ≡ Some (entry.Object object)
    named : list_any (λ a. bytes_eq a.0 name) ns ≡ true

  new_case : (index : ℕ) (a : List ℕ × List ℕ) (b : B) (ns : List (List ℕ × List ℕ)) (rows last : Rows B) (q : AccountPath) (t : Bool) → is_path (in_job_folder n a.0) q ≡ t → at last q ≡ cond t (Some (entry.Object (object_of index a b))) (at rows q)
      → (at last q ≡ at rows q) ⊎ IsNew (a ∷ ns) last q
  new_case index a b ns rows last q true is same =
      inr (record { name = a.0; object = object_of index a b; here = is_path-exact (in_job_folder n a.0) q is; there = same; named = or_left (bytes_eq a.0 a.0) (list_any (λ x. bytes_eq x.0 a.0) ns) ((bytes_eq-Decides a.0 a.0).1 refl) })
  new_case index a b ns rows last q false is same = inl same

  either : (index : ℕ) (ns : List (List ℕ × List ℕ)) (bs : List B) (rows : Rows B) (q : AccountPath) → (at (laid index ns bs rows) q ≡ at rows q) ⊎ IsNew ns (laid index ns bs rows) q
  either index [] bs rows q = inl refl
  either index (a ∷ ns) [] rows q = inl refl
  either index (a ∷ ns) (b ∷ bs) rows q = by (either (index + 1) ns bs (one index a b rows) q)
    where
      by : (at (laid (index + 1) ns bs (one index a b rows)) q ≡ at (one index a b rows) q) ⊎ IsNew ns (laid (index + 1) ns bs (one index a b rows)) q
          → (at (laid (index + 1) ns bs (one index a b rows)) q ≡ at rows q) ⊎ IsNew (a ∷ ns) (laid (index + 1) ns bs (one index a b rows)) q
      by (inl same) = new_case index a b ns rows (laid (index + 1) ns bs (one index a b rows)) q (is_path (in_job_folder n a.0) q) refl (same ∙ at_one index a b rows q)
      by (inr f) = inr (record { name = f.name; object = f.object; here = f.here; there = f.there; named = or_right (bytes_eq a.0 f.name) (list_any (λ x. bytes_eq x.0 f.name) ns) f.named })

  -- ---- the rows

  not_case : (t : Bool) (o : Object B) (e : Option (Entry B)) → is_directory e ≡ false → is_directory (cond t (Some (entry.Object o)) e) ≡ false
  not_case true o e is = refl
  not_case false o e is = is

  object_below : (index : ℕ) (a : List ℕ × List ℕ) (b : B) → index < 4096 → (o : Object B) → object_in (Some (entry.Object (object_of index a b))) ≡ Some o → IsBelow (position + 1) o.number
  object_below index a b less o is =
      let same : o.number ≡ number_at position index = sym (ap (λ x. (unwrap_or x (object_of index a b)).number) is) in
      omega (arith, same, less)

  lawful_laid : (index : ℕ) (ns : List (List ℕ × List ℕ)) (bs : List B) (rows : Rows B) → index + length ns ≤ 4096 → LawfulRows (position + 1) rows → is_directory (at rows (job_folder n)) ≡ true
      → AllByRecursion (λ a. IsPath (in_job_folder n a.0)) ns → AllByRecursion (λ a. is_directory (at rows (in_job_folder n a.0)) ≡ false) ns → LawfulRows (position + 1) (laid index ns bs rows)
  lawful_laid index [] bs rows few law folder paths free = law
  lawful_laid index (a ∷ ns) [] rows few law folder paths free = law
  lawful_laid index (a ∷ ns) (b ∷ bs) rows few law folder paths free =
      let p : AccountPath = in_job_folder n a.0 in
      let e : Entry B = entry.Object (object_of index a b) in
      let tree = IsTree-with_row rows p e (λ d. absurd (true≢false (sym d ∙ free.0))) law.tree (λ d is. ap (λ o. is_directory (at rows (unwrap_or o d))) (sym is) ∙ folder) in
      let next = LawfulRows-with_row (position + 1) rows law p e paths.0 tree (object_below index a b (omega arith)) in
      lawful_laid (index + 1) ns bs (one index a b rows) (omega arith) next
      (ap is_directory (at_one index a b rows (job_folder n)) ∙ ap (λ t. is_directory (cond t (Some e) (at rows (job_folder n)))) (folder_apart n a.0 n) ∙ folder)
      paths.1
      (each_from (λ x. is_directory (at rows (in_job_folder n x.0)) ≡ false) (λ x. is_directory (at (one index a b rows) (in_job_folder n x.0)) ≡ false)
      (λ x is. ap is_directory (at_one index a b rows (in_job_folder n x.0)) ∙ not_case (is_path p (in_job_folder n x.0)) (object_of index a b) (at rows (in_job_folder n x.0)) is) ns free.1)

-- ---- a job that is closed

clash : (s a d : Bool) → s ≡ false → ((s && true) || (a && false && d)) ≡ true → ⊥
clash true a d e f = cc
clash false true true e f = cc
clash false true false e f = cc
clash false false true e f = cc
clash false false false e f = cc

-- what holds of all jobs holds of the one that is found
pub job_in : {B : Type 0} (n : ℕ) (xs : List (Job B)) (j : Job B) → job_at xs n ≡ Some j → (P : Job B → Type 0) → All P xs → P j
job_in n [] j is P a = cc
job_in n (x ∷ xs) j is P a = by (x.number == n) is (λ more. job_in n xs j more P (All-tail P x xs a))
  where
    by : (b : Bool) → cond b (Some x) (job_at xs n) ≡ Some j → (job_at xs n ≡ Some j → P j) → P j
    by true at more = subst P (ap (λ o. unwrap_or o x) at) (All-head P x xs a)
    by false at more = more at

module _ {B : Type 0} (count : ℕ) (rows : Rows B) (jobs : List (Job B)) (law : LawfulRows count rows) (lawful : LawfulJobs count rows jobs) (room : count < MOST_COMMANDS)
    (n : ℕ) (j : Job B) (found_j : job_at jobs n ≡ Some j) where
  pub number : j.number ≡ n
  number = number_at_job n jobs j found_j

  below : IsBelow count n
  below = subst (IsBelow count) number (job_in n jobs j found_j (LawfulJob count) lawful.each).number.below

  name_case : (x : Job B) → LawfulJob count x → (b c : Bool) → bytes_eq (job_name x.number) (job_name n) ≡ b → x.number == n ≡ c → b ≡ c
  name_case x l true true t u = refl
  name_case x l true false t u =
      let under : IsBelow count x.number = l.number.below in
      let here : IsBelow count n = below in
      let same : x.number ≡ n = name_injective x.number n (omega arith) (omega arith) ((bytes_eq-Decides (job_name x.number) (job_name n)).0 t) in
      absurd (true≢false (sym (eq-eqb x.number n same) ∙ u))
  name_case x l false true t u = absurd (true≢false (sym ((bytes_eq-Decides (job_name x.number) (job_name n)).1 (ap job_name (eqb-true x.number n u))) ∙ t))
  name_case x l false false t u = refl

  pub named : job_named jobs (job_name n) ≡ Some j
  named = find_same (LawfulJob count) (λ x. bytes_eq (job_name x.number) (job_name n)) (λ x. x.number == n)
      (λ x l. name_case x l (bytes_eq (job_name x.number) (job_name n)) (x.number == n) refl refl) jobs lawful.each ∙ found_j

module _ {B : Type 0} (count : ℕ) (rows : Rows B) (jobs : List (Job B)) (law : LawfulRows count rows) (lawful : LawfulJobs count rows jobs) (room : count < MOST_COMMANDS)
    (n moment : ℕ) (cancelled : Bool) (bodies : List B) (five : length bodies ≡ 5) (j : Job B) (found_j : job_at jobs n ≡ Some j)
    (good : All (λ x. x.number ≡ n → LawfulJob count (done_at moment cancelled x)) jobs) where
  abbrev new : Rows B
  new = with_archive_from 0 rows n count moment archive_names bodies

  abbrev closed : List (Job B)
  closed = with_job jobs n (done_at moment cancelled)

  number_n : j.number ≡ n
  number_n = number count rows jobs law lawful room n j found_j

  named_n : job_named jobs (job_name n) ≡ Some j
  named_n = named count rows jobs law lawful room n j found_j

  done_here : job_named closed (job_name n) ≡ Some (done_at moment cancelled j)
  done_here =
      named-changed n (done_at moment cancelled) (KeepsJob-done moment cancelled) jobs (job_name n)
      ∙ ap (option_map (λ x. cond (x.number == n) (done_at moment cancelled x) x)) named_n
      ∙ ap (λ b. Some (cond b (done_at moment cancelled j) j)) (eq-eqb j.number n number_n)

  -- ---- no directory stands where its archive is to stand

  no_directory : (name : List ℕ) → bytes_eq name (codes "stor") ≡ false → (e : Entry B) → fits_in_folder j (name ∷ []) e ≡ true → is_directory (Some e) ≡ false
  no_directory name never (entry.Object o) fits = refl
  no_directory name never (entry.Directory mtime) fits = absurd (clash (bytes_eq name (codes "stor")) (is_archive_name name) (is_some j.done) never fits)

  pub free_case : (name : List ℕ) → bytes_eq name (codes "stor") ≡ false → (o : Option (Entry B)) → at rows (in_job_folder n name) ≡ o → is_directory o ≡ false
  free_case name never None is = refl
  free_case name never (Some e) is =
      no_directory name never e (sym (ap (λ o. fits_below o (name ∷ []) e) named_n) ∙ lawful.entries (job_name n) (name ∷ []) e is)

  free : AllByRecursion (λ (a : List ℕ × List ℕ). is_directory (at rows (in_job_folder n a.0)) ≡ false) archive_names
  free = each_from (λ (a : List ℕ × List ℕ). bytes_eq a.0 (codes "stor") ≡ false) (λ a. is_directory (at rows (in_job_folder n a.0)) ≡ false) (λ a never. free_case a.0 never (at rows (in_job_folder n a.0)) refl) archive_names no_stor

  folder_there : is_directory (at rows (job_folder n)) ≡ true
  folder_there = subst (λ m. is_directory (at rows (job_folder m)) ≡ true) number_n (job_in n jobs j found_j (HasFolders rows) lawful.folders).folder

  pub LawfulRows-closed : LawfulRows (count + 1) new
  LawfulRows-closed = lawful_laid n count moment 0 archive_names bodies rows (omega arith) (LawfulRows-later count (count + 1) rows (omega arith) law) folder_there (archive_paths n) free

  -- ---- folders

  folder_same : (m : ℕ) → at new (job_folder m) ≡ at rows (job_folder m)
  folder_same m = stays n count moment 0 archive_names bodies rows (job_folder m) (all_of (λ (a : List ℕ × List ℕ). is_path (in_job_folder n a.0) (job_folder m) ≡ false) (λ a. folder_apart n a.0 m) archive_names)

  stor_apart : (m : ℕ) (a : List ℕ × List ℕ) → bytes_eq a.0 (codes "stor") ≡ false → is_path (in_job_folder n a.0) (job_stor m) ≡ false
  stor_apart m a never = other_path (in_job_folder n a.0) (job_stor m) (λ e. true≢false (sym ((bytes_eq-Decides a.0 (codes "stor")).1 (ap (λ (p : AccountPath). second p.parts) e)) ∙ never))

  stor_same : (m : ℕ) → at new (job_stor m) ≡ at rows (job_stor m)
  stor_same m = stays n count moment 0 archive_names bodies rows (job_stor m) (each_from (λ (a : List ℕ × List ℕ). bytes_eq a.0 (codes "stor") ≡ false) (λ a. is_path (in_job_folder n a.0) (job_stor m) ≡ false) (stor_apart m) archive_names no_stor)

  name_apart : (m : ℕ) → bytes_eq (job_name m) (job_name n) ≡ false → (name : List ℕ) (a : List ℕ × List ℕ) → is_path (in_job_folder n a.0) (in_job_folder m name) ≡ false
  name_apart m never name a = other_path (in_job_folder n a.0) (in_job_folder m name) (λ e. true≢false (sym ((bytes_eq-Decides (job_name m) (job_name n)).1 (sym (ap (λ (p : AccountPath). head p.parts) e))) ∙ never))

  archive_same : (m : ℕ) → bytes_eq (job_name m) (job_name n) ≡ false → (name : List ℕ) → at new (in_job_folder m name) ≡ at rows (in_job_folder m name)
  archive_same m never name = stays n count moment 0 archive_names bodies rows (in_job_folder m name) (all_of (λ (a : List ℕ × List ℕ). is_path (in_job_folder n a.0) (in_job_folder m name) ≡ false) (name_apart m never name) archive_names)

  all_there : list_all (λ a. is_object_at new (in_job_folder n a.0)) archive_names ≡ true
  all_there = list_all_true (λ a. is_object_at new (in_job_folder n a.0)) archive_names (objects n count moment 0 archive_names bodies rows (omega (arith, five)))

  archive_case : (m : ℕ) (b : Bool) → bytes_eq (job_name m) (job_name n) ≡ b
      → (list_all (λ a. is_object_at rows (in_job_folder m a.0)) archive_names || list_all (λ a. not (is_some (at rows (in_job_folder m a.0)))) archive_names) ≡ true
      → (list_all (λ a. is_object_at new (in_job_folder m a.0)) archive_names || list_all (λ a. not (is_some (at new (in_job_folder m a.0)))) archive_names) ≡ true
  archive_case m true is old =
      or_left (list_all (λ a. is_object_at new (in_job_folder m a.0)) archive_names) _
      (subst (λ id. list_all (λ a. is_some (object_in (in_jobs new (id ∷ a.0 ∷ [])))) archive_names ≡ true) (sym ((bytes_eq-Decides (job_name m) (job_name n)).0 is)) all_there)
  archive_case m false is old =
      ap (λ b. b || list_all (λ a. not (is_some (at new (in_job_folder m a.0)))) archive_names)
      (list_all-same (λ (a : List ℕ × List ℕ). bytes_eq a.0 (codes "stor") ≡ false) (λ a. is_object_at new (in_job_folder m a.0)) (λ a. is_object_at rows (in_job_folder m a.0)) (λ a never. ap (λ e. is_some (object_in e)) (archive_same m is a.0)) archive_names no_stor)
      ∙ ap (λ b. list_all (λ a. is_object_at rows (in_job_folder m a.0)) archive_names || b)
      (list_all-same (λ (a : List ℕ × List ℕ). bytes_eq a.0 (codes "stor") ≡ false) (λ a. not (is_some (at new (in_job_folder m a.0)))) (λ a. not (is_some (at rows (in_job_folder m a.0)))) (λ a never. ap (λ e. not (is_some e)) (archive_same m is a.0)) archive_names no_stor)
      ∙ old

  folders_on : (x : Job B) → HasFolders rows x → HasFolders new x
  folders_on x h = record {
    folder = ap is_directory (folder_same x.number) ∙ h.folder;
    stor = ap is_directory (stor_same x.number) ∙ h.stor;
    archive = archive_case x.number (bytes_eq (job_name x.number) (job_name n)) refl h.archive;
  }

  -- ---- what stands in the area of jobs

  changed : LawfulJobs count rows closed
  changed = LawfulJobs-changed n (done_at moment cancelled) (KeepsJob-done moment cancelled) count rows jobs lawful good

  fits_done : (name : List ℕ) (o : Object B) → is_archive_name name ≡ true → fits_in_folder (done_at moment cancelled j) (name ∷ []) (entry.Object o) ≡ true
  fits_done name o is = or_right (bytes_eq name (codes "stor") && false) _ (ap (λ b. b && true && true) is)

  abbrev tail : List (List ℕ) → List (List ℕ)
  tail [] = []
  tail (x ∷ xs) = xs

  entry_new : (id : List ℕ) (names : List (List ℕ)) (e : Entry B) → in_jobs new (id ∷ names) ≡ Some e → IsNew n count moment archive_names new (record { area = Jobs; parts = id ∷ names }) → fits_below (job_named closed id) names e ≡ true
  entry_new id names e is f =
      let parts : job_name n ∷ f.name ∷ [] ≡ id ∷ names = ap (λ (p : AccountPath). p.parts) f.here in
      let same : entry.Object f.object ≡ e = ap (λ o. unwrap_or o e) (sym f.there ∙ is) in
      subst (λ x. fits_below (job_named closed (head x)) (tail x) e ≡ true) parts
      (subst (λ x. fits_below (job_named closed (job_name n)) (f.name ∷ []) x ≡ true) same
      (ap (λ o. fits_below o (f.name ∷ []) (entry.Object f.object)) done_here ∙ fits_done f.name f.object f.named))

  entries : (id : List ℕ) (names : List (List ℕ)) (e : Entry B) → in_jobs new (id ∷ names) ≡ Some e → fits_below (job_named closed id) names e ≡ true
  entries id names e is = by (either n count moment 0 archive_names bodies rows (record { area = Jobs; parts = id ∷ names }))
    where
      by : (in_jobs new (id ∷ names) ≡ in_jobs rows (id ∷ names)) ⊎ IsNew n count moment archive_names new (record { area = Jobs; parts = id ∷ names }) → fits_below (job_named closed id) names e ≡ true
      by (inl same) = changed.entries id names e (sym same ∙ is)
      by (inr f) = entry_new id names e is f

  pub LawfulJobs-closed : LawfulJobs (count + 1) new closed
  LawfulJobs-closed = record {
    rising = changed.rising;
    each = All-weaker (LawfulJob count) (LawfulJob (count + 1)) (LawfulJob-later count (count + 1) (omega arith)) closed changed.each;
    folders = All-weaker (HasFolders rows) (HasFolders new) folders_on closed changed.folders;
    entries = entries;
  }
