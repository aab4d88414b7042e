-- The rows of a lawful state can be searched, and the store shows each of their directories as a row.
use Rattle.std.proofs.Common.{◌≡◌, ℕ, ◌≤◌, Bool, true, false, ◌&&◌, ◌||◌, ◌==◌, cond, List, [], ◌∷◌, length, bytes_eq, codes, Option, Some, None, refl, ap, arith}
use Rattle.std.proofs.lemmas.Bool.{leb-true}
use Rattle.std.proofs.lemmas.Slice.Eq.{bytes_eq-Decides}
use Rattle.mt_base.specs.declared.limits.TheConstants.{LAST_MOMENT}
use Rattle.mt_path.specs.AccountPath.{AccountPath, path_text}
use Rattle.mt_path.specs.PathOrder.{path_cmp}
use Rattle.mt_path.specs.declared.area.Area.TheVariants.{Jobs, Public, Stor}
use Rattle.mt_types.specs.declared.job.Job.{Job}
use Rattle.mt_types.specs.declared.limits.TheConstants.{MOST_COMMANDS}
use Rattle.mt_types.specs.declared.object.Entry.{Entry}
use Rattle.mt_types.specs.declared.object.Entry.TheVariants as entry
use Rattle.mt_types.specs.declared.object.Object.{Object}
use Rattle.mt_live.specs.LiveTexts.{IsEntryListable}
use Rattle.mt_model.specs.Keeping.{IsEntry}
use Rattle.mt_model.specs.Lawful.{IsBelow, LawfulJobs, fits_below, fits_in_folder, is_archive_name, job_named}
use Rattle.mt_model.specs.Rows.{Rows, at, is_directory, object_at, object_in}
use Rattle.mt_model.specs.State.{State}
use Rattle.mt_request.specs.Routes.{route_of}
use Rattle.mt_request.specs.declared.route.Route.TheVariants as route
use Rattle.mt_asked.specs.Understood.{is_row, is_shown}
use Rattle.mt_page.specs.Laws.{HasSize}
use Rattle.mt_found.specs.Laws.{BelowIsUnder, FoundWorked, LawfulIsSearchable}
use Rattle.mt_found.proofs.Fronts.{below-under, under-below}
use Rattle.mt_found.proofs.Lists.{both, each, rising_keys}
use Rattle.mt_found.proofs.Trees.{Stands, each_stands}

pub below_under : BelowIsUnder
below_under d p = (below-under d p, under-below d p)

pub worked : FoundWorked
unfolding path_text
worked = refl

-- ---- each row can be shown in a page

module _ {B : Type 0} (count : ℕ) (few : count ≤ MOST_COMMANDS) (rows : Rows B) (numbers : (p : AccountPath) (o : Object B) → object_at rows p ≡ Some o → IsBelow count o.number) where
  listable : (p : AccountPath) (e : Entry B) → at rows p ≡ Some e → IsEntry e → IsEntryListable e
  listable p (entry.Directory mtime) stands is = leb-true mtime LAST_MOMENT is
  listable p (entry.Object o) stands is =
      let below = numbers p o (ap object_in stands) in
      (leb-true o.mtime LAST_MOMENT is.moment_is, omega arith)

pub lawful_searchable : (B : Type 0) → LawfulIsSearchable B
lawful_searchable B size s p lawful limits few sizes = record {
  ordered = lawful.rows.tree.ordered;
  parents = λ q d some is below. lawful.rows.tree.parents q d some is;
  paths = lawful.rows.paths;
  listable =
      each (λ r. Stands s.rows r × (IsEntry r.1 × HasSize size r.1)) (λ r. IsEntryListable r.1 × HasSize size r.1)
      (λ r h. (listable s.count few s.rows lawful.rows.numbers r.0 r.1 h.0 h.1.0, h.1.1)) s.rows
      (both (Stands s.rows) (λ r. IsEntry r.1 × HasSize size r.1) s.rows (each_stands s.rows (rising_keys path_cmp s.rows lawful.rows.tree.ordered)) (both (λ r. IsEntry r.1) (λ r. HasSize size r.1) s.rows limits.rows sizes));
}

-- ---- and each directory is shown as a row

-- the store shows each directory of rows as a row: none is below a job's `live`
abbrev pub AreShown : {B : Type 0} → Rows B → Type 0
AreShown rows = (d : AccountPath) → is_directory (at rows d) ≡ true → is_shown d ≡ true

first_true : (a b : Bool) → (a && b) ≡ true → a ≡ true
first_true true b t = refl
first_true false b t = cc

-- an archive is no directory
no_archive : (stor archive done : Bool) → ((stor && true) || (archive && false && done)) ≡ true → stor ≡ true
no_archive true archive done t = refl
no_archive false true done t = cc
no_archive false false done t = cc

both_rows : (b : Bool) → is_row (cond b route.Jobs route.JobRow) ≡ true
both_rows true = refl
both_rows false = refl

shown_stor : (id name : List ℕ) (more : List (List ℕ)) → bytes_eq name (codes "stor") ≡ true → is_shown (record { area = Jobs; parts = id ∷ name ∷ more }) ≡ true
unfolding route_of
shown_stor id name more is = rw ((bytes_eq-Decides name (codes "stor")).0 is) (both_rows (length (id ∷ codes "stor" ∷ more) == 0))

module _ {B : Type 0} where
  fits_stor : (job : Job B) (name : List ℕ) (more : List (List ℕ)) (mtime : ℕ) → fits_in_folder job (name ∷ more) (entry.Directory mtime) ≡ true → bytes_eq name (codes "stor") ≡ true
  fits_stor job name [] mtime fits = no_archive (bytes_eq name (codes "stor")) (is_archive_name name) _ fits
  fits_stor job name (next ∷ more) mtime fits = first_true (bytes_eq name (codes "stor")) _ fits

  job_stor : (job : Option (Job B)) (name : List ℕ) (more : List (List ℕ)) (mtime : ℕ) → fits_below job (name ∷ more) (entry.Directory mtime) ≡ true → bytes_eq name (codes "stor") ≡ true
  job_stor None name more mtime fits = cc
  job_stor (Some job) name more mtime fits = fits_stor job name more mtime fits

  entry_there : (o : Option (Entry B)) → is_directory o ≡ true → (mtime : ℕ) × (o ≡ Some (entry.Directory mtime))
  entry_there None t = cc
  entry_there (Some (entry.Directory mtime)) t = (mtime, refl)
  entry_there (Some (entry.Object o)) t = cc

  in_jobs : (s : State B) → LawfulJobs s.count s.rows s.jobs → (parts : List (List ℕ)) → is_directory (at s.rows (record { area = Jobs; parts = parts })) ≡ true → is_shown (record { area = Jobs; parts = parts }) ≡ true
  unfolding route_of
  in_jobs s law [] t = refl
  in_jobs s law (id ∷ []) t = refl
  in_jobs s law (id ∷ name ∷ more) t =
      let there = entry_there (at s.rows (record { area = Jobs; parts = id ∷ name ∷ more })) t in
      shown_stor id name more (job_stor (job_named s.jobs id) name more there.0 (law.entries id (name ∷ more) (entry.Directory there.0) there.1))

  pub lawful_shown : (s : State B) → LawfulJobs s.count s.rows s.jobs → AreShown s.rows
  unfolding route_of
  lawful_shown s law d t = elim d.area as (λ a. is_directory (at s.rows (record { area = a; parts = d.parts })) ≡ true → is_shown (record { area = a; parts = d.parts }) ≡ true) [
    | Stor ↦ λ is. refl
    | Public ↦ λ is. refl
    | Jobs ↦ λ is. in_jobs s law d.parts is
  ] t
