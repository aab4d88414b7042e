-- The names in the folder of a job make paths.
use Rattle.std.proofs.Common.{◌≡◌, ℕ, ◌≤◌, Bool, true, false, ◌||◌, nat_lt, List, [], ◌∷◌, ◌++◌, length, length-append, sym, subst, arith, codes, bytes_eq, refl}
use Rattle.std.specs.List.{AllByRecursion, list_all, list_any}
use Rattle.std.proofs.lemmas.List.Elements.{All-nil, All-cons}
use Rattle.std.proofs.lemmas.Slice.Eq.{bytes_eq-Decides}
use Rattle.mt_ident.proofs.IdentifierTexts.{length-identifier_text}
use Rattle.mt_path.specs.AccountPath.{IsComponent, IsPath, is_barred, slash}
use Rattle.mt_model.specs.JobSteps.{archive_names}
use Rattle.mt_model.specs.Lawful.{is_archive_name}
use Rattle.mt_model.specs.Names.{in_job_folder, job_name}
use Rattle.mt_model.proofs.LawfulClose.{word}
use Rattle.mt_model.proofs.Words.{job_stor_is_path, name_is_component}
use Rattle.mt_resolve.specs.Committing.{IsFolderName}

in_folder : (number : ℕ) (name : List ℕ) → 3 ≤ length name → length name ≤ 8 → list_all (λ b. nat_lt b 128) name ≡ true → list_any is_barred name ≡ false → IsPath (in_job_folder number name)
in_folder number name least most ascii clear =
    let long : length (job_name number) ≡ 36 = length-identifier_text 2 number in
    record {
      components = All-cons IsComponent (job_name number) (name ∷ []) (name_is_component number) (All-cons IsComponent name [] (word name least most ascii clear) (All-nil IsComponent));
      short = omega (arith, long, most, length-append (job_name number) (slash ∷ name ++ []), length-append name []);
    }

archive_paths : (number : ℕ) → AllByRecursion (λ (a : List ℕ × List ℕ). IsPath (in_job_folder number a.0)) archive_names
archive_paths number = (
  in_folder number (codes "err.txt") (omega arith) (omega arith) refl refl,
  (
    in_folder number (codes "fail.txt") (omega arith) (omega arith) refl refl,
    (
      in_folder number (codes "in.txt") (omega arith) (omega arith) refl refl,
      (
        in_folder number (codes "job.json") (omega arith) (omega arith) refl refl,
        (in_folder number (codes "out.txt") (omega arith) (omega arith) refl refl, tt),
      ),
    ),
  ),
)

one_path : (number : ℕ) (name : List ℕ) (ns : List (List ℕ × List ℕ)) → AllByRecursion (λ (a : List ℕ × List ℕ). IsPath (in_job_folder number a.0)) ns → list_any (λ a. bytes_eq a.0 name) ns ≡ true → IsPath (in_job_folder number name)
one_path number name [] all is = cc
one_path number name (a ∷ ns) all is = by (bytes_eq a.0 name) refl is (one_path number name ns all.1)
  where
    by : (b : Bool) → bytes_eq a.0 name ≡ b → (b || list_any (λ a. bytes_eq a.0 name) ns) ≡ true → (list_any (λ a. bytes_eq a.0 name) ns ≡ true → IsPath (in_job_folder number name)) → IsPath (in_job_folder number name)
    by true same e more = subst (λ n. IsPath (in_job_folder number n)) ((bytes_eq-Decides a.0 name).0 same) all.0
    by false same e more = more e

folder_case : (number : ℕ) (name : List ℕ) (b : Bool) → bytes_eq name (codes "stor") ≡ b → (b || is_archive_name name) ≡ true → IsPath (in_job_folder number name)
folder_case number name true same is = subst (λ n. IsPath (in_job_folder number n)) (sym ((bytes_eq-Decides name (codes "stor")).0 same)) (job_stor_is_path number)
folder_case number name false same is = one_path number name archive_names (archive_paths number) is

-- `stor` and the names of an archive, in the folder of a job, are paths
pub folder_path : (number : ℕ) (name : List ℕ) → IsFolderName name → IsPath (in_job_folder number name)
folder_path number name is = folder_case number name (bytes_eq name (codes "stor")) refl is
