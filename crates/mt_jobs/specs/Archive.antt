-- Where the archive of a job can be put.
use Rattle.std.specs.Prelude.{◌≡◌, ℕ, List, true, false, IsTrue}
use Rattle.mt_model.specs.Lawful.{is_archive_name}
use Rattle.mt_model.specs.Names.{in_job_folder, job_folder}
use Rattle.mt_model.specs.Rows.{Rows, IsTree, at, is_directory}

-- the folder of the job stands, and no directory where an object of its archive is to stand
pub record MayArchive {B : Type 0} (rows : Rows B) (job : ℕ) : Type 0 where
  pub tree : IsTree rows
  pub folder : is_directory (at rows (job_folder job)) ≡ true
  pub free : (name : List ℕ) → IsTrue (is_archive_name name) → is_directory (at rows (in_job_folder job name)) ≡ false
