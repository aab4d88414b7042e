-- A job that ended so, and its numbers as text.
use Rattle.std.specs.Prelude.{ℕ, List, ◌++◌, codes, decimal}
use Rattle.mt_types.specs.declared.job.Job.{Job}
use Rattle.mt_jobtext.specs.declared.stats.Stats.{Stats}
use Rattle.mt_jobtext.specs.declared.status.Ending.{Ending}

-- the job with this end
abbrev pub ended_as : {B : Type 0} → Job B → Ending → Job B
ended_as job ending = record job { done = ending.done; cancelled = ending.cancelled }

-- the numbers of a status
abbrev pub stats_text : Stats → List ℕ
stats_text stats =
    codes "{\"errors\":" ++ (decimal stats.errors ++ (codes ",\"inputs\":" ++ (decimal stats.inputs
    ++ (codes ",\"outputs\":" ++ (decimal stats.outputs ++ (codes ",\"tasksDone\":" ++ (decimal stats.tasks ++ codes "}")))))))
