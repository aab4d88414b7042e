-- The certificate of a map job over two inputs, worked out line by line.
use Rattle.std.specs.Prelude.{◌≡◌, ℕ, Bool, true, false, ◌&&◌, List, [], ◌∷◌, ◌++◌, length, reverse, take}
use Rattle.mt_types.specs.Values.{job_with}
use Rattle.mt_model.specs.Types.{AccountPath}
use Rattle.mt_model.specs.Worked.{closed, map_job_after}
use Rattle.mt_certline.specs.Certificate.{Certificate, Progress, certificate_of, is_whole, output_follows, task_follows}
use Rattle.mt_certline.specs.declared.line.Listed.{Listed}
use Rattle.mt_certline.specs.declared.line.Sum.{Sum}

-- bodies by their sizes alone
abbrev pub sized : List ℕ → Sum
sized bytes = record { md5 = []; size = length bytes }

abbrev pub map_certificate : Certificate
map_certificate = certificate_of (job_with sized (map_job_after closed))

-- these tasks and names are listed so far
abbrev pub listed_so_far : List Listed → List AccountPath → Progress
listed_so_far tasks outputs = record { phases = map_certificate.phases; inputs = map_certificate.inputs; tasks = tasks; outputs = outputs }

-- each task follows those before it
abbrev pub tasks_follow : List Listed → List Listed → Bool
tasks_follow before [] = true
tasks_follow before (t ∷ ts) = task_follows (listed_so_far before []) t && tasks_follow (before ++ t ∷ []) ts

-- each name follows those before it, and none is missing
abbrev pub outputs_follow : List AccountPath → List AccountPath → Bool
outputs_follow before [] = is_whole (listed_so_far map_certificate.tasks before)
outputs_follow before (p ∷ ps) = output_follows (listed_so_far map_certificate.tasks before) p && outputs_follow (before ++ p ∷ []) ps

-- two tasks and two outputs, which follow; not so where the outputs are exchanged, a task comes twice, or one is left out
pub record IsWorked : Type 0 where
  pub tasks : length map_certificate.tasks ≡ 2
  pub outputs : length map_certificate.outputs ≡ 2
  pub follow : (tasks_follow [] map_certificate.tasks && outputs_follow [] map_certificate.outputs) ≡ true
  pub exchanged : outputs_follow [] (reverse map_certificate.outputs) ≡ false
  pub twice : tasks_follow [] (take 1 map_certificate.tasks ++ take 1 map_certificate.tasks) ≡ false
  pub left_out : is_whole (listed_so_far (take 1 map_certificate.tasks) (take 1 map_certificate.outputs)) ≡ false
