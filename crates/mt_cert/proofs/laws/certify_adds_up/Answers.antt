use Rattle.std.proofs.Common.{◌∙◌}
use Rattle.mt_model.proofs.TasksWith.{all_complete-with}
use Rattle.mt_types.specs.Values.{job_with}
use Rattle.mt_cert.specs.Certifying.{sum_of_body, sum_of_bytes}
use Rattle.mt_cert.proofs.Certificates.{adds_up}
use Rattle.mt_cert.proofs.Sounds.{sound_with}
use Rattle.mt_cert.proofs.laws.certify_adds_up.Goals as goal

pub returns-clause-references : goal.returns-clause-references
returns-clause-references c = λ job sound complete. adds_up (job_with sum_of_body job) (sound_with sum_of_body job sound) (all_complete-with sum_of_body job ∙ complete)

pub returns-clause-bytes : goal.returns-clause-bytes
returns-clause-bytes c = λ job sound complete. adds_up (job_with sum_of_bytes job) (sound_with sum_of_bytes job sound) (all_complete-with sum_of_bytes job ∙ complete)
