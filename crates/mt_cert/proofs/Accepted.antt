-- The text of the certificate of a lawful, complete job is accepted.
use Rattle.std.proofs.Common.{◌∙◌}
use Rattle.mt_types.specs.Values.{job_with}
use Rattle.mt_model.proofs.TasksWith.{all_complete-with}
use Rattle.mt_certline.specs.Certificate.{certificate_of}
use Rattle.mt_certline.specs.declared.line.Sum.{Sum}
use Rattle.mt_checker.proofs.WrittenTexts.{written-accepted}
use Rattle.mt_cert.specs.Accepting.{CertifyIsAccepted}
use Rattle.mt_cert.proofs.Certificates.{adds_up}
use Rattle.mt_cert.proofs.JobLines.{lines_are}
use Rattle.mt_cert.proofs.Sounds.{sound_with}

pub accepted_with : (B : Type 0) (sum_of : B → Sum) → CertifyIsAccepted B sum_of
accepted_with B sum_of login count job named few lawful kept held complete fits =
    written-accepted login (certificate_of (job_with sum_of job)) named (lines_are sum_of count job few lawful kept held) fits
    (adds_up (job_with sum_of job) (sound_with sum_of job lawful.sound) (all_complete-with sum_of job ∙ complete))
