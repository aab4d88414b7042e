-- The certificate of a job whose bodies stand in a log.
use Rattle.std.specs.Prelude.{◌≡◌, ◌≤◌, ℕ, true, List}
use Rattle.mt_body.specs.Stored.{IsStored, bytes_of}
use Rattle.mt_cert.specs.Certifying.{sum_of_body, sum_of_bytes}
use Rattle.mt_cert.specs.Writing.{IsAccepted}
use Rattle.mt_certline.specs.Certificate.{Certificate, certificate_of}
use Rattle.mt_checker.specs.Judge.{Accepted, judge}
use Rattle.mt_checker.specs.Texts.{certificate_text}
use Rattle.mt_model.specs.Bodies.{OfJob}
use Rattle.mt_model.specs.Finished.{is_finished}
use Rattle.mt_model.specs.Keeping.{IsJob}
use Rattle.mt_model.specs.Lawful.{LawfulJob}
use Rattle.mt_model.specs.Types.{Body, Job, MOST_COMMANDS}
use Rattle.mt_path.specs.AccountPath.{IsLogin}
use Rattle.mt_types.specs.Values.{job_with}

-- the certificate of a job over bytes
abbrev pub certificate_over : Job (List ℕ) → Certificate
certificate_over job = certificate_of (job_with sum_of_bytes job)

-- that of a job over references is that over the bytes that stand for them
abbrev pub CertificatesAreRead : Type 0
CertificatesAreRead = (ps : List (List ℕ)) (job : Job Body) → OfJob (IsStored ps) job → certificate_over (job_with (bytes_of ps) job) ≡ certificate_of (job_with sum_of_body job)

-- and that of a finished job is accepted, where its lines fit
abbrev pub FinishedIsAccepted : Type 0
FinishedIsAccepted = (ps : List (List ℕ)) (login : List ℕ) (count : ℕ) (job : Job Body) → OfJob (IsStored ps) job → IsLogin login → count ≤ MOST_COMMANDS → LawfulJob count job → IsJob job
    → is_finished job ≡ true → IsAccepted login job → judge login (certificate_text login (certificate_over (job_with (bytes_of ps) job))) ≡ Accepted
