-- Certificates of jobs.
use Rattle.std.specs.Prelude.{◌≡◌, ℕ, true, List, length}
use Rattle.mt_ident.specs.Digests.{md5}
use Rattle.mt_types.specs.Values.{job_with}
use Rattle.mt_model.specs.Types.{Body, Job}
use Rattle.mt_model.specs.Sound.{Sound}
use Rattle.mt_model.specs.Tasks.{all_complete}
use Rattle.mt_certline.specs.Certificate.{AddsUp, certificate_of}
use Rattle.mt_certline.specs.declared.line.Sum.{Sum}

-- what a body is known by: by its reference, and by its bytes
abbrev pub sum_of_body : Body → Sum
sum_of_body body = record { md5 = body.md5; size = body.len }

abbrev pub sum_of_bytes : List ℕ → Sum
sum_of_bytes bytes = record { md5 = md5 bytes; size = length bytes }

-- the certificate of a job that is sound and complete adds up, whatever its bodies are known by
abbrev pub CertifyAddsUp : (B : Type 0) → (B → Sum) → Type 0
CertifyAddsUp B sum_of = (job : Job B) → Sound job → all_complete job ≡ true → AddsUp (certificate_of (job_with sum_of job))
