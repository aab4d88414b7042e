-- The text of a job's certificate is accepted.
use Rattle.std.specs.Prelude.{◌≡◌, ◌<◌, ◌≤◌, ◌^◌, ℕ, true, List, length}
use Rattle.std.specs.List.{AllByRecursion}
use Rattle.mt_ident.specs.Digests.{IsDigest}
use Rattle.mt_path.specs.AccountPath.{IsLogin}
use Rattle.mt_types.specs.Values.{job_with}
use Rattle.mt_model.specs.Types.{Job, MOST_COMMANDS}
use Rattle.mt_model.specs.Feed.{feed, items_of}
use Rattle.mt_model.specs.Keeping.{IsJob}
use Rattle.mt_model.specs.Lawful.{LawfulJob}
use Rattle.mt_model.specs.Tasks.{all_complete}
use Rattle.mt_certline.specs.Certificate.{certificate_of, lines_of}
use Rattle.mt_certline.specs.Laws.{IsLine, IsOfTexts, IsWhole}
use Rattle.mt_certline.specs.declared.line.Sum.{Sum}
use Rattle.mt_checker.specs.Judge.{Accepted, judge}
use Rattle.mt_checker.specs.Texts.{Fits, certificate_text}

-- a digest, and a number of 64 bits
pub record IsSum (s : Sum) : Type 0 where
  pub digest : IsDigest s.md5
  pub size : IsWhole s.size

module _ (B : Type 0) (sum_of : B → Sum) where
  -- what the values of a job keep by their types: command lines are texts, numbers have 64 bits, and bodies are known by sums
  pub record IsHeld (job : Job B) : Type 0 where
    pub texts : AllByRecursion IsOfTexts job.document.phases
    pub inputs : AllByRecursion (λ i. IsSum (sum_of i.body)) job.inputs
    pub phases : AllByRecursion (λ e. IsWhole e.phase) job.trace
    pub places : AllByRecursion (λ e. IsWhole e.place) job.trace
    pub outputs : AllByRecursion (λ e. AllByRecursion (λ i. IsSum (sum_of i.body)) (items_of e.outcome)) job.trace
    pub feeds : (n : ℕ) → length (feed job n) < 2 ^ 64

  -- the lines of the certificate of a lawful job within its limits are lines
  abbrev pub CertifyIsWritten : Type 0
  CertifyIsWritten = (count : ℕ) (job : Job B) → count ≤ MOST_COMMANDS → LawfulJob count job → IsJob job → IsHeld job → AllByRecursion IsLine (lines_of (certificate_of (job_with sum_of job)))

  -- and where they are within the limits of certificates and the job is complete, their text is accepted
  abbrev pub CertifyIsAccepted : Type 0
  CertifyIsAccepted = (login : List ℕ) (count : ℕ) (job : Job B) → IsLogin login → count ≤ MOST_COMMANDS → LawfulJob count job → IsJob job → IsHeld job → all_complete job ≡ true
      → Fits login (certificate_of (job_with sum_of job)) → judge login (certificate_text login (certificate_of (job_with sum_of job))) ≡ Accepted
