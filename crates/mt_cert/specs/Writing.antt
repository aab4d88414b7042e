-- What is promised of a certificate that is written.
use Rattle.std.specs.Prelude.{◌≡◌, ℕ, ◌≤◌, true, List, Option}
use Rattle.mt_base.specs.Counts.{NeverFell, Rose}
use Rattle.mt_edge.specs.Stream.{GotMore, WritesFront}
use Rattle.mt_path.specs.AccountPath.{IsLogin}
use Rattle.mt_model.specs.Types.{Body, Job, MOST_COMMANDS}
use Rattle.mt_model.specs.Keeping.{IsJob}
use Rattle.mt_model.specs.Lawful.{LawfulJob}
use Rattle.mt_model.specs.Tasks.{all_complete}
use Rattle.mt_checker.specs.Judge.{Accepted, judge}
use Rattle.mt_checker.specs.Texts.{certificate_text}
use Rattle.mt_cert.specs.Putting.{HasSent}
use Rattle.mt_cert.specs.Reading.{certificate_in}
use Rattle.mt_cert.specs.declared.writing.Written.{Written}
use Rattle.mt_cert.specs.declared.writing.Written.TheVariants as written

-- a text was written whole, or a front of it: less than all before a counted fault, or for want of memory
abbrev pub WritesText : List ℕ → Written → Option (List ℕ) → ℕ → Option (List ℕ) → ℕ → Type 0
WritesText text written.Whole got faults got' faults' = GotMore got text got' × NeverFell faults faults'
WritesText text written.SinkFault got faults got' faults' = WritesFront got text got' × Rose faults faults'
WritesText text written.Memory got faults got' faults' = HasSent got text got' × NeverFell faults faults'

-- the certificate of a job is accepted, where the job is lawful, within its limits and complete
abbrev pub IsAccepted : List ℕ → Job Body → Type 0
IsAccepted login job = (count : ℕ) → IsLogin login → count ≤ MOST_COMMANDS → LawfulJob count job → IsJob job → all_complete job ≡ true
    → judge login (certificate_text login (certificate_in job)) ≡ Accepted
