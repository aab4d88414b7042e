use Rattle.std.proofs.Common.{◌≡◌, map, take}
use Rattle.mt_live.specs.LiveTexts.{jobs_text}
use Rattle.mt_answer.proofs.job_page.text_of.Given as goal

abbrev pub invariant-loop-job : goal.invariant-loop-job
invariant-loop-job l = l.out.items ≡ jobs_text (map (λ j. j.now) (take l.job-index l.jobs))
