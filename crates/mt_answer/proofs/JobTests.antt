-- What tests of jobs answer, told as refusals.
use Rattle.std.proofs.Common.{◌≡◌, Option, Some, None, Ok, Err, refl}
use Rattle.mt_model.specs.JobSteps.{input_refusal, job_refusal}
use Rattle.mt_model.specs.Rows.{first_refusal}
use Rattle.mt_tree.specs.Answer.{answer}
use Rattle.mt_types.specs.declared.body.Body.{Body}
use Rattle.mt_types.specs.declared.job.Job.{Job}
use Rattle.mt_types.specs.declared.refusal.Refusal.{Refusal}
use Rattle.mt_types.specs.declared.refusal.Refusal.TheVariants as refusal
use Rattle.mt_answer.specs.JobJudging.{told_as, told_by, too_many_refusal}

pub told_answer : (r : Option Refusal) → told_by (answer r) ≡ told_as r
told_answer None = refl
told_answer (Some x) = refl

go_on : (r : Option Refusal) → Ok tt ≡ answer r → Err refusal.TooManyInputs ≡ answer (first_refusal r (Some refusal.TooManyInputs))
go_on None is = refl
go_on (Some x) is = cc

stays : (r : Option Refusal) (why : Refusal) → Err why ≡ answer r → Err why ≡ answer (first_refusal r (Some refusal.TooManyInputs))
stays None why is = cc
stays (Some x) why is = is

-- too many lines are refused where none are
pub many_go : (o : Option (Job Body)) → Ok tt ≡ answer (job_refusal o input_refusal) → Err refusal.TooManyInputs ≡ answer (job_refusal o too_many_refusal)
many_go None is = cc
many_go (Some j) is = go_on (input_refusal j) is

-- and where the job takes no lines, for the same cause
pub many_stay : (o : Option (Job Body)) (why : Refusal) → Err why ≡ answer (job_refusal o input_refusal) → Err why ≡ answer (job_refusal o too_many_refusal)
many_stay None why is = is
many_stay (Some j) why is = stays (input_refusal j) why is

pub there : (o : Option (Job Body)) (j : Job Body) → Some j ≡ o → Ok tt ≡ answer (job_refusal o (λ x. None))
there None j is = cc
there (Some x) j is = refl

pub not_there : (o : Option (Job Body)) → None ≡ o → Err refusal.JobNotFound ≡ answer (job_refusal o (λ x. None))
not_there None is = refl
not_there (Some x) is = cc
