use Rattle.std.proofs.Common.{◌≡◌, None, subst}
use Rattle.std.specs.Prelude.{IsSomeAnd}
use Rattle.mt_model.specs.JobSteps.{input_refusal}
use Rattle.jobs_rows.proofs.listing.is_open.Goals as goal

pub returns-in-Some : goal.returns-in-Some
returns-in-Some c = λ is. subst (λ o. IsSomeAnd o (λ j. input_refusal j ≡ None)) c.in-Some.ensures (c.may_end.ensures is)
