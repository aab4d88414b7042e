use Rattle.std.proofs.Common.{◌≡◌, true, not, ap, subst, ◌∙◌}
use Rattle.std.specs.Prelude.{IsSomeAnd}
use Rattle.mt_model.specs.Tasks.{is_running}
use Rattle.jobs_rows.proofs.listing.runs.Goals as goal

pub returns-in-Some : goal.returns-in-Some
returns-in-Some c = λ is. subst (λ o. IsSomeAnd o (λ j. is_running j ≡ true)) c.in-Some.ensures (ap not (c.is_none.ensures ∙ ap not is))
