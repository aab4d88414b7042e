use Rattle.std.proofs.Common.{ap, ◌∙◌, length}
use Rattle.mt_model.specs.CommandStep.{allowed}
use Rattle.mt_model.specs.Laws.{AllowedIsRead}
use Rattle.mt_model.proofs.Held.{allowed_of_held}
use Rattle.mt_model.proofs.Maps.{same_function}
use Rattle.mt_model.proofs.StepsWith.{allowed-with, replay-with}
use Rattle.mt_model.proofs.laws.history_is_read.Goals as goal

pub returns-clause-replay : goal.returns-clause-replay
returns-clause-replay c = replay-with

allowed_is_read : AllowedIsRead
allowed_is_read read keeps s command =
    allowed-with read length s command ∙ ap (λ size. allowed size s command) (same_function (λ b. length (read b)) (λ b. b.len) keeps)

pub returns-clause-allowed : goal.returns-clause-allowed
returns-clause-allowed c = allowed_is_read

pub returns-clause-held : goal.returns-clause-held
returns-clause-held c = allowed_of_held allowed_is_read
