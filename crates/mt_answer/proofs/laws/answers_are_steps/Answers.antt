use Rattle.mt_answer.specs.Whole.{gives_nothing}
use Rattle.mt_answer.proofs.Steps.{honest_answer}
use Rattle.mt_answer.proofs.laws.answers_are_steps.Goals as goal

pub returns : goal.returns
returns c = λ login' fate_of. honest_answer login' gives_nothing fate_of
