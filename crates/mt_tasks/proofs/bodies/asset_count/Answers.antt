use Rattle.std.proofs.Common.{◌≡◌, length, List, sym, ap, ◌∙◌, arith}
use Rattle.mt_types.specs.declared.body.Body.{Body}
use Rattle.mt_tasks.proofs.Passing.{second_long}
use Rattle.mt_tasks.proofs.bodies.asset_count.Goals as goal

pub returns-in-Some : goal.returns-in-Some
returns-in-Some c = c.min.ensures ∙ sym (second_long c.in-Some.names.now c.in-Some.bodies.now) ∙ ap (λ (l : List Body). length l) (sym c.in-Some.ensures.some)
