-- nothing but bodies that are read out was passed
use Rattle.std.proofs.Common.{◌≡◌, ◌-◌, List, ℕ, length}
use Rattle.mt_types.specs.declared.body.Body.{Body}
use Rattle.mt_model.specs.Laws.{KeepsSize}
use Rattle.mt_tasks.specs.Reading.{IsPlace, bodies_of_task, left_at}
use Rattle.mt_tasks.proofs.bodies.next_body.Given as goal

abbrev pub invariant-loop-body : goal.invariant-loop-body
invariant-loop-body l = record {
  within : IsPlace (bodies_of_task l.engine.state.jobs l.task) l.place;
  same : (content : Body → List ℕ) → KeepsSize content → left_at content (bodies_of_task l.engine.state.jobs l.task) l.place ≡ left_at content (bodies_of_task l.engine.state.jobs l.task) l.initial.place;
}

abbrev pub decreases-loop-body : goal.decreases-loop-body
decreases-loop-body l = length (bodies_of_task l.engine.state.jobs l.task) - l.place.next
