use Rattle.std.proofs.Common.{◌+◌, ◌≤◌, length, take}
use Rattle.mt_base.specs.Counts.{NeverFell}
use Rattle.mt_http.specs.Body.{first_state, most_left}
use Rattle.mt_http.specs.BodyReading.{Goes}
use Rattle.mt_http.specs.Framing.{limit_of}
use Rattle.mt_http.proofs.body.read_body.Given as goal

-- what came so far stands at the front of the body
abbrev pub invariant-loop-body : goal.invariant-loop-body
invariant-loop-body g l =
    (l.done ≤ length l.body.items)
    × (l.done + most_left l.framer ≤ limit_of l.head)
    × Goes (first_state l.head.framing (limit_of l.head)) (g.S.Source.left l.initial.source) (take l.done l.body.items) l.framer (g.S.Source.left l.source)
    × g.S.Source.source_stays l.initial.source l.source
    × NeverFell (g.S.Source.read_faults l.initial.source) (g.S.Source.read_faults l.source)

abbrev pub decreases-loop-body : goal.decreases-loop-body
decreases-loop-body g l = most_left l.framer
