use Rattle.std.proofs.Common.{[]}
use Rattle.mt_base.specs.Counts.{NeverFell}
use Rattle.mt_http.specs.BodyReading.{Goes}
use Rattle.mt_http.specs.Further.{FramerGoesOn}
use Rattle.mt_http.proofs.BodySteps.{steps_left}
use Rattle.mt_http.proofs.stream.reach_data.Given as goal

-- no byte of the body was read
abbrev pub invariant-loop-left : goal.invariant-loop-left
invariant-loop-left g l =
    Goes l.initial.framer (g.S.Source.left l.initial.source) [] l.framer (g.S.Source.left l.source)
    × FramerGoesOn g.S.Source.source_stays l.initial.source l.source l.initial.framer l.framer 0
    × NeverFell (g.S.Source.read_faults l.initial.source) (g.S.Source.read_faults l.source)

abbrev pub decreases-loop-left : goal.decreases-loop-left
decreases-loop-left g l = steps_left l.framer
