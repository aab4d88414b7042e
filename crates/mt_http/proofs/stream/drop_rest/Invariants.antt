use Rattle.std.proofs.Common.{◌≡◌}
use Rattle.mt_base.specs.Counts.{NeverFell}
use Rattle.mt_http.specs.Body.{most_left}
use Rattle.mt_http.specs.BodyReading.{after_body}
use Rattle.mt_http.specs.Further.{FramerGoesOn}
use Rattle.mt_http.proofs.stream.drop_rest.Given as goal

-- the body will end as before, and the same follows it
abbrev pub invariant-rest : goal.invariant-rest
invariant-rest g l =
    (after_body l.framer (g.S.Source.left l.source) ≡ after_body l.initial.framer (g.S.Source.left l.initial.source))
    × FramerGoesOn g.S.Source.source_stays l.initial.source l.source l.initial.framer l.framer 0
    × NeverFell (g.S.Source.read_faults l.initial.source) (g.S.Source.read_faults l.source)

abbrev pub decreases-rest : goal.decreases-rest
decreases-rest g l = most_left l.framer
