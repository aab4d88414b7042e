use Rattle.std.proofs.Common.{◌∙◌, arith}
use Rattle.mt_http.proofs.BodyReadings.{streams_keep}
use Rattle.mt_http.proofs.Finishes.{finished, never_none}
use Rattle.mt_http.proofs.stream.drop_rest.Goals as goal

pub rest-preserved : goal.rest-preserved
rest-preserved g c =
    let kept = c.rest.invariant in
    let streams = c.in-Took.ensures.streams in
    let on = c.in-Took.ensures.goes_on in (
      streams_keep _ _ _ c.read_framed.new.into c.read_framed.result _ _ _ c.read_framed.ensures.streams ∙ kept.0,
      record { stays = g.met.S.Source.source_joined _ _ _ kept.1.stays on.stays; fewer = omega (arith, kept.1.fewer, on.fewer) },
      omega (arith, kept.2, streams.3),
    )

pub returns-in-End : goal.returns-in-End
returns-in-End g c =
    let kept = c.rest.invariant in
    let streams = c.in-End.ensures.streams in
    let on = c.in-End.ensures.goes_on in
    record {
      ended = finished _ _ c.rest.framer _ c.read_framed.new.framer _ c.ending.result kept.0 streams.0 c.ending.ensures;
      failed = λ none. absurd (never_none _ _ _ _ _ streams.0 c.ending.ensures none);
      faults = omega (arith, kept.2, streams.1);
      goes_on = record { stays = g.met.S.Source.source_joined _ _ _ kept.1.stays on.stays; fewer = omega (arith, kept.1.fewer, on.fewer) };
    }

pub returns-in-Failed : goal.returns-in-Failed
returns-in-Failed g c =
    let kept = c.rest.invariant in
    let streams = c.in-Failed.ensures.streams in
    let on = c.in-Failed.ensures.goes_on in
    record {
      ended = streams_keep _ _ _ c.read_framed.new.into c.read_framed.result _ _ _ c.read_framed.ensures.streams ∙ kept.0;
      failed = λ none. omega (arith, kept.2, streams.1);
      faults = omega (arith, kept.2, streams.1);
      goes_on = record { stays = g.met.S.Source.source_joined _ _ _ kept.1.stays on.stays; fewer = omega (arith, kept.1.fewer, on.fewer) };
    }
