use Rattle.std.proofs.Common.{◌≡◌, true, [], None, List, ℕ, Option, arith, length, sym, subst, take, rules}
use Rattle.std.proofs.lemmas.List.{length-take-le}
use Rattle.std.specs.Prelude.{IfSome}
use Rattle.mt_http.specs.Body.{BodyState, is_sound, ended}
use Rattle.mt_http.specs.declared.stage.Stage.{Stage}
use Rattle.mt_http.specs.BodyReading.{Goes, EndsBy}
use Rattle.mt_http.proofs.BodyPieces.{HasRoom, goes_by_piece, line_front, nearer_by_piece}
use Rattle.mt_http.proofs.BodyReadings.{goes_on, ends_on, ends_cut}
use Rattle.mt_http.proofs.stream.reach_data.Goals as goal

pub returns-in-End : goal.returns-in-End
returns-in-End g c =
    let kept = c.loop-left.invariant in
    let read = c.in-End.ensures.reads in
    let open_yet : ended c.loop-left.framer.stage ≡ None = search rules in
    let none = subst (λ (o : Option (List ℕ)). IfSome o (λ bytes. bytes ≡ [])) (sym read.1) read.0 in
    let cut = ends_cut c.loop-left.framer _ _ open_yet none read.1 in
    let here = subst (λ (s : BodyState). EndsBy c.loop-left.framer (g.S.Source.left c.loop-left.source) s (g.S.Source.left c.read_line.new.self)) (sym c.cut.ensures) cut in
    record {
      reached = (ends_on _ _ c.loop-left.framer _ c.cut.new.self _ kept.0 here, omega (arith, kept.2, read.2));
      goes_on = record { stays = g.met.S.Source.source_joined _ _ _ kept.1.stays c.in-End.ensures.stays; fewer = search rules };
    }

pub loop-left-smaller : goal.loop-left-smaller
loop-left-smaller g c =
    let reads = c.in-Took.ensures.reads in
    let piece = take c.in-Took.count c.read_line.new.into in
    let size = length-take-le c.in-Took.count c.read_line.new.into reads.1 in
    let room : HasRoom c.loop-left.framer (length piece) = record { other = search rules; open_yet = search rules; few = search rules } in
    let sound : is_sound c.loop-left.framer.stage ≡ true = subst (λ (s : Stage). is_sound s ≡ true) c.stage.ensures.stage c.stage.ensures.sound in
    let line = line_front c.in-Took.count c.read_line.new.into reads.1 c.in-Took.ensures.line in
    let near = nearer_by_piece c.loop-left.framer piece room sound line (omega (arith, reads.0, size)) in
    rw c.take_piece.ensures near.0

pub loop-left-preserved : goal.loop-left-preserved
loop-left-preserved g c =
    let kept = c.loop-left.invariant in
    let reads = c.in-Took.ensures.reads in
    let piece = take c.in-Took.count c.read_line.new.into in
    let size = length-take-le c.in-Took.count c.read_line.new.into reads.1 in
    let room : HasRoom c.loop-left.framer (length piece) = record { other = search rules; open_yet = search rules; few = search rules } in
    let sound : is_sound c.loop-left.framer.stage ≡ true = subst (λ (s : Stage). is_sound s ≡ true) c.stage.ensures.stage c.stage.ensures.sound in
    let line = line_front c.in-Took.count c.read_line.new.into reads.1 c.in-Took.ensures.line in
    let near = nearer_by_piece c.loop-left.framer piece room sound line (omega (arith, reads.0, size)) in
    let step = goes_by_piece c.loop-left.framer _ piece _ room line reads.2 in
    let here = subst (λ (s : BodyState). Goes c.loop-left.framer (g.S.Source.left c.loop-left.source) [] s (g.S.Source.left c.read_line.new.self)) (sym c.take_piece.ensures) step in (
      goes_on _ _ [] c.loop-left.framer _ [] c.take_piece.new.self _ kept.0 here,
      record {
        stays = g.met.S.Source.source_joined _ _ _ kept.1.stays c.in-Took.ensures.stays;
        fewer = rw c.take_piece.ensures (omega (arith, near.1, kept.1.fewer));
      },
      omega (arith, kept.2, reads.3),
    )
