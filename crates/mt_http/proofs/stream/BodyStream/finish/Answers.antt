use Rattle.std.proofs.Common.{refl}
use Rattle.mt_http.proofs.Finishes.{finished_after}
use Rattle.mt_http.proofs.stream.BodyStream.finish.Goals as goal

pub returns-clause-body : goal.returns-clause-body
returns-clause-body g c =
    let left = g.S.Source.left in
    let rest = c.drop_rest.ensures in
    record {
      source = refl;
      stays = rest.goes_on.stays;
      after = finished_after c.args.self.now.framer c.drop_rest.new.framer (left c.args.self.now.source.now) (left c.drop_rest.new.source) c.drop_rest.result rest.ended;
      reads = rest.faults;
      failed = rest.failed;
    }
