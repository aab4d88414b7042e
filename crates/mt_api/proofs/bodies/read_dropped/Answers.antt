use Rattle.std.proofs.Common.{sym}
use Rattle.md5.specs.Md5.{md5}
use Rattle.mt_http.specs.BodyReading.{body_left}
use Rattle.mt_api.proofs.Lefts.{said_all}
use Rattle.mt_api.proofs.bodies.read_dropped.Goals as goal

pub returns-in-Whole-clause-tells : goal.returns-in-Whole-clause-tells
returns-in-Whole-clause-tells g c wish same =
    let s = said_all (body_left c.args.body.now.framer (g.S.Source.left c.args.body.now.source.now)) in
    (s.0, (s.1, sym (same (md5 s.0))))

pub returns-in-Unfinished-clause-tells : goal.returns-in-Unfinished-clause-tells
returns-in-Unfinished-clause-tells g c wish same = said_all (body_left c.args.body.now.framer (g.S.Source.left c.args.body.now.source.now))
