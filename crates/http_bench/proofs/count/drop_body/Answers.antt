use Rattle.std.proofs.Common.{arith}
use Rattle.http_bench.proofs.Bodies.{whole_body}
use Rattle.http_bench.proofs.count.drop_body.Goals as goal

pub returns-in-Some-Whole-clause-whole : goal.returns-in-Some-Whole-clause-whole
returns-in-Some-Whole-clause-whole g c =
    let whole = whole_body _ c.drain.new.source.framer _ _ _ c.in_ok-size.ensures.count c.in_ok-size.ensures.stays.2 (cc (c.ending.ensures, c.in-Some-Whole.is, c.in-Some-Whole.field-0-is)) in
    grind (arith, whole, c.new-body.ensures.source, c.new-body.ensures.framer, c.limit_of.ensures)
