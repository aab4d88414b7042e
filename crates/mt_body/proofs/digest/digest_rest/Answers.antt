use Rattle.std.proofs.Common.{◌++◌, take, arith, subst, append_assoc, length-append}
use Rattle.std.proofs.lemmas.List.{length-take-le}
use Rattle.md5.specs.Md5.{Holds}
use Rattle.mt_edge.proofs.Streams.{left_after}
use Rattle.mt_body.proofs.digest.digest_rest.Goals as goal

pub rest-preserved : goal.rest-preserved
rest-preserved g c =
    let i = c.rest.invariant in
    let reads = c.in-Took.ensures.reads in
    let more = take c.in-Took.count c.read.new.into in
    record {
      bytes = i.bytes ++ more;
      took = left_after _ i.bytes _ more _ i.took reads.2;
      digested = λ front holds. subst (λ l. Holds c.update.new.self l) (append_assoc front i.bytes more) (c.update.ensures _ (i.digested front holds));
      count = omega (arith, i.count, length-append i.bytes more, length-take-le c.in-Took.count c.read.new.into reads.1, reads.0);
      stays = g.met.S.Source.source_joined _ _ _ i.stays c.read.ensures.stays;
      faults = omega (arith, i.faults, reads.3);
    }

pub returns-clause-drains : goal.returns-clause-drains
returns-clause-drains g c =
    let i = c.rest.invariant in
    (i.bytes, i.took, i.digested, omega (arith, i.count, c.rest-test.false))
