-- What was read and not kept.
use Rattle.std.proofs.Common.{◌-◌, ◌<◌, ◌≤◌, arith, length, take}
use Rattle.std.proofs.lemmas.List.{length-take-le}
use Rattle.mt_helper.specs.declared.limits.TheConstants.{LARGEST_INPUT}
use Rattle.mt_helper.proofs.Ran.{read_large, read_no_memory}
use Rattle.mt_helper.proofs.helping.read_input.Goals as goal

pub returns-then-count-len-clause-reads : goal.returns-then-count-len-clause-reads
returns-then-count-len-clause-reads g c =
    let reads = c.in-Took.ensures.reads in
    let more : LARGEST_INPUT - length c.read.bytes.items < c.in-Took.count = omega (arith, c.len.ensures, c.read.bytes.ok.0, c.if-count-len.true) in
    read_large c.read.bytes.items (take c.in-Took.count c.read-in-read.new.into) c.in-Took.count _ _ _ _ _ (length-take-le c.in-Took.count c.read-in-read.new.into reads.1) c.read.invariant.took reads.2 more

pub returns-then-is_err-clause-reads : goal.returns-then-is_err-clause-reads
returns-then-is_err-clause-reads g c =
    let reads = c.in-Took.ensures.reads in
    let fits : c.in-Took.count ≤ LARGEST_INPUT - length c.read.bytes.items = omega (arith, c.len.ensures, c.read.bytes.ok.0, c.if-count-len.false) in
    read_no_memory c.read.bytes.items (take c.in-Took.count c.read-in-read.new.into) c.in-Took.count _ _ _ _ _ (length-take-le c.in-Took.count c.read-in-read.new.into reads.1) c.read.invariant.took reads.2 fits c.read.invariant.few
