use Rattle.std.proofs.Common.{◌≤◌, arith, ap, length}
use Rattle.std.specs.Fmt.{decimal}
use Rattle.std.proofs.lemmas.Fmt.{length-decimal-le}
use Rattle.std.proofs.lemmas.List.{length-append}
use Rattle.mt_gen.proofs.messages.put_number.Goals as goal

pub unreachable-requires : goal.unreachable-requires
unreachable-requires c =
    let few : length (decimal c.args.number) ≤ 20 = length-decimal-le 20 c.args.number (omega arith) (omega (arith, c.ranges.number.fits)) (omega (arith, c.ranges.number.fits)) in
    omega (arith, few, c.in-Err.ensures.full, c.requires)

pub returns-clause-short : goal.returns-clause-short
returns-clause-short c =
    let few : length (decimal c.args.number) ≤ 20 = length-decimal-le 20 c.args.number (omega arith) (omega (arith, c.ranges.number.fits)) (omega (arith, c.ranges.number.fits)) in
    omega (arith, few, ap length c.in-Ok.ensures.bytes, length-append c.args.out.now.items (decimal c.args.number))
