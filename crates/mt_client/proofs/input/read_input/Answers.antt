use Rattle.std.proofs.Common.{arith}
use Rattle.mt_client.proofs.Inputs.{read_whole, too_large}
use Rattle.mt_client.proofs.input.read_input.Goals as goal

pub returns-in-End-clause-read : goal.returns-in-End-clause-read
returns-in-End-clause-read g c =
    let i = c.pieces.invariant in
    let read = c.in-End.ensures.reads in
    read_whole _ c.pieces.input.items _ _ _ _ _ c.from_vec.result c.from_vec.ensures i.gone read.0 read.1 (omega (arith, c.pieces-test.true, c.pieces.input.ok.0)) i.faults read.2

pub returns-clause-read : goal.returns-clause-read
returns-clause-read g c =
    let i = c.pieces.invariant in
    (too_large _ c.pieces.input.items _ (omega (arith, c.pieces-test.false, c.pieces.input.ok.0)) i.gone, i.faults)
