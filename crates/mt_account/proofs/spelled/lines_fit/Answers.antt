use Rattle.std.proofs.Common.{true, false, arith}
use Rattle.mt_codec.specs.Spelling.{FitsLine}
use Rattle.mt_account.proofs.Each.{of_all, of_one, one_more}
use Rattle.mt_account.proofs.spelled.lines_fit.Goals as goal

pub loop-line-preserved : goal.loop-line-preserved
loop-line-preserved c = one_more (FitsLine true) c.loop-line.line-index c.args.lines.now c.line-item.result c.loop-line-test.true c.line-item.is c.loop-line.invariant c.line_fits.ensures

pub returns : goal.returns
returns c = of_all (FitsLine true) c.loop-line.line-index c.args.lines.now (omega (arith, c.loop-line-test.false)) c.loop-line.invariant

pub line_fits-requires : goal.line_fits-requires
line_fits-requires c = record { limits = of_one (FitsLine false) c.loop-line.line-index c.args.lines.now c.line-item.result c.loop-line-test.true c.line-item.is c.requires.limits }
