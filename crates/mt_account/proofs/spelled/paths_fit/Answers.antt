use Rattle.std.proofs.Common.{true, arith}
use Rattle.mt_codec.specs.Spelling.{FitsPath}
use Rattle.mt_account.proofs.Each.{of_all, one_more}
use Rattle.mt_account.proofs.spelled.paths_fit.Goals as goal

pub loop-path-preserved : goal.loop-path-preserved
loop-path-preserved c = one_more (FitsPath true) c.loop-path.path-index c.args.paths.now c.path-item.result c.loop-path-test.true c.path-item.is c.loop-path.invariant c.path_fits.ensures

pub returns : goal.returns
returns c = of_all (FitsPath true) c.loop-path.path-index c.args.paths.now (omega (arith, c.loop-path-test.false)) c.loop-path.invariant
