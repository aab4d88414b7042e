use Rattle.std.proofs.Common.{true, false, arith}
use Rattle.mt_codec.specs.Spelling.{FitsPhase}
use Rattle.mt_account.proofs.Each.{of_all, of_one, one_more}
use Rattle.mt_account.proofs.spelled.phases_fit.Goals as goal

pub loop-phase-preserved : goal.loop-phase-preserved
loop-phase-preserved c = one_more (FitsPhase true) c.loop-phase.phase-index c.args.phases.now c.phase-item.result c.loop-phase-test.true c.phase-item.is c.loop-phase.invariant c.phase_fits.ensures

pub returns : goal.returns
returns c = of_all (FitsPhase true) c.loop-phase.phase-index c.args.phases.now (omega (arith, c.loop-phase-test.false)) c.loop-phase.invariant

pub phase_fits-requires : goal.phase_fits-requires
phase_fits-requires c = record { limits = of_one (FitsPhase false) c.loop-phase.phase-index c.args.phases.now c.phase-item.result c.loop-phase-test.true c.phase-item.is c.requires.limits }
