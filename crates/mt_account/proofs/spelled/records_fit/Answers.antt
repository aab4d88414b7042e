use Rattle.std.proofs.Common.{true, false, arith}
use Rattle.mt_codec.specs.Spelling.{FitsRecord}
use Rattle.mt_account.proofs.Each.{of_all, of_one, one_more}
use Rattle.mt_account.proofs.spelled.records_fit.Goals as goal

pub loop-record-preserved : goal.loop-record-preserved
loop-record-preserved c = one_more (FitsRecord true) c.loop-record.record-index c.args.records.now c.record-item.result c.loop-record-test.true c.record-item.is c.loop-record.invariant c.record_fits.ensures

pub returns : goal.returns
returns c = of_all (FitsRecord true) c.loop-record.record-index c.args.records.now (omega (arith, c.loop-record-test.false)) c.loop-record.invariant

pub record_fits-requires : goal.record_fits-requires
record_fits-requires c = record { limits = of_one (FitsRecord false) c.loop-record.record-index c.args.records.now c.record-item.result c.loop-record-test.true c.record-item.is c.requires.limits }
