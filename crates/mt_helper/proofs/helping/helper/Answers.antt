-- By the words.
use Rattle.std.proofs.Common.{map, subst, sym}
use Rattle.std.specs.Prelude.{string_bytes}
use Rattle.mt_helper.specs.declared.status.Status.{Status}
use Rattle.mt_helper.specs.Ends.{ends}
use Rattle.mt_helper.specs.Helping.{Helped}
use Rattle.mt_helper.specs.Words.{asked_by}
use Rattle.mt_helper.proofs.Fits.{asked_fit}
use Rattle.mt_helper.proofs.Ran.{helped_error, helped_ok}
use Rattle.mt_helper.proofs.Streamed.{later_same}
use Rattle.mt_helper.proofs.helping.helper.Goals as goal

pub run-requires : goal.run-requires
run-requires g c = asked_fit (map string_bytes c.args.words.now) c.in-Ok.tool c.in-Ok.ensures.ok

pub returns-in-Ok-clause-helped : goal.returns-in-Ok-clause-helped
returns-in-Ok-clause-helped g c =
    helped_ok (asked_by (map string_bytes c.args.words.now)) c.in-Ok.tool c.run.result (ends (g.S.Source.left c.args.source.now) (g.K.Sink.got c.args.sink.now) (g.P.Spool.files c.args.spool.now) (g.S.Source.read_faults c.args.source.now) (g.K.Sink.write_faults c.args.sink.now) (g.P.Spool.faults c.args.spool.now)) (ends (g.S.Source.left c.run.new.source) (g.K.Sink.got c.run.new.sink) (g.P.Spool.files c.run.new.spool) (g.S.Source.read_faults c.run.new.source) (g.K.Sink.write_faults c.run.new.sink) (g.P.Spool.faults c.run.new.spool)) c.in-Ok.ensures.ok c.run.ensures.ran

pub returns-in-Ok-clause-later : goal.returns-in-Ok-clause-later
returns-in-Ok-clause-later g c = c.run.ensures.later

pub returns-in-Ok-clause-source_stays : goal.returns-in-Ok-clause-source_stays
returns-in-Ok-clause-source_stays g c = c.run.ensures.source_stays

pub returns-in-Ok-clause-sink_stays : goal.returns-in-Ok-clause-sink_stays
returns-in-Ok-clause-sink_stays g c = c.run.ensures.sink_stays

pub returns-in-Err-clause-helped : goal.returns-in-Err-clause-helped
returns-in-Err-clause-helped g c =
    subst (λ (status : Status). Helped (asked_by (map string_bytes c.args.words.now)) status (ends (g.S.Source.left c.args.source.now) (g.K.Sink.got c.args.sink.now) (g.P.Spool.files c.args.spool.now) (g.S.Source.read_faults c.args.source.now) (g.K.Sink.write_faults c.args.sink.now) (g.P.Spool.faults c.args.spool.now)) (ends (g.S.Source.left c.args.source.now) (g.K.Sink.got c.args.sink.now) (g.P.Spool.files c.args.spool.now) (g.S.Source.read_faults c.args.source.now) (g.K.Sink.write_faults c.args.sink.now) (g.P.Spool.faults c.args.spool.now))) (sym c.status_of.ensures)
    (helped_error (map string_bytes c.args.words.now) c.in-Err.error (g.S.Source.left c.args.source.now) (g.K.Sink.got c.args.sink.now) (g.P.Spool.files c.args.spool.now) (g.S.Source.read_faults c.args.source.now) (g.K.Sink.write_faults c.args.sink.now) (g.P.Spool.faults c.args.spool.now) c.in-Err.ensures.refused)

pub returns-in-Err-clause-later : goal.returns-in-Err-clause-later
returns-in-Err-clause-later g c = later_same (ends (g.S.Source.left c.args.source.now) (g.K.Sink.got c.args.sink.now) (g.P.Spool.files c.args.spool.now) (g.S.Source.read_faults c.args.source.now) (g.K.Sink.write_faults c.args.sink.now) (g.P.Spool.faults c.args.spool.now))

pub returns-in-Err-clause-source_stays : goal.returns-in-Err-clause-source_stays
returns-in-Err-clause-source_stays g c = g.met.S.Source.source_same _

pub returns-in-Err-clause-sink_stays : goal.returns-in-Err-clause-sink_stays
returns-in-Err-clause-sink_stays g c = g.met.K.Sink.sink_same _
