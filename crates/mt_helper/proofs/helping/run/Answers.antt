-- Each tool by its call.
use Rattle.std.proofs.Common.{List, ℕ, map, subst, sym}
use Rattle.std.specs.Prelude.{IsTrue}
use Rattle.std.specs.List.{AllByRecursion}
use Rattle.mt_records.specs.Heads.{is_short}
use Rattle.mt_records.specs.Records.{record_bytes}
use Rattle.mt_helper.specs.declared.tool.Tool.{Tool}
use Rattle.mt_helper.specs.Ends.{ends}
use Rattle.mt_helper.specs.Helping.{IsFit, Made, Ran, ref_of}
use Rattle.mt_helper.proofs.Ran.{catted, piped, splitted, teed}
use Rattle.mt_helper.proofs.Streamed.{never_fell}
use Rattle.mt_helper.proofs.helping.run.Goals as goal

pub stream_behind-requires : goal.stream_behind-requires
stream_behind-requires g c = subst IsFit c.in-Pipe.is c.requires

pub stream_behind-requires-in-Tee : goal.stream_behind-requires-in-Tee
stream_behind-requires-in-Tee g c = subst IsFit c.in-Tee.is c.requires

pub put_refs-requires : goal.put_refs-requires
put_refs-requires g c =
    let fit = subst IsFit c.in-Cat.is c.requires in
    subst (λ (l : List (List ℕ)). AllByRecursion (λ name. IsTrue (is_short name)) l) (sym c.as_slice.ensures) fit.1

pub split_input-requires : goal.split_input-requires
split_input-requires g c = subst IsFit c.in-Split.is c.requires

pub returns-in-Pipe-clause-ran : goal.returns-in-Pipe-clause-ran
returns-in-Pipe-clause-ran g c =
    subst (λ (t : Tool). Ran t c.stream_behind.result (ends (g.S.Source.left c.args.source.now) (g.K.Sink.got c.args.sink.now) (g.P.Spool.files c.args.spool.now) (g.S.Source.read_faults c.args.source.now) (g.K.Sink.write_faults c.args.sink.now) (g.P.Spool.faults c.args.spool.now)) (ends (g.S.Source.left c.stream_behind.new.source) (g.K.Sink.got c.stream_behind.new.sink) (g.P.Spool.files c.stream_behind.new.spool) (g.S.Source.read_faults c.stream_behind.new.source) (g.K.Sink.write_faults c.stream_behind.new.sink) (g.P.Spool.faults c.stream_behind.new.spool))) (sym c.in-Pipe.is)
    (piped c.in-Pipe.place c.in-Pipe.reducer c.stream_behind.result (ends (g.S.Source.left c.args.source.now) (g.K.Sink.got c.args.sink.now) (g.P.Spool.files c.args.spool.now) (g.S.Source.read_faults c.args.source.now) (g.K.Sink.write_faults c.args.sink.now) (g.P.Spool.faults c.args.spool.now)) (ends (g.S.Source.left c.stream_behind.new.source) (g.K.Sink.got c.stream_behind.new.sink) (g.P.Spool.files c.stream_behind.new.spool) (g.S.Source.read_faults c.stream_behind.new.source) (g.K.Sink.write_faults c.stream_behind.new.sink) (g.P.Spool.faults c.stream_behind.new.spool)) c.stream_behind.ensures.streamed)

pub returns-in-Pipe-clause-later : goal.returns-in-Pipe-clause-later
returns-in-Pipe-clause-later g c = c.stream_behind.ensures.later

pub returns-in-Pipe-clause-source_stays : goal.returns-in-Pipe-clause-source_stays
returns-in-Pipe-clause-source_stays g c = c.stream_behind.ensures.source_stays

pub returns-in-Pipe-clause-sink_stays : goal.returns-in-Pipe-clause-sink_stays
returns-in-Pipe-clause-sink_stays g c = c.stream_behind.ensures.sink_stays

pub returns-in-Tee-clause-ran : goal.returns-in-Tee-clause-ran
returns-in-Tee-clause-ran g c =
    subst (λ (t : Tool). Ran t c.stream_behind-in-Tee.result (ends (g.S.Source.left c.args.source.now) (g.K.Sink.got c.args.sink.now) (g.P.Spool.files c.args.spool.now) (g.S.Source.read_faults c.args.source.now) (g.K.Sink.write_faults c.args.sink.now) (g.P.Spool.faults c.args.spool.now)) (ends (g.S.Source.left c.stream_behind-in-Tee.new.source) (g.K.Sink.got c.stream_behind-in-Tee.new.sink) (g.P.Spool.files c.stream_behind-in-Tee.new.spool) (g.S.Source.read_faults c.stream_behind-in-Tee.new.source) (g.K.Sink.write_faults c.stream_behind-in-Tee.new.sink) (g.P.Spool.faults c.stream_behind-in-Tee.new.spool))) (sym c.in-Tee.is)
    (teed c.in-Tee.place c.stream_behind-in-Tee.result (ends (g.S.Source.left c.args.source.now) (g.K.Sink.got c.args.sink.now) (g.P.Spool.files c.args.spool.now) (g.S.Source.read_faults c.args.source.now) (g.K.Sink.write_faults c.args.sink.now) (g.P.Spool.faults c.args.spool.now)) (ends (g.S.Source.left c.stream_behind-in-Tee.new.source) (g.K.Sink.got c.stream_behind-in-Tee.new.sink) (g.P.Spool.files c.stream_behind-in-Tee.new.spool) (g.S.Source.read_faults c.stream_behind-in-Tee.new.source) (g.K.Sink.write_faults c.stream_behind-in-Tee.new.sink) (g.P.Spool.faults c.stream_behind-in-Tee.new.spool)) c.stream_behind-in-Tee.ensures.streamed)

pub returns-in-Tee-clause-later : goal.returns-in-Tee-clause-later
returns-in-Tee-clause-later g c = c.stream_behind-in-Tee.ensures.later

pub returns-in-Tee-clause-source_stays : goal.returns-in-Tee-clause-source_stays
returns-in-Tee-clause-source_stays g c = c.stream_behind-in-Tee.ensures.source_stays

pub returns-in-Tee-clause-sink_stays : goal.returns-in-Tee-clause-sink_stays
returns-in-Tee-clause-sink_stays g c = c.stream_behind-in-Tee.ensures.sink_stays

pub returns-in-Cat-clause-ran : goal.returns-in-Cat-clause-ran
returns-in-Cat-clause-ran g c =
    subst (λ (t : Tool). Ran t c.put_refs.result (ends (g.S.Source.left c.args.source.now) (g.K.Sink.got c.args.sink.now) (g.P.Spool.files c.args.spool.now) (g.S.Source.read_faults c.args.source.now) (g.K.Sink.write_faults c.args.sink.now) (g.P.Spool.faults c.args.spool.now)) (ends (g.S.Source.left c.args.source.now) (g.K.Sink.got c.args.sink.now) (g.P.Spool.files c.put_refs.new.spool) (g.S.Source.read_faults c.args.source.now) (g.K.Sink.write_faults c.args.sink.now) (g.P.Spool.faults c.put_refs.new.spool))) (sym c.in-Cat.is)
    (catted c.in-Cat.names c.put_refs.result (g.S.Source.left c.args.source.now) (g.K.Sink.got c.args.sink.now) (g.P.Spool.files c.args.spool.now) (g.P.Spool.files c.put_refs.new.spool) (g.S.Source.read_faults c.args.source.now) (g.K.Sink.write_faults c.args.sink.now) (g.P.Spool.faults c.args.spool.now) (g.P.Spool.faults c.put_refs.new.spool)
    (subst (λ (l : List (List ℕ)). Made (map record_bytes (map ref_of l)) c.put_refs.result (g.P.Spool.files c.args.spool.now) (g.P.Spool.faults c.args.spool.now) (g.P.Spool.files c.put_refs.new.spool) (g.P.Spool.faults c.put_refs.new.spool)) c.as_slice.ensures c.put_refs.ensures))

pub returns-in-Cat-clause-later : goal.returns-in-Cat-clause-later
returns-in-Cat-clause-later g c = record { read = never_fell _; write = never_fell _; spool = c.put_refs.ensures.later }

pub returns-in-Cat-clause-source_stays : goal.returns-in-Cat-clause-source_stays
returns-in-Cat-clause-source_stays g c = g.met.S.Source.source_same _

pub returns-in-Cat-clause-sink_stays : goal.returns-in-Cat-clause-sink_stays
returns-in-Cat-clause-sink_stays g c = g.met.K.Sink.sink_same _

pub returns-in-Split-clause-ran : goal.returns-in-Split-clause-ran
returns-in-Split-clause-ran g c =
    subst (λ (t : Tool). Ran t c.split_input.result (ends (g.S.Source.left c.args.source.now) (g.K.Sink.got c.args.sink.now) (g.P.Spool.files c.args.spool.now) (g.S.Source.read_faults c.args.source.now) (g.K.Sink.write_faults c.args.sink.now) (g.P.Spool.faults c.args.spool.now)) (ends (g.S.Source.left c.split_input.new.source) (g.K.Sink.got c.args.sink.now) (g.P.Spool.files c.split_input.new.spool) (g.S.Source.read_faults c.split_input.new.source) (g.K.Sink.write_faults c.args.sink.now) (g.P.Spool.faults c.split_input.new.spool))) (sym c.in-Split.is)
    (splitted c.in-Split.count c.in-Split.rule c.split_input.result (g.S.Source.left c.args.source.now) (g.S.Source.left c.split_input.new.source) (g.K.Sink.got c.args.sink.now) (g.P.Spool.files c.args.spool.now) (g.P.Spool.files c.split_input.new.spool)
    (g.S.Source.read_faults c.args.source.now) (g.S.Source.read_faults c.split_input.new.source) (g.K.Sink.write_faults c.args.sink.now) (g.P.Spool.faults c.args.spool.now) (g.P.Spool.faults c.split_input.new.spool) c.split_input.ensures.shared)

pub returns-in-Split-clause-later : goal.returns-in-Split-clause-later
returns-in-Split-clause-later g c = record { read = c.split_input.ensures.reads; write = never_fell _; spool = c.split_input.ensures.spools }

pub returns-in-Split-clause-source_stays : goal.returns-in-Split-clause-source_stays
returns-in-Split-clause-source_stays g c = c.split_input.ensures.stays

pub returns-in-Split-clause-sink_stays : goal.returns-in-Split-clause-sink_stays
returns-in-Split-clause-sink_stays g c = g.met.K.Sink.sink_same _
