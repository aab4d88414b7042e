-- The record is begun, all that is read goes on into it, and its end comes behind.
use Rattle.std.proofs.Common.{◌∙◌, ℕ, List, Err, ap, inl, option_map, refl, subst}
use Rattle.mt_spawn.specs.Spools.{AppendsFront, with_bytes}
use Rattle.mt_helper.specs.declared.status.Status.TheVariants.{OutOfMemory}
use Rattle.mt_helper.specs.Ends.{AreLater, ends, halt_status}
use Rattle.mt_helper.proofs.Spools.{is_there, none_below}
use Rattle.mt_helper.proofs.Streamed.{halt-not_all, halt-runs, halt-small, halt_later, halted, halted_count, later_on, later_same, never_fell, rose_later, streamed_cut, streamed_front, streamed_none, streamed_whole}
use Rattle.mt_helper.proofs.Streams.{stays_there}
use Rattle.mt_helper.proofs.streaming.stream.Goals as goal

pub put_file-requires-clause-taken : goal.put_file-requires-clause-taken
put_file-requires-clause-taken g c = none_below (g.P.Spool.files c.args.spool.now)

pub returns-in_default-clause-streamed : goal.returns-in_default-clause-streamed
returns-in_default-clause-streamed g c =
    streamed_none c.args.head.now c.args.copies OutOfMemory (g.S.Source.left c.args.source.now) (g.K.Sink.got c.args.sink.now) (g.P.Spool.files c.args.spool.now) (g.P.Spool.files c.args.spool.now)
    (g.S.Source.read_faults c.args.source.now) (g.K.Sink.write_faults c.args.sink.now) (g.P.Spool.faults c.args.spool.now) (g.S.Source.read_faults c.args.source.now) (g.K.Sink.write_faults c.args.sink.now) (g.P.Spool.faults c.args.spool.now)
    (λ e. absurd (cc)) (λ e. absurd (cc)) tt (inl refl) tt

pub returns-in-Err-clause-streamed : goal.returns-in-Err-clause-streamed
returns-in-Err-clause-streamed g c =
    let halt = c.in-Err.halt in
    rw c.status_of.ensures
    (streamed_none c.args.head.now c.args.copies (halt_status halt) (g.S.Source.left c.args.source.now) (g.K.Sink.got c.args.sink.now) (g.P.Spool.files c.args.spool.now) (g.P.Spool.files c.put_file.new.spool)
    (g.S.Source.read_faults c.args.source.now) (g.K.Sink.write_faults c.args.sink.now) (g.P.Spool.faults c.args.spool.now) (g.S.Source.read_faults c.args.source.now) (g.K.Sink.write_faults c.args.sink.now) (g.P.Spool.faults c.put_file.new.spool)
    (halt-not_all halt) (halt-small halt) (halt-runs halt)
    (halted halt c.args.head.now (g.P.Spool.files c.args.spool.now) (g.P.Spool.files c.put_file.new.spool) c.in-Err.ensures.puts)
    (halted_count halt (g.S.Source.left c.args.source.now) (g.K.Sink.got c.args.sink.now) (g.P.Spool.files c.args.spool.now) (g.P.Spool.files c.put_file.new.spool)
    (g.S.Source.read_faults c.args.source.now) (g.K.Sink.write_faults c.args.sink.now) (g.P.Spool.faults c.args.spool.now) (g.P.Spool.faults c.put_file.new.spool) c.in-Err.ensures.faults))

pub pump-requires-clause-there : goal.pump-requires-clause-there
pump-requires-clause-there g c = is_there c.in-Ok-put_file.number c.args.head.now (g.P.Spool.files c.args.spool.now) (g.P.Spool.files c.put_file.new.spool) c.in-Ok-put_file.ensures.puts.1

pub returns-in-Err-pump-clause-streamed : goal.returns-in-Err-pump-clause-streamed
returns-in-Err-pump-clause-streamed g c =
    streamed_front c.args.head.now c.args.copies c.in-Ok-put_file.number (g.S.Source.left c.args.source.now) (g.K.Sink.got c.args.sink.now) (g.P.Spool.files c.args.spool.now) (g.P.Spool.files c.put_file.new.spool)
    (g.S.Source.read_faults c.args.source.now) (g.K.Sink.write_faults c.args.sink.now) (g.P.Spool.faults c.args.spool.now) (g.S.Source.read_faults c.args.source.now) (g.K.Sink.write_faults c.args.sink.now) (g.P.Spool.faults c.put_file.new.spool)
    c.in-Ok-put_file.ensures.puts.0 c.in-Ok-put_file.ensures.puts.1 record { read = never_fell _; write = never_fell _; spool = c.in-Ok-put_file.ensures.faults }
    c.in-Err-pump.status
    (ends (g.S.Source.left c.pump.new.source) (g.K.Sink.got c.pump.new.sink) (g.P.Spool.files c.pump.new.spool) (g.S.Source.read_faults c.pump.new.source) (g.K.Sink.write_faults c.pump.new.sink) (g.P.Spool.faults c.pump.new.spool))
    c.in-Err-pump.ensures.pumps

pub add-requires : goal.add-requires
add-requires g c =
    let n = c.in-Ok-put_file.number in
    stays_there n n c.in-Ok-pump.ensures.pumps.input (g.P.Spool.files c.put_file.new.spool) (g.P.Spool.files c.pump.new.spool) c.in-Ok-pump.ensures.pumps.moved.add
    (is_there n c.args.head.now (g.P.Spool.files c.args.spool.now) (g.P.Spool.files c.put_file.new.spool) c.in-Ok-put_file.ensures.puts.1)

pub returns-in-Ok-add-clause-streamed : goal.returns-in-Ok-add-clause-streamed
returns-in-Ok-add-clause-streamed g c =
    streamed_whole c.args.head.now c.args.copies c.in-Ok-put_file.number (g.S.Source.left c.args.source.now) (g.K.Sink.got c.args.sink.now) (g.P.Spool.files c.args.spool.now) (g.P.Spool.files c.put_file.new.spool)
    (g.S.Source.read_faults c.args.source.now) (g.K.Sink.write_faults c.args.sink.now) (g.P.Spool.faults c.args.spool.now) (g.S.Source.read_faults c.args.source.now) (g.K.Sink.write_faults c.args.sink.now) (g.P.Spool.faults c.put_file.new.spool)
    c.in-Ok-put_file.ensures.puts.0 c.in-Ok-put_file.ensures.puts.1 record { read = never_fell _; write = never_fell _; spool = c.in-Ok-put_file.ensures.faults }
    c.in-Ok-pump.len
    (ends (g.S.Source.left c.pump.new.source) (g.K.Sink.got c.pump.new.sink) (g.P.Spool.files c.pump.new.spool) (g.S.Source.read_faults c.pump.new.source) (g.K.Sink.write_faults c.pump.new.sink) (g.P.Spool.faults c.pump.new.spool))
    (ends (g.S.Source.left c.pump.new.source) (g.K.Sink.got c.pump.new.sink) (g.P.Spool.files c.add.new.spool) (g.S.Source.read_faults c.pump.new.source) (g.K.Sink.write_faults c.pump.new.sink) (g.P.Spool.faults c.add.new.spool))
    c.in-Ok-pump.ensures.pumps refl refl
    (c.in-Ok-add.ensures.adds ∙ ap (λ (bytes : List ℕ). option_map (with_bytes c.in-Ok-put_file.number bytes) (g.P.Spool.files c.pump.new.spool)) c.end_of.ensures)

pub returns-clause-streamed : goal.returns-clause-streamed
returns-clause-streamed g c =
    streamed_cut c.args.head.now c.args.copies c.in-Ok-put_file.number (g.S.Source.left c.args.source.now) (g.K.Sink.got c.args.sink.now) (g.P.Spool.files c.args.spool.now) (g.P.Spool.files c.put_file.new.spool)
    (g.S.Source.read_faults c.args.source.now) (g.K.Sink.write_faults c.args.sink.now) (g.P.Spool.faults c.args.spool.now) (g.S.Source.read_faults c.args.source.now) (g.K.Sink.write_faults c.args.sink.now) (g.P.Spool.faults c.put_file.new.spool)
    c.in-Ok-put_file.ensures.puts.0 c.in-Ok-put_file.ensures.puts.1 record { read = never_fell _; write = never_fell _; spool = c.in-Ok-put_file.ensures.faults }
    c.in-Ok-pump.len
    (ends (g.S.Source.left c.pump.new.source) (g.K.Sink.got c.pump.new.sink) (g.P.Spool.files c.pump.new.spool) (g.S.Source.read_faults c.pump.new.source) (g.K.Sink.write_faults c.pump.new.sink) (g.P.Spool.faults c.pump.new.spool))
    (ends (g.S.Source.left c.pump.new.source) (g.K.Sink.got c.pump.new.sink) (g.P.Spool.files c.add.new.spool) (g.S.Source.read_faults c.pump.new.source) (g.K.Sink.write_faults c.pump.new.sink) (g.P.Spool.faults c.add.new.spool))
    c.in-Ok-pump.ensures.pumps refl refl
    (subst (λ (bytes : List ℕ). AppendsFront (g.P.Spool.files c.pump.new.spool) c.in-Ok-put_file.number bytes (g.P.Spool.files c.add.new.spool)) c.end_of.ensures c.in-Err-add.ensures.adds)
    (rose_later _ _ _ _ c.in-Ok-put_file.ensures.faults c.in-Ok-pump.ensures.later.spool c.in-Err-add.ensures.faults.failed)

-- ---- what stays, and counts

pub returns-in_default-clause-later : goal.returns-in_default-clause-later
returns-in_default-clause-later g c = later_same (ends (g.S.Source.left c.args.source.now) (g.K.Sink.got c.args.sink.now) (g.P.Spool.files c.args.spool.now) (g.S.Source.read_faults c.args.source.now) (g.K.Sink.write_faults c.args.sink.now) (g.P.Spool.faults c.args.spool.now))

pub returns-in_default-clause-source_stays : goal.returns-in_default-clause-source_stays
returns-in_default-clause-source_stays g c = g.met.S.Source.source_same _

pub returns-in_default-clause-sink_stays : goal.returns-in_default-clause-sink_stays
returns-in_default-clause-sink_stays g c = g.met.K.Sink.sink_same _

pub returns-in-Err-clause-later : goal.returns-in-Err-clause-later
returns-in-Err-clause-later g c = record { read = never_fell _; write = never_fell _; spool = halt_later {A = ℕ} (Err c.in-Err.halt) _ _ c.in-Err.ensures.faults }

pub returns-in-Err-clause-source_stays : goal.returns-in-Err-clause-source_stays
returns-in-Err-clause-source_stays g c = g.met.S.Source.source_same _

pub returns-in-Err-clause-sink_stays : goal.returns-in-Err-clause-sink_stays
returns-in-Err-clause-sink_stays g c = g.met.K.Sink.sink_same _

pub returns-in-Err-pump-clause-later : goal.returns-in-Err-pump-clause-later
returns-in-Err-pump-clause-later g c =
    later_on (ends (g.S.Source.left c.args.source.now) (g.K.Sink.got c.args.sink.now) (g.P.Spool.files c.args.spool.now) (g.S.Source.read_faults c.args.source.now) (g.K.Sink.write_faults c.args.sink.now) (g.P.Spool.faults c.args.spool.now))
    (ends (g.S.Source.left c.args.source.now) (g.K.Sink.got c.args.sink.now) (g.P.Spool.files c.put_file.new.spool) (g.S.Source.read_faults c.args.source.now) (g.K.Sink.write_faults c.args.sink.now) (g.P.Spool.faults c.put_file.new.spool))
    (ends (g.S.Source.left c.pump.new.source) (g.K.Sink.got c.pump.new.sink) (g.P.Spool.files c.pump.new.spool) (g.S.Source.read_faults c.pump.new.source) (g.K.Sink.write_faults c.pump.new.sink) (g.P.Spool.faults c.pump.new.spool))
    record { read = never_fell _; write = never_fell _; spool = c.in-Ok-put_file.ensures.faults } c.in-Err-pump.ensures.later

pub returns-in-Err-pump-clause-source_stays : goal.returns-in-Err-pump-clause-source_stays
returns-in-Err-pump-clause-source_stays g c = c.in-Err-pump.ensures.source_stays

pub returns-in-Err-pump-clause-sink_stays : goal.returns-in-Err-pump-clause-sink_stays
returns-in-Err-pump-clause-sink_stays g c = c.in-Err-pump.ensures.sink_stays

pub returns-in-Ok-add-clause-later : goal.returns-in-Ok-add-clause-later
returns-in-Ok-add-clause-later g c =
    let begun : AreLater (ends (g.S.Source.left c.args.source.now) (g.K.Sink.got c.args.sink.now) (g.P.Spool.files c.args.spool.now) (g.S.Source.read_faults c.args.source.now) (g.K.Sink.write_faults c.args.sink.now) (g.P.Spool.faults c.args.spool.now)) (ends (g.S.Source.left c.args.source.now) (g.K.Sink.got c.args.sink.now) (g.P.Spool.files c.put_file.new.spool) (g.S.Source.read_faults c.args.source.now) (g.K.Sink.write_faults c.args.sink.now) (g.P.Spool.faults c.put_file.new.spool)) = record { read = never_fell _; write = never_fell _; spool = c.in-Ok-put_file.ensures.faults } in
    let pumped = later_on (ends (g.S.Source.left c.args.source.now) (g.K.Sink.got c.args.sink.now) (g.P.Spool.files c.args.spool.now) (g.S.Source.read_faults c.args.source.now) (g.K.Sink.write_faults c.args.sink.now) (g.P.Spool.faults c.args.spool.now)) (ends (g.S.Source.left c.args.source.now) (g.K.Sink.got c.args.sink.now) (g.P.Spool.files c.put_file.new.spool) (g.S.Source.read_faults c.args.source.now) (g.K.Sink.write_faults c.args.sink.now) (g.P.Spool.faults c.put_file.new.spool)) (ends (g.S.Source.left c.pump.new.source) (g.K.Sink.got c.pump.new.sink) (g.P.Spool.files c.pump.new.spool) (g.S.Source.read_faults c.pump.new.source) (g.K.Sink.write_faults c.pump.new.sink) (g.P.Spool.faults c.pump.new.spool)) begun c.in-Ok-pump.ensures.later in
    later_on (ends (g.S.Source.left c.args.source.now) (g.K.Sink.got c.args.sink.now) (g.P.Spool.files c.args.spool.now) (g.S.Source.read_faults c.args.source.now) (g.K.Sink.write_faults c.args.sink.now) (g.P.Spool.faults c.args.spool.now)) (ends (g.S.Source.left c.pump.new.source) (g.K.Sink.got c.pump.new.sink) (g.P.Spool.files c.pump.new.spool) (g.S.Source.read_faults c.pump.new.source) (g.K.Sink.write_faults c.pump.new.sink) (g.P.Spool.faults c.pump.new.spool)) (ends (g.S.Source.left c.pump.new.source) (g.K.Sink.got c.pump.new.sink) (g.P.Spool.files c.add.new.spool) (g.S.Source.read_faults c.pump.new.source) (g.K.Sink.write_faults c.pump.new.sink) (g.P.Spool.faults c.add.new.spool)) pumped record { read = never_fell _; write = never_fell _; spool = c.in-Ok-add.ensures.faults.later }

pub returns-in-Ok-add-clause-source_stays : goal.returns-in-Ok-add-clause-source_stays
returns-in-Ok-add-clause-source_stays g c = c.in-Ok-pump.ensures.source_stays

pub returns-in-Ok-add-clause-sink_stays : goal.returns-in-Ok-add-clause-sink_stays
returns-in-Ok-add-clause-sink_stays g c = c.in-Ok-pump.ensures.sink_stays

pub returns-clause-later : goal.returns-clause-later
returns-clause-later g c =
    let begun : AreLater (ends (g.S.Source.left c.args.source.now) (g.K.Sink.got c.args.sink.now) (g.P.Spool.files c.args.spool.now) (g.S.Source.read_faults c.args.source.now) (g.K.Sink.write_faults c.args.sink.now) (g.P.Spool.faults c.args.spool.now)) (ends (g.S.Source.left c.args.source.now) (g.K.Sink.got c.args.sink.now) (g.P.Spool.files c.put_file.new.spool) (g.S.Source.read_faults c.args.source.now) (g.K.Sink.write_faults c.args.sink.now) (g.P.Spool.faults c.put_file.new.spool)) = record { read = never_fell _; write = never_fell _; spool = c.in-Ok-put_file.ensures.faults } in
    let pumped = later_on (ends (g.S.Source.left c.args.source.now) (g.K.Sink.got c.args.sink.now) (g.P.Spool.files c.args.spool.now) (g.S.Source.read_faults c.args.source.now) (g.K.Sink.write_faults c.args.sink.now) (g.P.Spool.faults c.args.spool.now)) (ends (g.S.Source.left c.args.source.now) (g.K.Sink.got c.args.sink.now) (g.P.Spool.files c.put_file.new.spool) (g.S.Source.read_faults c.args.source.now) (g.K.Sink.write_faults c.args.sink.now) (g.P.Spool.faults c.put_file.new.spool)) (ends (g.S.Source.left c.pump.new.source) (g.K.Sink.got c.pump.new.sink) (g.P.Spool.files c.pump.new.spool) (g.S.Source.read_faults c.pump.new.source) (g.K.Sink.write_faults c.pump.new.sink) (g.P.Spool.faults c.pump.new.spool)) begun c.in-Ok-pump.ensures.later in
    later_on (ends (g.S.Source.left c.args.source.now) (g.K.Sink.got c.args.sink.now) (g.P.Spool.files c.args.spool.now) (g.S.Source.read_faults c.args.source.now) (g.K.Sink.write_faults c.args.sink.now) (g.P.Spool.faults c.args.spool.now)) (ends (g.S.Source.left c.pump.new.source) (g.K.Sink.got c.pump.new.sink) (g.P.Spool.files c.pump.new.spool) (g.S.Source.read_faults c.pump.new.source) (g.K.Sink.write_faults c.pump.new.sink) (g.P.Spool.faults c.pump.new.spool)) (ends (g.S.Source.left c.pump.new.source) (g.K.Sink.got c.pump.new.sink) (g.P.Spool.files c.add.new.spool) (g.S.Source.read_faults c.pump.new.source) (g.K.Sink.write_faults c.pump.new.sink) (g.P.Spool.faults c.add.new.spool)) pumped record { read = never_fell _; write = never_fell _; spool = c.in-Err-add.ensures.faults.later }

pub returns-clause-source_stays : goal.returns-clause-source_stays
returns-clause-source_stays g c = c.in-Ok-pump.ensures.source_stays

pub returns-clause-sink_stays : goal.returns-clause-sink_stays
returns-clause-sink_stays g c = c.in-Ok-pump.ensures.sink_stays
