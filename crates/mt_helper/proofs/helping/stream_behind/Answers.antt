-- A record with this head.
use Rattle.std.proofs.Common.{◌≡◌, ◌∙◌, ◌<◌, List, ℕ, inl, length, refl, subst, sym}
use Rattle.mt_records.specs.Heads.{head_bytes}
use Rattle.mt_helper.specs.declared.status.Status.TheVariants.{OutOfMemory}
use Rattle.mt_helper.specs.Ends.{ends}
use Rattle.mt_helper.specs.Streaming.{Streamed}
use Rattle.mt_helper.proofs.Ran.{some_head}
use Rattle.mt_helper.proofs.Streamed.{later_same, streamed_none}
use Rattle.mt_helper.proofs.helping.stream_behind.Goals as goal

pub encode_head-requires : goal.encode_head-requires
encode_head-requires g c = record { short = c.requires }

pub stream-requires : goal.stream-requires
stream-requires g c =
    let same : c.deref.result.now ≡ head_bytes c.args.head.now = c.deref.ensures.value ∙ c.in-Ok.ensures in
    subst (λ (l : List ℕ). 0 < length l) (sym same) (some_head c.args.head.now)

pub returns-in-Ok-clause-streamed : goal.returns-in-Ok-clause-streamed
returns-in-Ok-clause-streamed g c =
    let same : c.deref.result.now ≡ head_bytes c.args.head.now = c.deref.ensures.value ∙ c.in-Ok.ensures in
    subst (λ (l : List ℕ). Streamed l c.args.copies c.stream.result
    (ends (g.S.Source.left c.args.source.now) (g.K.Sink.got c.args.sink.now) (g.P.Spool.files c.args.spool.now) (g.S.Source.read_faults c.args.source.now) (g.K.Sink.write_faults c.args.sink.now) (g.P.Spool.faults c.args.spool.now))
    (ends (g.S.Source.left c.stream.new.source) (g.K.Sink.got c.stream.new.sink) (g.P.Spool.files c.stream.new.spool) (g.S.Source.read_faults c.stream.new.source) (g.K.Sink.write_faults c.stream.new.sink) (g.P.Spool.faults c.stream.new.spool)))
    same c.stream.ensures.streamed

pub returns-in-Ok-clause-later : goal.returns-in-Ok-clause-later
returns-in-Ok-clause-later g c = c.stream.ensures.later

pub returns-in-Ok-clause-source_stays : goal.returns-in-Ok-clause-source_stays
returns-in-Ok-clause-source_stays g c = c.stream.ensures.source_stays

pub returns-in-Ok-clause-sink_stays : goal.returns-in-Ok-clause-sink_stays
returns-in-Ok-clause-sink_stays g c = c.stream.ensures.sink_stays

pub returns-in-Err-clause-streamed : goal.returns-in-Err-clause-streamed
returns-in-Err-clause-streamed g c =
    streamed_none (head_bytes c.args.head.now) c.args.copies OutOfMemory (g.S.Source.left c.args.source.now) (g.K.Sink.got c.args.sink.now) (g.P.Spool.files c.args.spool.now) (g.P.Spool.files c.args.spool.now)
    (g.S.Source.read_faults c.args.source.now) (g.K.Sink.write_faults c.args.sink.now) (g.P.Spool.faults c.args.spool.now) (g.S.Source.read_faults c.args.source.now) (g.K.Sink.write_faults c.args.sink.now) (g.P.Spool.faults c.args.spool.now)
    (λ e. absurd (cc)) (λ e. absurd (cc)) tt (inl refl) tt

pub returns-in-Err-clause-later : goal.returns-in-Err-clause-later
returns-in-Err-clause-later g c = later_same (ends (g.S.Source.left c.args.source.now) (g.K.Sink.got c.args.sink.now) (g.P.Spool.files c.args.spool.now) (g.S.Source.read_faults c.args.source.now) (g.K.Sink.write_faults c.args.sink.now) (g.P.Spool.faults c.args.spool.now))

pub returns-in-Err-clause-source_stays : goal.returns-in-Err-clause-source_stays
returns-in-Err-clause-source_stays g c = g.met.S.Source.source_same _

pub returns-in-Err-clause-sink_stays : goal.returns-in-Err-clause-sink_stays
returns-in-Err-clause-sink_stays g c = g.met.K.Sink.sink_same _
