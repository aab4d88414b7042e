-- Pieces that were read went on, one after another.
use Rattle.std.proofs.Common.{◌≡◌, List, ℕ, arith, length, take, refl}
use Rattle.std.proofs.lemmas.List.{length-take-le}
use Rattle.std.proofs.lemmas.Result.{err_from_is_err_and}
use Rattle.mt_helper.specs.Ends.{ends}
use Rattle.mt_helper.proofs.Streams.{flows_on, nothing_flows, pumped_cut, pumped_large, stays_there}
use Rattle.mt_helper.proofs.streaming.pump.Goals as goal

pub read-init : goal.read-init
read-init g c = record {
  flows = nothing_flows c.args.number c.args.copies _ _ _;
  there = c.requires.there;
  few = omega arith;
  later = record { read = omega arith; write = omega arith; spool = omega arith };
  source = g.met.S.Source.source_same _;
  sink = g.met.K.Sink.sink_same _;
}

pub read-preserved : goal.read-preserved
read-preserved g c =
    let i = c.read.invariant in
    let reads = c.in-Took.ensures.reads in
    let moved = c.in_ok-pass-in-Took.ensures.passes in
    let piece : List ℕ = take c.in-Took.count c.read-in-read.new.into in
    let size : length piece ≡ c.in-Took.count = length-take-le c.in-Took.count c.read-in-read.new.into reads.1 in
    record {
      flows = flows_on c.args.number c.args.copies _ _ _ _ _ _ _ _ _ c.read.len c.in-Took.count piece size i.flows reads.2 moved;
      there = stays_there c.args.number c.args.number piece _ _ moved.add i.there;
      few = omega arith;
      later = record {
        read = omega (arith, i.later.read, reads.3);
        write = omega (arith, i.later.write, c.in_ok-pass-in-Took.ensures.writes);
        spool = omega (arith, i.later.spool, c.in_ok-pass-in-Took.ensures.spools);
      };
      source = g.met.S.Source.source_joined _ _ _ i.source c.in-Took.ensures.stays;
      sink = g.met.K.Sink.sink_joined _ _ _ i.sink c.in_ok-pass-in-Took.ensures.stays;
    }

pub returns-then-len-gt-LARGEST_INPUT-clause-pumps : goal.returns-then-len-gt-LARGEST_INPUT-clause-pumps
returns-then-len-gt-LARGEST_INPUT-clause-pumps g c =
    let reads = c.in-Took.ensures.reads in
    let piece : List ℕ = take c.in-Took.count c.read-in-read.new.into in
    let size : length piece ≡ c.in-Took.count = length-take-le c.in-Took.count c.read-in-read.new.into reads.1 in
    pumped_large c.args.number c.args.copies c.read.len piece _ (record { left = _; got = _; files = _; read_faults = 0; write_faults = 0; spool_faults = 0 }) _ c.read.invariant.flows reads.2 (omega (arith, size)) refl refl

pub returns-in_err-pass-in-Took-clause-pumps : goal.returns-in_err-pass-in-Took-clause-pumps
returns-in_err-pass-in-Took-clause-pumps g c =
    let i = c.read.invariant in
    let reads = c.in-Took.ensures.reads in
    let failed = c.in_err-pass-in-Took.ensures in
    let piece : List ℕ = take c.in-Took.count c.read-in-read.new.into in
    let size : length piece ≡ c.in-Took.count = length-take-le c.in-Took.count c.read-in-read.new.into reads.1 in
    let p = err_from_is_err_and c.from_residual.result c.from_residual.ensures.1 in
    rw (p.1, p.2)
    (pumped_cut c.args.number c.args.copies c.read.len piece
    (ends (g.S.Source.left c.args.source.now) (g.K.Sink.got c.args.sink.now) (g.P.Spool.files c.args.spool.now) (g.S.Source.read_faults c.args.source.now) (g.K.Sink.write_faults c.args.sink.now) (g.P.Spool.faults c.args.spool.now))
    (ends (g.S.Source.left c.read.source) (g.K.Sink.got c.read.sink) (g.P.Spool.files c.read.spool) (g.S.Source.read_faults c.read.source) (g.K.Sink.write_faults c.read.sink) (g.P.Spool.faults c.read.spool))
    (ends (g.S.Source.left c.read-in-read.new.self) (g.K.Sink.got c.pass.new.sink) (g.P.Spool.files c.pass.new.spool) (g.S.Source.read_faults c.read-in-read.new.self) (g.K.Sink.write_faults c.pass.new.sink) (g.P.Spool.faults c.pass.new.spool))
    c.in_err-pass-in-Took.field-0.0 i.flows reads.2 (omega (arith, size)) failed.passes i.later failed.cause)
