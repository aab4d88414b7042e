use Rattle.std.proofs.Common.{None, Some, arith}
use Rattle.mt_split.specs.Spans.{bytes_in}
use Rattle.mt_records.specs.Heads.{head_bytes}
use Rattle.mt_records.specs.declared.head.RecordHead.TheVariants.{Emit}
use Rattle.mt_gen.proofs.Files.{part_is}
use Rattle.mt_gen.proofs.work.part_bytes.Goals as goal

pub returns : goal.returns
returns c =
    part_is (head_bytes (Emit None (Some c.args.reducer))) (bytes_in c.args.text.now c.args.spans.now) c.in_ok-bytes.bytes.items c.put_spans.new.out.items c.extend_from_slice.new.self.items c.end_of.result
    c.len.result c.len-head_len.result c.in_ok-bytes.ensures c.in_ok-put_spans.ensures c.in_ok-extend_from_slice.ensures.items c.end_of.ensures
    (omega (arith, c.len.ensures, c.put_spans.new.out.ok.0)) (omega (arith, c.len-head_len.ensures, c.in_ok-bytes.bytes.ok.0))
