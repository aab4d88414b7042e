use Rattle.std.proofs.Common.{length, take, get_or, sym, ap, ◌∙◌, arith, length-append}
use Rattle.std.proofs.lemmas.List.{take_all}
use Rattle.json.specs.Print.{escape, escape_byte}
use Rattle.mt_jobtext.proofs.Spelled.{flat_map_more}
use Rattle.mt_jobtext.proofs.quotes.escaped_len.Goals as goal

pub loop-byte-preserved : goal.loop-byte-preserved
loop-byte-preserved c =
    let block = c.args.block.now in
    let k = c.loop-byte.byte-index in
    let more = sym (length-append (escape (take k block)) (escape_byte (get_or block k 0))) ∙ ap length (flat_map_more escape_byte block k 0 c.loop-byte-test.true) in
    (omega (arith, more), omega arith)

pub returns : goal.returns
returns c = c.loop-byte.invariant.0 ∙ ap (λ l. length (escape l)) (take_all c.loop-byte.byte-index c.args.block.now c.loop-byte-test.false)
