use Rattle.std.proofs.Common.{◌≡◌, sym, length, ap, arith, ◌∙◌}
use Rattle.std.proofs.lemmas.List.{take_all, with_items_is}
use Rattle.mt_log.specs.LogState.{told}
use Rattle.mt_log.specs.Places.{payload_at}
use Rattle.mt_log.proofs.log.Log.read.Goals as goal

pub read_part-requires-clause-there : goal.read_part-requires-clause-there
read_part-requires-clause-there g c is_open files is = c.requires.there is_open files (sym c.payload_len.ensures.read.seen_same ∙ is)

pub returns-in-Ok-clause-payload : goal.returns-in-Ok-clause-payload
returns-in-Ok-clause-payload g c ps is =
    let same = ap told c.payload_len.ensures.read.seen_same ∙ is in
    let count : length c.read_part.new.into ≡ c.in_ok-len.len = omega (arith, c.read_part.auto.into, c.as_mut_slice.ensures.len, c.in_ok-resize.ensures.len) in
    with_items_is c.resize.new.self c.read_part.new.into (omega (arith, c.read_part.auto.into, c.as_mut_slice.ensures.len)) ∙ c.in-Ok.ensures.part ps same ∙ take_all _ (payload_at c.args.place ps) (omega (arith, c.in_ok-len.ensures.len ps is, count, c.read_part.auto.into))
