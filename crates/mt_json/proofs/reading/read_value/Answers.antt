use Rattle.std.proofs.lemmas.Bool.{iff_false}
use Rattle.mt_json.proofs.Values.{no_value, value_is}
use Rattle.mt_json.proofs.reading.read_value.Goals as goal

pub returns-in-Ok : goal.returns-in-Ok
returns-in-Ok c = value_is c.args.bytes.now _ c.in-Ok.ensures.ok.0 c.in-Ok.ensures.ok.1

pub returns-else-is_memory : goal.returns-else-is_memory
returns-else-is_memory c = no_value c.args.bytes.now (c.in-Err.ensures.err (iff_false c.is_memory.ensures c.if-is_memory.false))
