use Rattle.std.proofs.Common.{◌<◌, ◌^◌, arith, length}
use Rattle.std.proofs.lemmas.List.Elements.{recursion_from_All}
use Rattle.mt_path.specs.AccountPath.{IsComponent}
use Rattle.mt_codec.proofs.Known.{parts_short}
use Rattle.mt_codec.proofs.writing.put_path.Goals as goal

pub overflow_cast-len : goal.overflow_cast-len
overflow_cast-len c =
    let short : length c.args.path.now.parts < 2 ^ 16 = parts_short c.args.path.now c.key-key.ensures.path in
    omega arith

pub put_parts-requires-clause-parts : goal.put_parts-requires-clause-parts
put_parts-requires-clause-parts c = rw c.key-key.ensures.parts (recursion_from_All IsComponent c.args.path.now.parts c.key-key.ensures.path.components)
