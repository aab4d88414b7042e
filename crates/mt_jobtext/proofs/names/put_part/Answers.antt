use Rattle.std.proofs.Common.{[], ◌∷◌, sym}
use Rattle.std.proofs.lemmas.Grind.{flat_map-append}
use Rattle.json.specs.Print.{escape_byte}
use Rattle.mt_jobtext.proofs.Windows.{puts_more, puts_same}
use Rattle.mt_jobtext.proofs.names.put_part.Goals as goal

pub returns : goal.returns
returns c =
    puts_same (puts_more c.put_escaped.ensures c.put_escaped-2.ensures) (sym (flat_map-append escape_byte (47 ∷ []) c.args.part.now))
