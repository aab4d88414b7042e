use Rattle.mt_codec.proofs.Known.{fields_short}
use Rattle.mt_codec.proofs.writing.put_metadata.Goals as goal

pub put_all-requires : goal.put_all-requires
put_all-requires c = fields_short c.args.fields.now (record { few = c.requires.few; each = c.requires.each; all = c.requires.all })
