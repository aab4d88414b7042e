use Rattle.mt_types.proofs.Metadata.{by_name-one}
use Rattle.mt_types.proofs.texts.+are_by_name.Goals as goal

pub returns-in-len1 : goal.returns-in-len1
returns-in-len1 t c = by_name-one c.args.fields.now c.in-len1.len_below
