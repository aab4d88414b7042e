use Rattle.mt_path.proofs.Cuts.{position_or_len-at, position_or_len-none}
use Rattle.mt_path.proofs.Keys.{is_zero}
use Rattle.mt_path.proofs.key.part_len.Goals as goal

pub returns-in-Some-clause-value : goal.returns-in-Some-clause-value
returns-in-Some-clause-value c = position_or_len-at is_zero c.args.rest.now c.in-Some.end c.in-Some.ensures

pub returns-in-None-clause-value : goal.returns-in-None-clause-value
returns-in-None-clause-value c = position_or_len-none is_zero c.args.rest.now c.in-None.ensures
