use Rattle.std.proofs.Common.{inr, []}
use Rattle.mt_helper.proofs.Spools.{free_of, grown, puts_front}
use Rattle.mt_helper.proofs.spooling.put_file.Goals as goal

pub returns-in-Ok-clause-puts : goal.returns-in-Ok-clause-puts
returns-in-Ok-clause-puts g c =
    let takes = c.in_ok-number.ensures.takes in
    (takes.0, grown c.in_ok-number.number [] c.args.bytes.now _ _ _ (free_of c.in_ok-number.number _ takes.0) takes.1 c.in-Ok.ensures.adds)

pub returns-in-Err-clause-puts : goal.returns-in-Err-clause-puts
returns-in-Err-clause-puts g c = inr (puts_front c.in_ok-number.number c.args.bytes.now _ _ _ c.in_ok-number.ensures.takes.0 c.in_ok-number.ensures.takes.1 c.in-Err.ensures.adds)
