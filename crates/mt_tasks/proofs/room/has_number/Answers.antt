use Rattle.std.proofs.Common.{arith}
use Rattle.mt_tasks.proofs.Numbers.{has_number}
use Rattle.mt_tasks.proofs.room.has_number.Goals as goal

pub returns : goal.returns
returns c = has_number c.args.engine.now.state c.args.job c.jobs.ensures.lawful (omega (arith, c.position.ensures.most, c.position.ensures.count)) c.requires
