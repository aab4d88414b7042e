use Rattle.std.proofs.Common.{arith}
use Rattle.mt_tasks.proofs.Closing.{close_free, waits_there}
use Rattle.mt_tasks.proofs.Numbers.{has_number}
use Rattle.mt_tasks.proofs.room.has_waiting.Goals as goal

pub returns-clause-found : goal.returns-clause-found
returns-clause-found c = waits_there c.args.engine.now.state c.args.job c.jobs.ensures.lawful c.requires

pub returns-clause-number : goal.returns-clause-number
returns-clause-number c = has_number c.args.engine.now.state c.args.job c.jobs.ensures.lawful (omega (arith, c.position.ensures.most, c.position.ensures.count)) (waits_there c.args.engine.now.state c.args.job c.jobs.ensures.lawful c.requires)

pub returns-clause-free : goal.returns-clause-free
returns-clause-free c = close_free c.args.engine.now.state c.args.job c.jobs.ensures.lawful c.requires
