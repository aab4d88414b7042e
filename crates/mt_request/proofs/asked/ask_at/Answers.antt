use Rattle.std.proofs.Common.{ap, Result, Ok}
use Rattle.mt_error.specs.declared.code.ErrorCode.{ErrorCode}
use Rattle.mt_request.specs.declared.asked.Wanted.{Wanted}
use Rattle.mt_request.proofs.asked.ask_at.Goals as goal

abbrev ok : Wanted → Result Wanted ErrorCode
ok wanted = Ok wanted

pub returns-in-Jobs : goal.returns-in-Jobs
returns-in-Jobs c = rw c.in-Jobs.is (c.ask_jobs.ensures c.args.login.now)

pub returns-in-Input : goal.returns-in-Input
returns-in-Input c = rw c.in-Input.is (ap (λ (wanted : Wanted). ok wanted) (c.ask_input.ensures c.args.login.now c.args.path))
