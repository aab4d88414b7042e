use Rattle.std.proofs.Common.{◌≡◌, ◌≤◌, ℕ, None, Some, sym, ◌∙◌, subst}
use Rattle.md5.specs.Md5.{md5}
use Rattle.mt_answer.specs.JobLaws.{NamesNumber}
use Rattle.mt_answer.specs.Judging.{len_of}
use Rattle.mt_answer.specs.declared.posted.Posted.{Posted}
use Rattle.mt_answer.proofs.JobExits.{cancelled_found}
use Rattle.mt_types.specs.declared.limits.TheConstants.{MOST_COMMANDS}
use Rattle.mt_api.specs.Jobs.{job_refusal}
use Rattle.mt_api.proofs.Jobs.{cancels}
use Rattle.mt_api.proofs.job.carry_out_job.Goals as goal

pub cancel-requires-clause-cancels : goal.cancel-requires-clause-cancels
cancel-requires-clause-cancels g c =
    let s = c.args.engine.now.state in
    let request = c.args.call.request in
    let is = cancels request.doing c.in-Some.job (sym c.cancelled_job.ensures ∙ c.in-Some.is) in
    let taken = c.requires.is_taken in
    let numbers = c.job_done_is_allowed.ensures.number request s c.args.posted taken.0 c.jobs.ensures.lawful (subst (λ (n : ℕ). n ≤ MOST_COMMANDS) c.position.ensures.count c.position.ensures.most) taken.1 in
    record {
      is = is;
      found = cancelled_found len_of request s c.args.posted taken.0 c.in-Some.job is taken.1;
      number = subst NamesNumber is numbers;
    }

pub change_or_look-requires-clause-names : goal.change_or_look-requires-clause-names
change_or_look-requires-clause-names g c =
    let taken = c.requires.is_taken in
    c.job_done_is_allowed.ensures.number c.args.call.request c.args.engine.now.state c.args.posted taken.0 c.jobs.ensures.lawful (subst (λ (n : ℕ). n ≤ MOST_COMMANDS) c.position.ensures.count c.position.ensures.most) taken.1

pub change_or_look-requires-clause-stays : goal.change_or_look-requires-clause-stays
change_or_look-requires-clause-stays g c = sym c.cancelled_job.ensures ∙ c.in-None.is

pub returns-in-Some-clause-settles : goal.returns-in-Some-clause-settles
returns-in-Some-clause-settles g c base h asked bytes i e asks none =
    c.cancel.ensures.settles base h asked bytes i e (subst (λ (p : Posted). job_refusal c.args.engine.now c.args.call.request p (Some (md5 bytes)) ≡ None) asks none)

pub returns-in-None-clause-settles : goal.returns-in-None-clause-settles
returns-in-None-clause-settles g c base h asked bytes i e asks none = c.change_or_look.ensures.settles base h asked bytes i e asks none
