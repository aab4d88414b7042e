-- Jobs of a lawful state within its limits have texts.
use Rattle.std.proofs.Common.{ℕ, ◌*◌, ◌<◌, ◌≤◌, ◌==◌, true, false, cond, List, [], ◌∷◌, Option, Some, None, All, IfSome, arith}
use Rattle.std.specs.List.{AllByRecursion}
use Rattle.std.proofs.lemmas.Bool.{leb-true}
use Rattle.std.proofs.lemmas.List.Elements.{All-head, All-tail}
use Rattle.mt_base.specs.declared.limits.TheConstants.{LAST_MOMENT}
use Rattle.mt_types.specs.declared.job.Job.{Job}
use Rattle.mt_types.specs.declared.limits.TheConstants.{MOST_COMMANDS}
use Rattle.mt_model.specs.Honest.{OfFound}
use Rattle.mt_model.specs.Keeping.{IsJob, IsMoment}
use Rattle.mt_model.specs.Lawful.{LawfulJob}
use Rattle.mt_model.specs.State.{job_at}
use Rattle.mt_jobtext.specs.Laws.{JobsAreShowable}
use Rattle.mt_jobtext.specs.Pieces.{IsShowable}

moment_is : (o : Option ℕ) → IfSome o IsMoment → IfSome o (λ m. m ≤ LAST_MOMENT)
moment_is None is = tt
moment_is (Some m) is = leb-true m LAST_MOMENT is

module _ {B : Type 0} where
  showable : (count : ℕ) (j : Job B) → count ≤ MOST_COMMANDS → LawfulJob count j → IsJob j → IsShowable j
  showable count j few lawful limits =
      let below : j.number < count * 4096 = lawful.number.below in
      record {
        number = omega (arith, below, few);
        created = leb-true j.created LAST_MOMENT limits.created;
        done = moment_is j.done limits.done;
      }

  pub found_showable : (count number : ℕ) (jobs : List (Job B)) → count ≤ MOST_COMMANDS → All (LawfulJob count) jobs → AllByRecursion IsJob jobs → OfFound IsShowable (job_at jobs number)
  found_showable count number [] few lawful limits = tt
  found_showable count number (j ∷ js) few lawful limits =
      elim (j.number == number) as (λ b. OfFound IsShowable (cond b (Some j) (job_at js number))) [
        | true ↦ showable count j few (All-head (LawfulJob count) j js lawful) limits.0
        | false ↦ found_showable count number js few (All-tail (LawfulJob count) j js lawful) limits.1
      ]

pub jobs_showable : JobsAreShowable
jobs_showable s number lawful limits few = found_showable s.count number s.jobs few lawful.jobs.each limits.jobs
