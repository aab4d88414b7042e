use Rattle.std.proofs.Common.{◌≡◌, true, refl, sym, ap, subst, ◌∙◌}
use Rattle.std.specs.Prelude.{IfSome, IsSomeAnd, ℕ, is_err}
use Rattle.std.specs.List.Sorted.{IsStrictlySortedBy}
use Rattle.std.specs.Ordering.{nat_cmp}
use Rattle.mt_model.specs.JobSteps.{close_refusal, done_at, job_refusal}
use Rattle.mt_model.specs.Lawful.{LawfulJob}
use Rattle.mt_model.specs.State.{job_at}
use Rattle.mt_model.specs.Tasks.{is_running}
use Rattle.mt_jobs.specs.JobList.{numbers_of}
use Rattle.mt_jobs.specs.Listed.{LawfulList}
use Rattle.mt_jobs.proofs.Followed.{allowed_if, last_refusal, lawful_done, may_be_done, refused_if}
use Rattle.mt_jobs.proofs.Lasts.{All-last, last_changed, lawful_last}
use Rattle.mt_jobs.proofs.jobs.Jobs.take_done.Goals as goal

pub returns-then-is_err-clause-refused : goal.returns-then-is_err-clause-refused
returns-then-is_err-clause-refused g c =
    let last = c.in-Some.last.now in
    let rising = subst (λ l. IsStrictlySortedBy nat_cmp (numbers_of l)) c.self.view_is c.self.invariant.rising in
    let runs : is_running last ≡ true = subst (λ o. IsSomeAnd o (λ j. is_running j ≡ true)) (sym c.in-Some.ensures) c.requires.runs in
    let refused = refused_if (job_refusal (job_at c.args.self.now last.number) (close_refusal c.args.cancelled)) (ap is_err (sym c.may_close.ensures) ∙ sym c.is_err.ensures.value ∙ c.if-is_err.true) in
    let here = last_refusal c.args.self.now last (close_refusal c.args.cancelled) rising (sym c.in-Some.ensures) in (
      refl,
      subst (λ o. IfSome o (λ j. (count : ℕ) → LawfulJob count (done_at c.args.moment c.args.cancelled j) → ⊥)) c.in-Some.ensures
          (λ count law. refused (here ∙ may_be_done count c.args.moment c.args.cancelled last runs law)),
    )

pub returns-clause-taken : goal.returns-clause-taken
returns-clause-taken g c =
    let rising = subst (λ l. IsStrictlySortedBy nat_cmp (numbers_of l)) c.self.view_is c.self.invariant.rising in
    c.in_ok-end_as.ensures.ok ∙ last_changed (done_at c.args.moment c.args.cancelled) c.args.self.now c.in-Some.last.now rising (sym c.in-Some.ensures)

pub returns-clause-lawful : goal.returns-clause-lawful
returns-clause-lawful g c = λ count lawful.
    let last = c.in-Some.last.now in
    let last_is = sym c.in-Some.ensures in
    let allowed = allowed_if (job_refusal (job_at c.args.self.now last.number) (close_refusal c.args.cancelled)) (ap is_err (sym c.may_close.ensures) ∙ sym c.is_err.ensures.value ∙ c.if-is_err.false) in
    let none = sym (last_refusal c.args.self.now last (close_refusal c.args.cancelled) lawful.rising last_is) ∙ allowed in
    let law = All-last (LawfulJob count) c.args.self.now last lawful.each last_is in
    subst (LawfulList count) (sym (c.in_ok-end_as.ensures.ok ∙ last_changed (done_at c.args.moment c.args.cancelled) c.args.self.now last lawful.rising last_is))
    (lawful_last count (done_at c.args.moment c.args.cancelled) c.args.self.now last lawful last_is (λ x. refl) (lawful_done count c.args.moment c.args.cancelled last none law))
