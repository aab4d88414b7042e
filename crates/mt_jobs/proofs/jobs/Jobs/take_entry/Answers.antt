use Rattle.std.proofs.Common.{◌≡◌, true, refl, sym, ap, subst, ◌∙◌}
use Rattle.std.specs.Prelude.{IfSome, IsSomeAnd, is_err}
use Rattle.mt_model.specs.JobSteps.{commit_refusal, job_refusal, with_entry}
use Rattle.mt_model.specs.Lawful.{LawfulJob}
use Rattle.mt_model.specs.State.{job_at}
use Rattle.mt_model.specs.Tasks.{is_running}
use Rattle.mt_jobs.specs.Listed.{LawfulList, NeverGoesOn, is_next_position}
use Rattle.mt_jobs.proofs.Followed.{allowed_if, last_refusal, lawful_entered, never_allowed, never_next, refused_if}
use Rattle.mt_jobs.proofs.Lasts.{All-last, last_changed, lawful_last}
use Rattle.mt_jobs.proofs.jobs.Jobs.take_entry.Goals as goal

pub returns-then-not-is_next_position-clause-refused : goal.returns-then-not-is_next_position-clause-refused
returns-then-not-is_next_position-clause-refused g c =
    let last = c.in-Some.last.now in
    let e = c.args.entry in
    let fails = ap (λ t. is_next_position c.args.count t e.position) (sym c.as_slice.ensures) ∙ sym c.is_next_position.ensures ∙ c.if-not-is_next_position.true in
    (refl, subst (λ o. IfSome o (λ j. NeverGoesOn c.args.count (with_entry e j))) c.in-Some.ensures (never_next c.args.count last e fails))

pub returns-then-is_err-clause-refused : goal.returns-then-is_err-clause-refused
returns-then-is_err-clause-refused g c =
    let last = c.in-Some.last.now in
    let e = c.args.entry in
    let runs : is_running last ≡ true = subst (λ o. IsSomeAnd o (λ j. is_running j ≡ true)) (sym c.in-Some.ensures) c.requires.runs in
    let refused = refused_if (job_refusal (job_at c.args.self.now last.number) (commit_refusal e.phase e.place)) (ap is_err (sym c.may_commit.ensures) ∙ sym c.is_err.ensures.value ∙ c.if-is_err.true) in
    let here = last_refusal c.args.self.now last (commit_refusal e.phase e.place) c.requires.lawful.rising (sym c.in-Some.ensures) in
    (refl, subst (λ o. IfSome o (λ j. NeverGoesOn c.args.count (with_entry e j))) c.in-Some.ensures (never_allowed c.args.count last e runs (λ none. refused (here ∙ none))))

pub returns-clause-taken : goal.returns-clause-taken
returns-clause-taken g c = c.in_ok-enter_at.ensures ∙ last_changed (with_entry c.args.entry) c.args.self.now c.in-Some.last.now c.requires.lawful.rising (sym c.in-Some.ensures)

pub returns-clause-lawful : goal.returns-clause-lawful
returns-clause-lawful g c =
    let last = c.in-Some.last.now in
    let e = c.args.entry in
    let last_is = sym c.in-Some.ensures in
    let next = ap (λ t. is_next_position c.args.count t e.position) (sym c.as_slice.ensures) ∙ sym c.is_next_position.ensures ∙ c.if-not-is_next_position.false in
    let allowed = allowed_if (job_refusal (job_at c.args.self.now last.number) (commit_refusal e.phase e.place)) (ap is_err (sym c.may_commit.ensures) ∙ sym c.is_err.ensures.value ∙ c.if-is_err.false) in
    let none = sym (last_refusal c.args.self.now last (commit_refusal e.phase e.place) c.requires.lawful.rising last_is) ∙ allowed in
    let law = All-last (LawfulJob c.args.count) c.args.self.now last c.requires.lawful.each last_is in
    subst (LawfulList c.args.count) (sym (c.in_ok-enter_at.ensures ∙ last_changed (with_entry e) c.args.self.now last c.requires.lawful.rising last_is))
    (lawful_last c.args.count (with_entry e) c.args.self.now last c.requires.lawful last_is (λ x. refl) (lawful_entered c.args.count last e c.requires.entry next none law))
