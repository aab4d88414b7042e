use Rattle.std.proofs.Common.{◌≡◌, None, refl, sym, subst, ◌∙◌}
use Rattle.std.specs.Prelude.{IsSomeAnd}
use Rattle.std.specs.List.Sorted.{IsStrictlySortedBy}
use Rattle.std.specs.Ordering.{nat_cmp}
use Rattle.std.proofs.lemmas.Result.{on_ok_weaker}
use Rattle.mt_model.specs.JobSteps.{input_refusal, with_end}
use Rattle.mt_model.specs.Lawful.{LawfulJob}
use Rattle.mt_model.specs.Rows.{first_rows}
use Rattle.mt_jobs.specs.JobList.{numbers_of}
use Rattle.mt_jobs.specs.Listed.{LawfulList}
use Rattle.mt_jobs.proofs.Followed.{jobs_ended, last_refusal, lawful_ended}
use Rattle.mt_jobs.proofs.Lasts.{All-last, last_changed, lawful_last}
use Rattle.mt_jobs.proofs.jobs.Jobs.take_end.Goals as goal

pub end_input-requires-clause-allowed : goal.end_input-requires-clause-allowed
end_input-requires-clause-allowed g c =
    let last = c.in-Some.last.now in
    let rising = subst (λ l. IsStrictlySortedBy nat_cmp (numbers_of l)) c.self.view_is c.self.invariant.rising in
    last_refusal c.args.self.now last input_refusal rising (sym c.in-Some.ensures) ∙ subst (λ o. IsSomeAnd o (λ j. input_refusal j ≡ None)) (sym c.in-Some.ensures) c.requires.open

pub returns-clause-ended : goal.returns-clause-ended
returns-clause-ended g c =
    let last = c.in-Some.last.now in
    let rising = subst (λ l. IsStrictlySortedBy nat_cmp (numbers_of l)) c.self.view_is c.self.invariant.rising in
    on_ok_weaker c.end_input.result
    (λ is. jobs_ended first_rows c.args.self.now c.end_input.new.self last.number (is 0 0 first_rows) ∙ last_changed with_end c.args.self.now last rising (sym c.in-Some.ensures))
    c.end_input.ensures

pub returns-clause-lawful : goal.returns-clause-lawful
returns-clause-lawful g c =
    let last = c.in-Some.last.now in
    let last_is = sym c.in-Some.ensures in
    let opened : input_refusal last ≡ None = subst (λ o. IsSomeAnd o (λ j. input_refusal j ≡ None)) (sym c.in-Some.ensures) c.requires.open in
    on_ok_weaker c.end_input.result
    (λ is count lawful.
    subst (LawfulList count) (sym (jobs_ended first_rows c.args.self.now c.end_input.new.self last.number (is 0 0 first_rows) ∙ last_changed with_end c.args.self.now last lawful.rising last_is))
    (lawful_last count with_end c.args.self.now last lawful last_is (λ x. refl) (lawful_ended count last opened (All-last (LawfulJob count) c.args.self.now last lawful.each last_is))))
    c.end_input.ensures
