use Rattle.std.proofs.Common.{map, take, ap, ◌∙◌, arith, nat_le, subst}
use Rattle.std.specs.List.{filter, filter_map}
use Rattle.std.specs.List.Sorted.{IsStrictlySortedBy}
use Rattle.std.specs.Ordering.{nat_cmp}
use Rattle.mt_model.specs.State.{job_at}
use Rattle.mt_jobs.specs.JobList.{numbers_of}
use Rattle.mt_jobs.proofs.Paged.{page_found}
use Rattle.mt_jobs.proofs.Walks.{found_done}
use Rattle.mt_jobs.proofs.jobs.Jobs.page.Goals as goal

pub returns : goal.returns
returns g c =
    let jobs = c.args.self.now in
    let rising = subst (λ l. IsStrictlySortedBy nat_cmp (numbers_of l)) c.self.view_is c.self.invariant.rising in
    let found = c.deref-number-items.result.now in
    found_done (job_at jobs) found c.loop-number.number-index (map (λ j. j.now) c.loop-number.page.items) (filter_map (job_at jobs) found) (omega arith) c.loop-number.invariant
    ∙ ap (filter_map (job_at jobs)) (c.deref-number-items.ensures.value ∙ c.in_ok-numbers.ensures ∙ ap (λ l. take c.args.limit (filter (λ k. nat_le c.args.from k) l)) c.numbers.ensures)
    ∙ page_found c.args.stand c.args.from c.args.limit jobs rising
