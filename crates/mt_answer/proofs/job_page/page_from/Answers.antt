use Rattle.std.proofs.Common.{rules, ◌≡◌, List, map, subst, sym}
use Rattle.mt_types.specs.declared.body.Body.{Body}
use Rattle.mt_types.specs.declared.job.Job.{Job}
use Rattle.mt_answer.specs.JobLaws.{AreShowable}
use Rattle.mt_answer.proofs.JobLists.{moments_of_page, numbers_of_page, page_showable}
use Rattle.mt_answer.proofs.job_page.page_from.Goals as goal

pub text_of-requires-clause-numbers : goal.text_of-requires-clause-numbers
text_of-requires-clause-numbers c =
    let items : c.as_slice.result.now ≡ c.in_ok-found.found.items = search rules in
    let all : AreShowable (map (λ j. j.now) c.in_ok-found.found.items) =
    subst (λ (js : List (Job Body)). AreShowable js) (sym c.in_ok-found.ensures) (page_showable c.args.stand c.args.jobs.now c.args.from c.args.limit c.requires) in
    rw items (numbers_of_page c.in_ok-found.found.items all)

pub text_of-requires-clause-moments : goal.text_of-requires-clause-moments
text_of-requires-clause-moments c =
    let items : c.as_slice.result.now ≡ c.in_ok-found.found.items = search rules in
    let all : AreShowable (map (λ j. j.now) c.in_ok-found.found.items) =
    subst (λ (js : List (Job Body)). AreShowable js) (sym c.in_ok-found.ensures) (page_showable c.args.stand c.args.jobs.now c.args.from c.args.limit c.requires) in
    rw items (moments_of_page c.in_ok-found.found.items all)
