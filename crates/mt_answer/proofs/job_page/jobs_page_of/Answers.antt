use Rattle.std.proofs.Common.{rules, ◌≡◌, ◌<◌, ◌^◌, ℕ, List, [], false, ap, subst, sym, ◌∙◌}
use Rattle.std.specs.Prelude.{IfOk, nat_le}
use Rattle.mt_ident.specs.Identifiers.{is_from}
use Rattle.mt_live.specs.LiveTexts.{jobs_text}
use Rattle.mt_types.specs.declared.body.Body.{Body}
use Rattle.mt_types.specs.declared.job.Job.{Job}
use Rattle.mt_answer.proofs.JobLists.{page_from, page_none}
use Rattle.mt_answer.proofs.job_page.jobs_page_of.Goals as goal

pub returns-in-Some : goal.returns-in-Some
returns-in-Some c =
    let page = c.args.page.now in
    let marker : c.as_slice.result.now ≡ page.marker = search rules in
    let least : (m : ℕ) → m < 2 ^ 62 → is_from 2 page.marker m ≡ nat_le c.in-Some.from m =
    subst (λ (t : List ℕ). (m : ℕ) → m < 2 ^ 62 → is_from 2 t m ≡ nat_le c.in-Some.from m) marker c.in-Some.ensures.1 in
    subst (λ (text : List ℕ). IfOk c.page_from.result (λ t. t ≡ text)) (ap (λ (js : List (Job Body)). jobs_text js) (page_from c.args.stand page c.args.jobs.now c.in-Some.from c.requires least)) c.page_from.ensures

pub returns-in-None : goal.returns-in-None
returns-in-None c =
    let page = c.args.page.now in
    let marker : c.as_slice.result.now ≡ page.marker = search rules in
    let none : (m : ℕ) → m < 2 ^ 62 → is_from 2 page.marker m ≡ false =
    subst (λ (t : List ℕ). (m : ℕ) → m < 2 ^ 62 → is_from 2 t m ≡ false) marker c.in-None.ensures in
    let empty : c.from_vec.result ≡ [] = search rules in
    empty ∙ sym (ap (λ (js : List (Job Body)). jobs_text js) (page_none c.args.stand page c.args.jobs.now c.requires none))
