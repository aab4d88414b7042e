use Rattle.std.proofs.Common.{◌≡◌, ◌∙◌, List, ℕ, [], ◌∷◌, ◌++◌, ap}
use Rattle.std.specs.Prelude.{codes, decimal}
use Rattle.mt_path.specs.AccountPath.{path_text}
use Rattle.mt_model.specs.Names.{job_name}
use Rattle.mt_phase.proofs.Texts.{joined}
use Rattle.mt_phase.proofs.base.base.Goals as goal

-- each push adds one part of the path
pub returns : goal.returns
unfolding path_text
returns c =
    let id : c.ascii.result.now ≡ job_name c.args.job = c.ascii.ensures ∙ c.uuid_text-id.ensures.text in
    let root_made = c.in_ok-push_str-5.ensures.bytes ∙ ap (λ (made : List ℕ). made ++ c.args.root.now)
    (c.in_ok-push_str-4.ensures.bytes ∙ ap (λ (made : List ℕ). made ++ codes "/stor/")
    (c.in_ok-push_str-3.ensures.bytes ∙ (λ k. (c.in_ok-push_str-2.ensures.bytes ∙ ap (λ (made : List ℕ). made ++ codes "/jobs/")
    (c.in_ok-push_str.ensures.bytes ∙ ap (λ (made : List ℕ). made ++ c.args.login.now) c.in_ok-text.ensures.ok)) k ++ id k))) in
    let number_made = c.in_ok-push_str-7.ensures.bytes ∙ (λ k. (c.in_ok-push_str-6.ensures.bytes ∙ ap (λ (made : List ℕ). made ++ codes ".") root_made) k ++ c.format.ensures.text k) in
    c.from_string.ensures
    ∙ (c.in_ok-push_str-8.ensures.bytes ∙ ap (λ (made : List ℕ). made ++ codes ".") number_made)
    ∙ joined (47 ∷ []) c.args.login.now (codes "/jobs/") (job_name c.args.job) (codes "/stor") (47 ∷ []) c.args.root.now (codes ".") (decimal c.args.phase)
