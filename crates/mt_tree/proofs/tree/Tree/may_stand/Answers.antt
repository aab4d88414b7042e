use Rattle.std.proofs.Common.{Some, ap, sym, ◌∙◌}
use Rattle.std.proofs.lemmas.Bool.{false≢true}
use Rattle.mt_path.specs.Keys.{parts_of}
use Rattle.mt_model.specs.Rows.{directory_refusal}
use Rattle.mt_tree.specs.Answer.{answer}
use Rattle.mt_tree.proofs.Found.{parent_refusal-at}
use Rattle.mt_tree.proofs.tree.Tree.may_stand.Goals as goal

pub returns-in-None : goal.returns-in-None
returns-in-None g c =
    ap (λ o. answer (directory_refusal o)) c.in-None.ensures
    ∙ ap answer (parent_refusal-at c.args.self.now c.args.path.now c.area.result (parts_of c.parent_key.result.now) c.area.ensures c.parent_key.ensures.parts (λ none. false≢true (sym c.if-is_root.false ∙ c.is_root.ensures.1 none)))

pub returns-in-Some-Object : goal.returns-in-Some-Object
returns-in-Some-Object g c =
    ap (λ entry. answer (directory_refusal (Some entry))) (sym c.in-Some-Object.field-0-is)
    ∙ ap (λ o. answer (directory_refusal o)) c.in-Some-Object.ensures
    ∙ ap answer (parent_refusal-at c.args.self.now c.args.path.now c.area.result (parts_of c.parent_key.result.now) c.area.ensures c.parent_key.ensures.parts (λ none. false≢true (sym c.if-is_root.false ∙ c.is_root.ensures.1 none)))

pub returns-in-Some-Directory : goal.returns-in-Some-Directory
returns-in-Some-Directory g c =
    ap (λ entry. answer (directory_refusal (Some entry))) (sym c.in-Some-Directory.field-0-is)
    ∙ ap (λ o. answer (directory_refusal o)) c.in-Some-Directory.ensures
    ∙ ap answer (parent_refusal-at c.args.self.now c.args.path.now c.area.result (parts_of c.parent_key.result.now) c.area.ensures c.parent_key.ensures.parts (λ none. false≢true (sym c.if-is_root.false ∙ c.is_root.ensures.1 none)))
