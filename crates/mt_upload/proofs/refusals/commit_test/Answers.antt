use Rattle.std.proofs.Common.{ℕ, not, length, min, sum_by, take, sym, ap, ◌∙◌}
use Rattle.std.specs.List.{enumerate_from, list_all}
use Rattle.mt_types.specs.declared.body.Body.{Body}
use Rattle.mt_types.specs.declared.refusal.Refusal.TheVariants.{UploadState}
use Rattle.mt_types.specs.declared.upload.PartRow.{PartRow}
use Rattle.mt_model.specs.Rows.{refuse_if}
use Rattle.mt_model.specs.UploadSteps.{commit_upload_refusal, is_listed, is_open}
use Rattle.mt_tree.specs.Answer.{answer}
use Rattle.mt_upload.proofs.Verdicts.{later_stands, parts_fit, parts_large}
use Rattle.mt_upload.proofs.refusals.commit_test.Goals as goal

pub returns-then-front_len-gt-LARGEST_JOINED : goal.returns-then-front_len-gt-LARGEST_JOINED
returns-then-front_len-gt-LARGEST_JOINED c =
    let u = c.args.upload.now in
    let rows = c.args.tree.now in
    let numbers = c.args.numbers.now in
    let size : Body → ℕ = λ b. b.len in
    let all = ap (λ ps. list_all (is_listed {B = Body} ps) (enumerate_from 0 numbers)) (sym c.as_slice.ensures) ∙ sym c.if-not-are_listed.ensures in
    let sum = c.front_len.ensures ∙ ap (λ ps. min 18446744073709551615 (sum_by (λ (p : PartRow Body). p.body.len) (take (length numbers) ps))) c.as_slice-2.ensures in
    sym (ap answer
    (later_stands (refuse_if (not (is_open u.stage)) UploadState) (commit_upload_refusal size rows numbers u) c.in_ok-open_test.field-0 c.in_ok-open_test.ensures
    ∙ parts_large size rows numbers u all c.requires c.front_len.result sum c.if-front_len-gt-LARGEST_JOINED.true))

pub returns : goal.returns
returns c =
    let u = c.args.upload.now in
    let rows = c.args.tree.now in
    let numbers = c.args.numbers.now in
    let size : Body → ℕ = λ b. b.len in
    let all = ap (λ ps. list_all (is_listed {B = Body} ps) (enumerate_from 0 numbers)) (sym c.as_slice.ensures) ∙ sym c.if-not-are_listed.ensures in
    let sum = c.front_len.ensures ∙ ap (λ ps. min 18446744073709551615 (sum_by (λ (p : PartRow Body). p.body.len) (take (length numbers) ps))) c.as_slice-2.ensures in
    c.may_put.ensures
    ∙ sym (ap answer
    (later_stands (refuse_if (not (is_open u.stage)) UploadState) (commit_upload_refusal size rows numbers u) c.in_ok-open_test.field-0 c.in_ok-open_test.ensures
    ∙ parts_fit size rows numbers u all c.requires c.front_len.result sum c.if-front_len-gt-LARGEST_JOINED.false))
