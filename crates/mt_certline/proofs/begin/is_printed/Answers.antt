use Rattle.std.proofs.Common.{◌≡◌, ◌≤◌, ◌∙◌, ap, sym, subst, arith, Some}
use Rattle.serde_json.specs.Data.{Data, depth}
use Rattle.serde_json.specs.Read.{max_depth}
use Rattle.serde_json.specs.View.{view}
use Rattle.serde_json.specs.Written.{compact_text, has_float}
use Rattle.mt_jobdoc.specs.Printed.{phases_data}
use Rattle.mt_jobdoc.proofs.NoFloats.{document-plain}
use Rattle.mt_certline.proofs.Shown.{phases_depth, same_exact}
use Rattle.mt_certline.proofs.begin.is_printed.Goals as goal

pub returns : goal.returns
returns c =
    let e : Data = phases_data c.args.login.now c.args.document.now in
    let is : view c.in_ok-phases_value.field-0 ≡ e = c.in_ok-phases_value.ensures in
    let plain = document-plain c.args.login.now c.args.document.now in
    let deep : depth e ≤ max_depth = omega (arith, phases_depth c.args.login.now c.args.document.now) in
    c.eq.ensures
    ∙ rw (c.as_bytes.ensures.value, c.as_bytes-2.ensures.value)
    (same_exact (view c.args.value.now) e _ _ plain c.in_ok-shown.ensures.text (c.in_ok-shown.ensures.reads_back c.requires)
    (c.in_ok-printed.ensures.text (ap (λ (d : Data). has_float d) is ∙ plain) ∙ ap (λ (d : Data). compact_text d) is)
    (c.in_ok-printed.ensures.reads_back (subst (λ (d : Data). depth d ≤ max_depth) (sym is) deep) ∙ ap (λ (d : Data). Some d) is))
