use Rattle.std.proofs.Common.{◌∙◌, ap}
use Rattle.serde_json.specs.Data.{Data}
use Rattle.serde_json.specs.Written.{compact_text, has_float}
use Rattle.mt_certline.proofs.Plain.{line-plain}
use Rattle.mt_certline.proofs.writing.line_text.Goals as goal

pub returns : goal.returns
returns c =
    c.from_string.ensures ∙ (c.in_ok-to_string.ensures.text (ap (λ (d : Data). has_float d) c.in_ok-value.ensures ∙ line-plain c.args.login.now c.args.line.now)
    ∙ ap (λ (d : Data). compact_text d) c.in_ok-value.ensures)
