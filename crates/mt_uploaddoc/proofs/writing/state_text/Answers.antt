use Rattle.std.proofs.Common.{◌∙◌, ap}
use Rattle.serde_json.specs.Data.{Data}
use Rattle.serde_json.specs.Written.{compact_text, has_float}
use Rattle.mt_uploaddoc.proofs.Plain.{state_plain}
use Rattle.mt_uploaddoc.proofs.writing.state_text.Goals as goal

pub returns : goal.returns
returns g c = record {
  exact =
      c.from_vec.ensures ∙ ap (λ v. v.items) c.into_bytes.ensures.value
      ∙ c.in_ok-to_string.ensures.text (ap (λ (d : Data). has_float d) c.in_ok-value.ensures ∙ state_plain c.args.login.now c.args.upload.now)
      ∙ ap (λ (d : Data). compact_text d) c.in_ok-value.ensures;
}
