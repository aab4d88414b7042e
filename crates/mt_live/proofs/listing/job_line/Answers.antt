use Rattle.std.proofs.Common.{◌∷◌, ◌++◌, [], ◌∙◌, ap, List, ℕ}
use Rattle.serde_json.specs.Data.{Data}
use Rattle.serde_json.specs.Written.{compact_text, has_float}
use Rattle.mt_model.specs.Names.{job_name}
use Rattle.mt_live.specs.LiveTexts.{directory_data}
use Rattle.mt_live.proofs.NoFloats.{directory_plain}
use Rattle.mt_live.proofs.listing.job_line.Goals as goal

pub returns : goal.returns
returns c =
    let value = c.in_ok-value.ensures ∙ ap (λ (t : List ℕ). directory_data t c.args.created) (c.ascii.ensures ∙ c.uuid_text-name.ensures.text) in
    let text =
    c.in_ok-text.ensures.text (ap (λ (d : Data). has_float d) value ∙ directory_plain (job_name c.args.job) c.args.created)
    ∙ ap (λ (d : Data). compact_text d) value in
    c.from_string.ensures ∙ c.in_ok-push_str.ensures.bytes ∙ ap (λ (t : List ℕ). t ++ 10 ∷ []) text
