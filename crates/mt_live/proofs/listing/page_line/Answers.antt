use Rattle.std.proofs.Common.{◌∷◌, ◌++◌, [], ◌∙◌, ap, List, ℕ}
use Rattle.serde_json.specs.Data.{Data}
use Rattle.serde_json.specs.Written.{compact_text, has_float}
use Rattle.mt_live.proofs.NoFloats.{line_plain}
use Rattle.mt_live.proofs.listing.page_line.Goals as goal

pub returns : goal.returns
returns c =
    let text =
    c.in_ok-line.ensures.text (ap (λ (d : Data). has_float d) c.in_ok-value.ensures ∙ line_plain (λ b. b.len) c.args.name.now c.args.entry.now)
    ∙ ap (λ (d : Data). compact_text d) c.in_ok-value.ensures in
    c.from_string.ensures ∙ c.in_ok-push_str.ensures.bytes ∙ ap (λ (t : List ℕ). t ++ 10 ∷ []) text
