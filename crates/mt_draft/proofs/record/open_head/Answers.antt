use Rattle.std.proofs.Common.{List, ℕ, ◌∷◌, ap, ◌∙◌}
use Rattle.std.proofs.lemmas.List.{append-nil}
use Rattle.mt_draft.proofs.record.open_head.Goals as goal

pub returns : goal.returns
returns c = ap (λ (l : List ℕ). 1 ∷ l) (append-nil c.copy_from_slice.new.self ∙ c.copy_from_slice.ensures.after ∙ c.head_bytes.ensures)
