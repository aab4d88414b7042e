use Rattle.std.proofs.Common.{ℕ, rules}
use Rattle.std.proofs.lemmas.List.Sorted.{answers_always}
use Rattle.mt_types.specs.declared.upload.PartRow.{PartRow}
use Rattle.mt_upload.proofs.Places.{searched}
use Rattle.mt_upload.proofs.parts.find_part.Goals as goal

pub returns : goal.returns
returns g c =
    let key : PartRow g.row.B.Denot → ℕ = λ p. p.index in
    let facts = c.binary_search_by_key.ensures in
    searched key c.args.parts.now c.requires c.args.index c.binary_search_by_key.result facts.bound (facts.position key (answers_always _ _ _ (λ f a r h called. search rules)))
