use Rattle.std.proofs.Common.{ℕ, rules}
use Rattle.std.proofs.lemmas.List.Sorted.{answers_always}
use Rattle.mt_types.specs.declared.upload.Upload.{Upload}
use Rattle.mt_upload.proofs.Places.{searched}
use Rattle.mt_upload.proofs.uploads.find.Goals as goal

pub returns : goal.returns
returns g c =
    let key : Upload g.row.B.Denot → ℕ = λ u. u.number in
    let facts = c.binary_search_by_key.ensures in
    searched key c.args.uploads.now c.requires c.args.number c.binary_search_by_key.result facts.bound (facts.position key (answers_always _ _ _ (λ f a r h called. search rules)))
