use Rattle.std.proofs.Common.{◌≡◌, false, sym, ap, ◌∙◌, arith}
use Rattle.std.specs.Prelude.{is_some}
use Rattle.std.specs.List.{list_any}
use Rattle.mt_model.specs.Names.{paths_above}
use Rattle.mt_model.specs.Resolve.{is_object_at}
use Rattle.mt_model.specs.Rows.{object_at}
use Rattle.mt_model.proofs.LawfulPuts.{front}
use Rattle.mt_resolve.proofs.Fronts.{front_on}
use Rattle.mt_resolve.proofs.References.{copied_some}
use Rattle.mt_resolve.proofs.places.has_object_above.Goals as goal

pub loop-count-preserved : goal.loop-count-preserved
loop-count-preserved g c =
    let rows = c.args.tree.now in
    let p = c.args.path.now in
    let n = c.loop-count.count in
    let fails : is_object_at rows (front p n) ≡ false =
    sym (ap (λ q. is_some (object_at rows q)) c.in_ok-above.ensures) ∙ sym (ap is_some c.object_at.ensures) ∙ copied_some c.object_at.result ∙ sym c.is_some.ensures ∙ c.if-is_some.false in
    front_on (is_object_at rows) p n (list_any (is_object_at rows) (paths_above p)) (omega arith) fails c.loop-count.invariant
