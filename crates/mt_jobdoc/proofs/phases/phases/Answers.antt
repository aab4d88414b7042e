use Rattle.std.proofs.Common.{◌+◌, List, map, drop, sym, ◌∙◌, ap, append-nil, Ok}
use Rattle.std.proofs.Math.ListN.{drop_of_length-le}
use Rattle.serde_json.specs.Data.{Data}
use Rattle.serde_json.specs.View.{view}
use Rattle.mt_types.specs.declared.document.Phase.{Phase}
use Rattle.mt_jobdoc.specs.Document.{phases_of}
use Rattle.mt_jobdoc.proofs.PhaseLists.{behind, phase_more, phase_fault, phases-nil, next_value}
use Rattle.mt_jobdoc.proofs.Faults.{passed_on}
use Rattle.mt_jobdoc.proofs.phases.phases.Goals as goal

pub returns-in-Err : goal.returns-in-Err
returns-in-Err c =
    let values = c.args.values.now in
    let k = c.loop-k.k in
    passed_on _ _ c.in-Err.e c.in-Err.ensures (λ fault.
    sym c.loop-k.invariant
    ∙ ap (λ (ds : List Data). behind c.loop-k.phases.items (phases_of c.args.login.now k ds)) (next_value values k c.index-values-k.result c.loop-k-test.true c.index-values-k.is)
    ∙ phase_fault c.args.login.now k (view c.index-values-k.result) (map view (drop (k + 1) values)) c.loop-k.phases.items c.in-Err.e fault)

pub loop-k-preserved : goal.loop-k-preserved
loop-k-preserved c =
    let values = c.args.values.now in
    let k = c.loop-k.k in
    ap (λ (done : List Phase). behind done (phases_of c.args.login.now (k + 1) (map view (drop (k + 1) values)))) c.in_ok-push-in-Ok.ensures.items
    ∙ sym (phase_more c.args.login.now k (view c.index-values-k.result) (map view (drop (k + 1) values)) c.loop-k.phases.items c.in-Ok.phase c.in-Ok.ensures)
    ∙ sym (ap (λ (ds : List Data). behind c.loop-k.phases.items (phases_of c.args.login.now k ds)) (next_value values k c.index-values-k.result c.loop-k-test.true c.index-values-k.is))
    ∙ c.loop-k.invariant

pub returns : goal.returns
returns c =
    let none = ap (λ (vs : List _). phases_of c.args.login.now c.loop-k.k (map view vs)) (drop_of_length-le c.args.values.now c.loop-k-test.false) ∙ phases-nil c.args.login.now c.loop-k.k in
    sym c.loop-k.invariant ∙ ap (behind c.loop-k.phases.items) none ∙ ap (λ (l : List Phase). Ok l) (append-nil c.loop-k.phases.items ∙ sym c.from_vec.ensures)
