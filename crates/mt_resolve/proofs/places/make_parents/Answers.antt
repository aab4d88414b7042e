use Rattle.std.proofs.Common.{◌≡◌, ◌+◌, None, length, sym, ap, subst, ◌∙◌, arith}
use Rattle.mt_model.specs.Resolve.{with_directory}
use Rattle.mt_model.specs.Rows.{parent_refusal}
use Rattle.mt_model.proofs.LawfulPuts.{front}
use Rattle.mt_resolve.proofs.Parents.{Making, making_end, making_on, making_start, parent_fine}
use Rattle.mt_resolve.proofs.places.make_parents.Goals as goal

pub loop-count-init : goal.loop-count-init
loop-count-init g c = record {
  making = making_start c.args.path.now c.args.moment c.args.tree.now c.requires.tree c.requires.clear c.requires.free;
  back = λ start leads. leads;
}

pub make_parent-requires-clause-parent : goal.make_parent-requires-clause-parent
make_parent-requires-clause-parent g c =
    subst (λ q. parent_refusal c.loop-count.tree q ≡ None) (sym c.in_ok-above.ensures)
    (parent_fine c.args.path.now c.args.moment c.args.tree.now c.loop-count.tree c.loop-count.count (omega arith) c.loop-count.invariant.making.made)

pub loop-count-preserved : goal.loop-count-preserved
loop-count-preserved g c =
    let p = c.args.path.now in
    let n = c.loop-count.count in
    let rows : c.make_parent.new.tree ≡ with_directory c.args.moment c.loop-count.tree (front p n) =
    c.in_ok-make_parent.ensures.rows ∙ ap (with_directory c.args.moment c.loop-count.tree) c.in_ok-above.ensures in
    record {
      making = subst (Making p c.args.moment c.args.tree.now (n + 1)) (sym rows) (making_on p c.args.moment c.args.tree.now c.loop-count.tree n (omega arith) c.loop-count.invariant.making);
      back = λ start leads. c.in_ok-make_parent.ensures.back start (c.loop-count.invariant.back start leads);
    }

pub returns-clause-place : goal.returns-clause-place
returns-clause-place g c =
    let p = c.args.path.now in
    let whole : c.loop-count.count ≡ length p.parts = omega arith in
    (making_end p c.args.moment c.args.tree.now c.loop-count.tree c.requires.below
    (subst (λ n. Making p c.args.moment c.args.tree.now n c.loop-count.tree) whole c.loop-count.invariant.making)).place
