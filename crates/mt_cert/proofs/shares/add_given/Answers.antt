-- What a task more gave is laid out.
use Rattle.std.proofs.Common.{◌+◌, ◌++◌, ◌<◌, ◌≡◌, ◌==◌, ◌∙◌, true, false, ap, append_assoc, arith, drop, length, sym, eq-eqb, ne_eqb}
use Rattle.mt_model.specs.Feed.{entries_of, items_in, items_of}
use Rattle.mt_cert.proofs.Layings.{shared_as}
use Rattle.mt_cert.proofs.Parts.{items_next, items_other, next_of}
use Rattle.mt_cert.proofs.shares.add_given.Goals as goal
use Rattle.mt_cert.proofs.shares.add_given.Goals.{then-entry-phase+in_ok-add_items, else-entry-phase}

pub loop-entry-preserved : goal.loop-entry-preserved
loop-entry-preserved c =
    let trace = c.args.trace.now in
    let phase = c.args.phase in
    let k = c.loop-entry.entry-index in
    let e = c.entry-item.result in
    let less : k < length trace = omega arith in
    let next = next_of trace k e less c.entry-item.is in
    let i = c.loop-entry.invariant in
    elim c.if-entry-phase.branch [
      | then-entry-phase+in_ok-add_items w ↦
          let is : e.phase == phase ≡ true = eq-eqb e.phase phase w.if-entry-phase.true in
          rw w.shares-is (record {
            laid = λ front was.
                let l = i.laid front was in (
                  l.0 ++ items_of e.outcome,
                  append_assoc l.0 (items_of e.outcome) (items_in (entries_of phase (drop (k + 1) trace))) ∙ (ap (λ t. l.0 ++ t) (sym (items_next trace k e next phase is)) ∙ l.1),
                  shared_as (l.0 ++ w.items_of.result.now) (l.0 ++ items_of e.outcome) c.args.reducers w.add_items.new.shares (ap (λ t. l.0 ++ t) w.items_of.ensures) (w.in_ok-add_items.ensures.laid l.0 l.2),
                );
            each = w.in_ok-add_items.ensures.each;
          })
      | else-entry-phase w ↦
          let is : e.phase == phase ≡ false = ne_eqb e.phase phase w.if-entry-phase.false in
          rw w.shares-is (record {
            laid = λ front was. let l = i.laid front was in (l.0, ap (λ t. l.0 ++ t) (sym (items_other trace k e next phase is)) ∙ l.1, l.2);
            each = i.each;
          })
    ]
