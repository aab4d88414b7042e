use Rattle.std.proofs.Common.{arith, subst, sym}
use Rattle.mt_checker.specs.Kept.{IsNamed}
use Rattle.mt_checker.proofs.Opened.{opened_at, opened_on, opened_past}
use Rattle.mt_checker.proofs.opening.open.Goals as goal

-- a phase with a place is the one that is listed
pub returns-then-count-gt0 : goal.returns-then-count-gt0
returns-then-count-gt0 c = λ g same reaches.
    opened_at g c.args.kinds.now same c.phases.phase c.phases.reading (c.phases.invariant g same reaches) c.phases-test.true
    c.tasks-count.result c.tasks-count.ensures c.if-count-gt0.true c.kind_at-next.result c.kind_at-next.ensures c.in_ok-sheet.sheet c.in_ok-sheet.ensures

-- one without is passed
pub phases-preserved : goal.phases-preserved
phases-preserved c = λ g same reaches.
    opened_on g c.args.kinds.now same c.phases.phase c.phases.reading (c.phases.invariant g same reaches) c.phases-test.true
    c.tasks-count.result c.tasks-count.ensures (omega (arith, c.if-count-gt0.false)) c.kind_at-next.result c.kind_at-next.ensures c.in_ok-reading.reading c.in_ok-reading.ensures

-- past the last stand the names
pub returns : goal.returns
returns c = λ g same reaches.
    subst (λ ns. IsNamed g ns 0) (sym c.into_names.ensures)
    (opened_past g c.args.kinds.now same c.phases.phase c.phases.reading (c.phases.invariant g same reaches) (omega (arith, c.phases-test.false)))
