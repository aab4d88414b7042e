use Rattle.std.proofs.Common.{refl, sym, arith}
use Rattle.std.proofs.lemmas.Bool.{eq-eqb}
use Rattle.mt_split.specs.Partition.{content}
use Rattle.mt_split.proofs.Cuts.{content-other, content-empty}
use Rattle.mt_split.proofs.key.without_line_feed.Goals as goal
use Rattle.mt_split.proofs.key.without_line_feed.Goals.{else-count-gt0-via-then-count-gt0+else-line-count-eq10, else-count-gt0-via-else-count-gt0}

pub returns-then-line-count-eq10 : goal.returns-then-line-count-eq10
unfolding content
returns-then-line-count-eq10 c = rw (eq-eqb _ _ c.if-line-count-eq10.true) refl

pub returns-else-count-gt0 : goal.returns-else-count-gt0
returns-else-count-gt0 c =
    elim c.else-count-gt0.branch [
      | else-count-gt0-via-then-count-gt0+else-line-count-eq10 w ↦ sym (content-other _ w.if-line-count-eq10.false)
      | else-count-gt0-via-else-count-gt0 w ↦ sym (content-empty _ (omega (arith, w.if-count-gt0.false)))
    ]
