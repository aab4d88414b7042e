use Rattle.std.proofs.Common.{arith}
use Rattle.mt_split.proofs.Cuts.{lines-found, first_line, NoneBefore}
use Rattle.mt_split.proofs.parts.line_len.Goals as goal

pub returns-then-place-text-clause-first : goal.returns-then-place-text-clause-first
returns-then-place-text-clause-first c =
    lines-found _ _ record { none = c.place_of-place.ensures.none } c.if-place-text.true (c.place_of-place.ensures.found c.if-place-text.true)

pub returns-else-place-text-clause-first : goal.returns-else-place-text-clause-first
returns-else-place-text-clause-first c =
    first_line _ _ record { none = c.place_of-place.ensures.none } c.place_of-place.ensures.bound c.requires.some (omega (arith, c.place_of-place.ensures.bound, c.if-place-text.false))
