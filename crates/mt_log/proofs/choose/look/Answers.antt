-- The first byte of Head, and the length of Two.
use Rattle.std.proofs.Common.{arith, ◌∙◌}
use Rattle.std.proofs.lemmas.Option.{MatchOption-at_some}
use Rattle.mt_log.proofs.Made.{second_named}
use Rattle.mt_log.proofs.choose.look.Goals as goal

pub returns-clause-choice : goal.returns-clause-choice
returns-clause-choice g c files is =
    second_named files c.read.new.into (c.requires files is) (MatchOption-at_some _ _ _ is c.in_ok-read.ensures.bytes) c.if-head-ne-NAMES_TWO.false (omega (arith, MatchOption-at_some _ _ _ (c.read.ensures.seen ∙ is) c.in_ok-len.ensures.bytes, c.if-len-lt-EMPTY_LEN.false))
