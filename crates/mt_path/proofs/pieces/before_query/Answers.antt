use Rattle.std.proofs.Common.{nat_eq}
use Rattle.mt_path.proofs.Cuts.{before_first-at, before_first-none}
use Rattle.mt_path.specs.Names.{question_mark}
use Rattle.mt_path.proofs.pieces.before_query.Goals as goal

pub returns-in-Some : goal.returns-in-Some
returns-in-Some c = before_first-at (λ b. nat_eq b question_mark) c.args.raw.now c.in-Some.end c.in-Some.ensures.place

pub returns-in-None : goal.returns-in-None
returns-in-None c = before_first-none (λ b. nat_eq b question_mark) c.args.raw.now c.in-None.ensures.place
