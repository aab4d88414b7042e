use Rattle.std.proofs.Common.{◌≡◌, map, take}
use Rattle.mt_answer.specs.Posting.{input_line}
use Rattle.mt_answer.proofs.posted.lines_of.Given as goal

abbrev pub invariant-loop-text : goal.invariant-loop-text
invariant-loop-text l = l.out.items ≡ map (input_line l.login) (map (λ x. x.now) (take l.text-index l.texts))
