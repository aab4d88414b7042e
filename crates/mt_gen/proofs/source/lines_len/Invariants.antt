use Rattle.std.proofs.Common.{◌≡◌, ◌≤◌, ◌*◌, ℕ, length, vec_capacity}
use Rattle.mt_gen.specs.Messages.{input_lines}
use Rattle.mt_gen.proofs.source.lines_len.Given as goal

-- the bytes of the lines so far
pub record Counted (total number capacity : ℕ) : Type 0 where
  pub len : total ≡ length (input_lines 0 number)
  pub bound : total ≤ 61 * number
  pub room : 256 ≤ capacity

abbrev pub invariant-loop-number : goal.invariant-loop-number
invariant-loop-number l = Counted l.total l.number (vec_capacity l.text)
