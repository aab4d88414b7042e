use Rattle.std.proofs.Common.{◌≡◌, ◌≤◌, ℕ, List, length, take}
use Rattle.std.specs.List.{filter}
use Rattle.mt_gen.specs.Work.{is_line_feed}
use Rattle.mt_gen.proofs.work.line_count.Given as goal

-- the line feeds among the first bytes
pub record Counted (text : List ℕ) (i count : ℕ) : Type 0 where
  pub is : count ≡ length (filter is_line_feed (take i text))
  pub few : count ≤ i

abbrev pub invariant-loop-byte : goal.invariant-loop-byte
invariant-loop-byte l = Counted l.text l.byte-index l.count
