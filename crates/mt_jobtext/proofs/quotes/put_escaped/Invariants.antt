use Rattle.std.proofs.Common.{◌≡◌, ℕ, List, ◌++◌}
use Rattle.std.specs.Slice.Iter.{chunks_rest, chunks_size}
use Rattle.json.specs.Print.{escape}
use Rattle.mt_jobtext.specs.Windows.{Puts}
use Rattle.mt_jobtext.proofs.quotes.put_escaped.Given as goal

-- what is put and the rest are the text
abbrev pub invariant-loop-block : goal.invariant-loop-block
invariant-loop-block l =
    (chunks_size l.block-iterator ≡ 4096) × ((text : List ℕ) × Puts (escape text) l.initial.window l.window × (text ++ chunks_rest l.block-iterator ≡ l.text))
