use Rattle.std.proofs.Common.{◌≡◌, ℕ, List, ◌++◌}
use Rattle.std.specs.Str.Chunks.{utf8_chunks_rest}
use Rattle.std.specs.Str.Lossy.{utf8_lossy}
use Rattle.json.specs.Print.{escape}
use Rattle.mt_jobtext.specs.Windows.{Puts}
use Rattle.mt_jobtext.proofs.quotes.put_chunks.Given as goal

-- what is put, and the text of the rest, are the text of all
abbrev pub invariant-loop-chunk : goal.invariant-loop-chunk
invariant-loop-chunk l =
    (text : List ℕ) × Puts (escape text) l.initial.window l.window × (text ++ utf8_lossy (utf8_chunks_rest l.chunk-iterator) ≡ utf8_lossy l.bytes)
