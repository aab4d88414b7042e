use Rattle.std.proofs.Common.{Some, ap, ◌∙◌}
use Rattle.mt_http.proofs.ChunkLines.{line_of_size, size_of_line}
use Rattle.mt_http.proofs.laws.chunk_lines_are_of_the_grammar.Goals as goal

pub returns : goal.returns
returns c = λ line n. (line_of_size line n, λ w. size_of_line w.0 line w.1 ∙ ap Some w.2)
