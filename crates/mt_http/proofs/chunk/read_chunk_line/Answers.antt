use Rattle.std.proofs.Common.{rules, sym, ap, ◌∙◌, subst, arith, ℕ, List, [], length, Some}
use Rattle.std.proofs.lemmas.List.{length-append, drop_all}
use Rattle.httparse.specs.Grammar.{ChunkLine, ReadsChunkLine, print_chunk_line}
use Rattle.httparse.specs.Spans.{IsChunkLineAt}
use Rattle.httparse.proofs.ChunkLemmas.{chunk_line_unique}
use Rattle.mt_http.proofs.ChunkLines.{size_of_line, no_size}
use Rattle.mt_http.proofs.chunk.read_chunk_line.Goals as goal

pub returns-then-len-line : goal.returns-then-len-line
returns-then-len-line c =
    let line = c.args.line.now in
    let found : (k : ChunkLine) × IsChunkLineAt line c.in-Ok-Complete.found.0 c.in-Ok-Complete.found.1 k = search rules in
    let none = drop_all c.in-Ok-Complete.found.0 line (omega (arith, c.if-len-line.true)) in
    ap Some found.1.size_is ∙ sym (size_of_line found.0 line (subst (λ (rest : List ℕ). ReadsChunkLine line found.0 rest) none found.1.reads))

pub returns-else-len-line : goal.returns-else-len-line
returns-else-len-line c =
    let line = c.args.line.now in
    let found : (k : ChunkLine) × IsChunkLineAt line c.in-Ok-Complete.found.0 c.in-Ok-Complete.found.1 k = search rules in
    sym (no_size line (λ l whole.
    let same = chunk_line_unique line l found.0 [] _ whole found.1.reads in
    let e = ap length whole.1 in
    let f = length-append (print_chunk_line l) [] in
    let g = ap (λ k. length (print_chunk_line k)) same.0 in
    c.if-len-line.false (omega (arith, e, f, g, found.1.len_is))))

pub returns-in-Ok-Partial : goal.returns-in-Ok-Partial
returns-in-Ok-Partial c = sym (no_size c.args.line.now (search rules))

pub returns-in-Err : goal.returns-in-Err
returns-in-Err c = sym (no_size c.args.line.now (search rules))
