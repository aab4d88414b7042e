use Rattle.std.proofs.Common.{◌≡◌, ℕ, List, ◌++◌, sym, ap, ◌∙◌, append_assoc, append-nil}
use Rattle.std.specs.Str.Chunks.{utf8_chunks_rest}
use Rattle.std.specs.Str.Lossy.{utf8_lossy}
use Rattle.std.proofs.lemmas.Str.{utf8_lossy_empty}
use Rattle.json.specs.Print.{escape}
use Rattle.mt_jobtext.specs.Members.{shown_for}
use Rattle.mt_jobtext.proofs.Chunks.{chunk_shown, escape_joined}
use Rattle.mt_jobtext.proofs.Windows.{puts_more, puts_same}
use Rattle.mt_jobtext.proofs.quotes.put_chunks.Goals as goal

pub loop-chunk-preserved : goal.loop-chunk-preserved
loop-chunk-preserved c =
    let steps = c.in-Some.ensures.steps in
    let before = c.loop-chunk.invariant in
    let valid : List ℕ = c.in-Some.chunk.valid.now in
    let shown : List ℕ = shown_for c.in-Some.chunk.invalid.now in
    let rest : List ℕ = utf8_lossy (utf8_chunks_rest c.next.new.self) in
    let all : utf8_lossy (utf8_chunks_rest c.loop-chunk.chunk-iterator) ≡ (valid ++ shown) ++ rest = chunk_shown _ _ _ _ steps.0 steps.2 steps.3.0 steps.3.1 in (
      before.0 ++ (valid ++ shown),
      puts_same
          (puts_more before.1 (puts_more (puts_same c.put_escaped.ensures (ap escape (c.as_bytes.ensures.value ∙ c.valid.ensures)))
          (puts_same c.put_escaped-in-loop-chunk.ensures (ap escape (c.shown_for.ensures ∙ ap shown_for c.invalid.ensures)))))
          (escape_joined before.0 valid shown),
      append_assoc before.0 (valid ++ shown) rest ∙ ap (λ (l : List ℕ). before.0 ++ l) (sym all) ∙ before.2,
    )

pub returns : goal.returns
returns c =
    let before = c.loop-chunk.invariant in
    puts_same before.1
    (ap escape (sym (append-nil before.0) ∙ ap (λ (l : List ℕ). before.0 ++ l) (sym (utf8_lossy_empty _ c.in-None.ensures.steps.0)) ∙ before.2))
