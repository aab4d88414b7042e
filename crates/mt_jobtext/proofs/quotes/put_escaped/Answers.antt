use Rattle.std.proofs.Common.{ℕ, List, ◌++◌, sym, ap, ◌∙◌, append_assoc}
use Rattle.std.specs.Slice.Iter.{chunks_rest}
use Rattle.std.proofs.lemmas.Grind.{flat_map-append}
use Rattle.json.specs.Print.{escape_byte}
use Rattle.mt_jobtext.proofs.Windows.{puts_more, puts_same}
use Rattle.mt_jobtext.proofs.quotes.put_escaped.Goals as goal

pub loop-block-preserved : goal.loop-block-preserved
loop-block-preserved c =
    let steps = c.in-Some.ensures.steps in
    let before = c.loop-block.invariant in
    let front : List ℕ = before.1.0 in
    let block : List ℕ = c.in-Some.block.now in (
      steps.0 ∙ before.0,
      (
        front ++ block,
        puts_same (puts_more before.1.1 c.put_block.ensures) (sym (flat_map-append escape_byte front block)),
        append_assoc front block (chunks_rest c.next.new.self) ∙ ap (λ (l : List ℕ). front ++ l) (sym steps.1.0) ∙ before.1.2,
      ),
    )
