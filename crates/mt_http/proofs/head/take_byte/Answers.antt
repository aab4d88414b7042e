use Rattle.std.proofs.Common.{◌≡◌, ◌∷◌, [], ◌++◌, ◌∙◌, sym, subst, rules}
use Rattle.std.proofs.lemmas.Bool.{both_ways}
use Rattle.httparse.specs.Grammar.{LineEnd, print_end}
use Rattle.mt_http.specs.Framing.{EndsWithEmptyLine, IsHead}
use Rattle.mt_http.specs.Reading.{IsHeadFront}
use Rattle.mt_http.proofs.Heads.{skipped, head_push, front_push}
use Rattle.mt_http.proofs.EndsWith.{ends_by_feed, is_by_feed}
use Rattle.mt_http.proofs.head.take_byte.Goals as goal

pub returns-then-is_empty_line : goal.returns-then-is_empty_line
returns-then-is_empty_line c =
    let pushed : c.push.new.self.items ≡ c.args.head.now.items ++ c.args.byte ∷ [] = search rules in
    let found = c.is_empty_line.ensures.0 c.if-is_empty_line.true in
    let w = skipped c.args.head.now.items c.args.byte (found.0, sym pushed ∙ sym c.as_slice.ensures.value ∙ found.1) in
    rw c.clear.ensures.items w

pub returns-then-ends_with_empty_line : goal.returns-then-ends_with_empty_line
returns-then-ends_with_empty_line c =
    let pushed : c.push.new.self.items ≡ c.args.head.now.items ++ c.args.byte ∷ [] = search rules in
    let ends = subst EndsWithEmptyLine (c.as_slice-2.ensures.value ∙ pushed) (c.ends_with_empty_line.ensures.0 c.if-ends_with_empty_line.true) in
    let other = λ (w : (line : LineEnd) × (c.args.head.now.items ++ c.args.byte ∷ [] ≡ print_end line)). both_ways _ c.if-is_empty_line.false (c.is_empty_line.ensures.1 (w.0, c.as_slice.ensures.value ∙ pushed ∙ w.1)) in
    (pushed, subst IsHead (sym pushed) (head_push c.args.head.now.items c.args.byte c.requires other ends))

pub returns-else-ends_with_empty_line : goal.returns-else-ends_with_empty_line
returns-else-ends_with_empty_line c =
    let pushed : c.push.new.self.items ≡ c.args.head.now.items ++ c.args.byte ∷ [] = search rules in
    let goes_on = λ (w : EndsWithEmptyLine (c.args.head.now.items ++ c.args.byte ∷ [])). both_ways _ c.if-ends_with_empty_line.false (c.ends_with_empty_line.ensures.1 (subst EndsWithEmptyLine (sym pushed ∙ sym c.as_slice-2.ensures.value) w)) in
    let other = λ (w : (line : LineEnd) × (c.args.head.now.items ++ c.args.byte ∷ [] ≡ print_end line)). both_ways _ c.if-is_empty_line.false (c.is_empty_line.ensures.1 (w.0, c.as_slice.ensures.value ∙ pushed ∙ w.1)) in
    ([], sym pushed, subst IsHeadFront (sym pushed) (front_push c.args.head.now.items c.args.byte c.requires other goes_on))

pub returns-then-byte-ne10 : goal.returns-then-byte-ne10
returns-then-byte-ne10 c =
    let pushed : c.push.new.self.items ≡ c.args.head.now.items ++ c.args.byte ∷ [] = search rules in
    let goes_on = λ (w : EndsWithEmptyLine (c.args.head.now.items ++ c.args.byte ∷ [])). c.if-byte-ne10.true (ends_by_feed c.args.head.now.items c.args.byte w) in
    let other = λ (w : (line : LineEnd) × (c.args.head.now.items ++ c.args.byte ∷ [] ≡ print_end line)). c.if-byte-ne10.true (is_by_feed c.args.head.now.items c.args.byte w.0 w.1) in
    ([], sym pushed, subst IsHeadFront (sym pushed) (front_push c.args.head.now.items c.args.byte c.requires other goes_on))
