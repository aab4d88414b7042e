-- One part behind the other.
use Rattle.std.proofs.Common.{◌≡◌, ℕ, List, ◌++◌, append_assoc, ap, ◌∙◌}
use Rattle.std.specs.Fmt.{decimal}
use Rattle.std.specs.Prelude.{codes}
use Rattle.mt_server.proofs.line.put_short.Goals as goal

regroup : (o a x b y c z n : List ℕ) → ((((((o ++ a) ++ x) ++ b) ++ y) ++ c) ++ z) ++ n ≡ o ++ ((((((a ++ x) ++ b) ++ y) ++ c) ++ z) ++ n)
regroup o a x b y c z n = simp append_assoc

pub returns : goal.returns
returns c =
    let at = decimal c.args.at in
    let wanted = decimal c.args.wanted in
    let left = decimal c.args.left in
    let two = c.in_ok-put_number-2.ensures ∙ ap (λ (l : List ℕ). (l ++ codes ": ") ++ wanted) c.in_ok-put_number.ensures in
    let three = c.in_ok-put_number-3.ensures ∙ ap (λ (l : List ℕ). (l ++ codes " bytes expected, ") ++ left) two in
    c.in_ok-put_words.ensures ∙ (ap (λ (l : List ℕ). l ++ codes " left\n") three ∙ regroup c.args.out.now.items (codes "mantad: log truncated at byte ") at (codes ": ") wanted (codes " bytes expected, ") left (codes " left\n"))
