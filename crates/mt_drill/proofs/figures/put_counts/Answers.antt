-- One part behind the other.
use Rattle.std.proofs.Common.{◌≡◌, ℕ, List, ◌++◌, append_assoc, ap, ◌∙◌}
use Rattle.std.specs.Fmt.{decimal}
use Rattle.std.specs.Prelude.{codes}
use Rattle.mt_drill.specs.DrillLine.{counts_text}
use Rattle.mt_drill.proofs.figures.put_counts.Goals as goal

regroup : (o a x b y c z d w e : List ℕ) → ((((((((o ++ a) ++ x) ++ b) ++ y) ++ c) ++ z) ++ d) ++ w) ++ e ≡ o ++ ((((((((a ++ x) ++ b) ++ y) ++ c) ++ z) ++ d) ++ w) ++ e)
regroup o a x b y c z d w e = simp append_assoc

pub returns : goal.returns
unfolding counts_text
returns c =
    let count = decimal c.args.count in
    let replies = decimal c.args.replies in
    let commands = decimal c.args.commands in
    let tasks = decimal c.args.tasks in
    let two = c.in_ok-put_number-2.ensures ∙ ap (λ (l : List ℕ). (l ++ codes ": requests ") ++ replies) c.in_ok-put_number.ensures in
    let three = c.in_ok-put_number-3.ensures ∙ ap (λ (l : List ℕ). (l ++ codes ", commands ") ++ commands) two in
    let last = c.in_ok-put_number-4.ensures ∙ ap (λ (l : List ℕ). (l ++ codes ", tasks ") ++ tasks) three in
    c.in_ok-put_words.ensures ∙ (ap (λ (l : List ℕ). l ++ codes ", lines") last ∙ regroup c.args.out.now.items (codes "drill ") count (codes ": requests ") replies (codes ", commands ") commands (codes ", tasks ") tasks (codes ", lines"))
