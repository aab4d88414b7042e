-- One part after the other.
use Rattle.std.proofs.Common.{◌≡◌, ℕ, List, ◌++◌, append_assoc, ap, ◌∙◌}
use Rattle.std.specs.Fmt.{decimal}
use Rattle.std.specs.Prelude.{codes}
use Rattle.mt_server.specs.Lines.{hex_text}
use Rattle.mt_server.proofs.line.put_damaged.Goals as goal

regroup : (o a x b y c z n : List ℕ) → ((((((o ++ a) ++ x) ++ b) ++ y) ++ c) ++ z) ++ n ≡ o ++ ((((((a ++ x) ++ b) ++ y) ++ c) ++ z) ++ n)
regroup o a x b y c z n = simp append_assoc

pub returns : goal.returns
returns c =
    let at = decimal c.args.at in
    let kept = hex_text c.args.kept.now in
    let computed = hex_text c.args.computed.now in
    let two = c.in_ok-put_digest.ensures ∙ ap (λ (l : List ℕ). (l ++ codes ": stored MD5 ") ++ kept) c.in_ok-put_number.ensures in
    let three = c.in_ok-put_digest-2.ensures ∙ ap (λ (l : List ℕ). (l ++ codes ", computed ") ++ computed) two in
    c.in_ok-put_words.ensures ∙ (ap (λ (l : List ℕ). l ++ codes "\n") three ∙ regroup c.args.out.now.items (codes "mantad: log damaged at byte ") at (codes ": stored MD5 ") kept (codes ", computed ") computed (codes "\n"))
