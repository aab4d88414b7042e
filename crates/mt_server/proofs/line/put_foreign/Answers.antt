-- One part behind the other.
use Rattle.std.proofs.Common.{◌≡◌, ℕ, List, ◌++◌, append_assoc, ap, ◌∙◌}
use Rattle.std.specs.Fmt.{decimal}
use Rattle.std.specs.Prelude.{codes}
use Rattle.mt_server.proofs.line.put_foreign.Goals as goal

regroup : (o a x n : List ℕ) → ((o ++ a) ++ x) ++ n ≡ o ++ ((a ++ x) ++ n)
regroup o a x n = simp append_assoc

pub returns : goal.returns
returns c = c.in_ok-put_words.ensures ∙ (ap (λ (l : List ℕ). l ++ codes " of the log (written by another version?)\n") c.in_ok-put_number.ensures ∙ regroup c.args.out.now.items (codes "mantad: unknown record at byte ") (decimal c.args.at) (codes " of the log (written by another version?)\n"))
