-- One more of a value that was repeated, and what an `Ok` says where a closed log gives none.
use Rattle.std.proofs.Common.{◌≡◌, ℕ, ◌+◌, Bool, true, false, List, [], ◌∷◌, ◌++◌, Result, Err, replicate, ap, sym, subst, refl, ◌∙◌}
use Rattle.std.proofs.lemmas.List.{append-nil, replicate_more}
use Rattle.std.proofs.lemmas.List.Folds.{concat-append}
use Rattle.std.specs.List.{concat}
use Rattle.std.specs.Result.{OnOk}

-- joined, the repeated pieces and one more
pub one_more_piece : (n : ℕ) (piece : List ℕ) → concat (replicate n piece) ++ piece ≡ concat (replicate (n + 1) piece)
one_more_piece n piece =
    ap (λ l. concat (replicate n piece) ++ l) (sym (append-nil piece))
    ∙ sym (concat-append (replicate n piece) (piece ∷ []))
    ∙ ap concat (replicate_more n piece)

-- what holds at an `Ok` of a log that isn't closed holds at every `Ok`, since a closed one gives an `Err`
pub unless_closed : {T E : Type 0} (P : Type 0) (closed : Bool) (result : Result T E) (e : E) → (closed ≡ true → result ≡ Err e) → (closed ≡ false → OnOk result P) → OnOk result P
unless_closed P true result e refused ok = subst (λ r. OnOk r P) (sym (refused refl)) tt
unless_closed P false result e refused ok = ok refl
