-- The lines of a certificate are within the limits.
use Rattle.std.proofs.Common.{◌≡◌, ℕ, ◌+◌, ◌<◌, Bool, true, false, ◌&&◌, nat_le, List, [], ◌∷◌, length, refl, sym, ◌∙◌, arith}
use Rattle.std.specs.Prelude.{◌↔◌, IsTrue}
use Rattle.std.specs.Bool.{OnTrue}
use Rattle.std.specs.List.{AllByRecursion, list_all}
use Rattle.std.proofs.lemmas.Bool.{and_from, and_parts, le-leb, leb-true, lt-ltb, ltb-true}
use Rattle.mt_model.specs.Types.{Body, Job}
use Rattle.mt_certline.specs.Certificate.{Certificate, lines_of}
use Rattle.mt_certline.specs.declared.line.Line.{Line}
use Rattle.mt_checker.specs.Texts.{Fits, written}
use Rattle.mt_checker.specs.declared.limits.TheConstants.{LONGEST_LINE, MOST_LINES}
use Rattle.mt_cert.specs.Accepting.{IsHeld}
use Rattle.mt_cert.specs.Certifying.{sum_of_body}
use Rattle.mt_cert.specs.Putting.{is_short}
use Rattle.mt_cert.specs.Reading.{certificate_in}
use Rattle.mt_cert.specs.Writing.{IsAccepted}
use Rattle.mt_cert.proofs.Accepted.{accepted_with}

module _ (login : List ℕ) where
  short_are : (ls : List Line) → list_all (is_short login) ls ≡ true → AllByRecursion (λ l. length (written login l) < LONGEST_LINE) ls
  short_are [] all = tt
  short_are (l ∷ ls) all =
      let parts = and_parts (is_short login l) (list_all (is_short login) ls) all in
      (ltb-true (length (written login l)) LONGEST_LINE parts.0, short_are ls parts.1)

  are_short : (ls : List Line) → AllByRecursion (λ l. length (written login l) < LONGEST_LINE) ls → list_all (is_short login) ls ≡ true
  are_short [] all = refl
  are_short (l ∷ ls) all = and_from (is_short login l) (list_all (is_short login) ls) (lt-ltb (length (written login l)) LONGEST_LINE all.0) (are_short ls all.1)

  pub fits_exactly : (c : Certificate) (b short : Bool) (lines : ℕ) → b ≡ (short && nat_le lines MOST_LINES) → short ≡ (list_all (is_short login) (lines_of c) && true) → lines ≡ 0 + length (lines_of c) → IsTrue b ↔ Fits login c
  fits_exactly c b short lines test all count =
      let same : lines ≡ length (lines_of c) = omega (arith, count) in (
        λ holds.
            let parts = and_parts short (nat_le lines MOST_LINES) (sym test ∙ holds) in
            let each = and_parts (list_all (is_short login) (lines_of c)) true (sym all ∙ parts.0) in
            let few = leb-true lines MOST_LINES parts.1 in
            record { short = short_are (lines_of c) each.0; few = omega (arith, few, same) },
        λ fits. test ∙ and_from short (nat_le lines MOST_LINES) (all ∙ and_from (list_all (is_short login) (lines_of c)) true (are_short (lines_of c) fits.short) refl) (le-leb lines MOST_LINES (let few = fits.few in omega (arith, few, same))),
      )

  pub accepted_where : (job : Job Body) (b : Bool) → IsHeld Body sum_of_body job → (IsTrue b ↔ Fits login (certificate_in job)) → OnTrue b (IsAccepted login job)
  accepted_where job true held exact = λ count named few lawful kept complete. accepted_with Body sum_of_body login count job named few lawful kept held complete (exact.0 refl)
  accepted_where job false held exact = tt
