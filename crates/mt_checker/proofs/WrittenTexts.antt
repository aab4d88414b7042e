-- What is written of a certificate that adds up is accepted.
use Rattle.std.proofs.Common.{◌≡◌, ℕ, ◌<◌, ◌==◌, false, List, [], ◌∷◌, ◌++◌, map, length, Some, refl, sym, ap, ◌∙◌, arith}
use Rattle.std.specs.List.{AllByRecursion, flat_map, list_any}
use Rattle.std.proofs.lemmas.List.{length-map}
use Rattle.std.proofs.lemmas.List.Concat.{flat_map-cons}
use Rattle.mt_path.specs.AccountPath.{IsLogin}
use Rattle.mt_certline.specs.Certificate.{lines_of}
use Rattle.mt_certline.specs.Laws.{IsLine}
use Rattle.mt_certline.specs.Read.{line_of}
use Rattle.mt_certline.specs.declared.line.Line.{Line}
use Rattle.mt_certline.proofs.LinesAgain.{lines-again, texts-lines}
use Rattle.mt_checker.specs.Judge.{Spells, line_feed}
use Rattle.mt_checker.specs.Texts.{WrittenIsAccepted, certificate_text, written}
use Rattle.mt_checker.proofs.Cuts.{exact}

module _ (login : List ℕ) (named : IsLogin login) where
  read_again : (ls : List Line) → AllByRecursion IsLine ls → map (line_of login) (map (written login) ls) ≡ map (λ l. Some l) ls
  read_again [] all = refl
  read_again (l ∷ ls) all = ap (λ o. o ∷ map (line_of login) (map (written login) ls)) (lines-again login l named all.0) ∙ ap (λ os. Some l ∷ os) (read_again ls all.1)

  all_clear : (ls : List Line) → AllByRecursion IsLine ls → AllByRecursion (λ t. list_any (λ b. b == line_feed) t ≡ false) (map (written login) ls)
  all_clear [] all = tt
  all_clear (l ∷ ls) all = (texts-lines login l named all.0, all_clear ls all.1)

  all_short : (n : ℕ) (ls : List Line) → AllByRecursion (λ l. length (written login l) < n) ls → AllByRecursion (λ t. length t < n) (map (written login) ls)
  all_short n [] all = tt
  all_short n (l ∷ ls) all = (all.0, all_short n ls all.1)

  joined : (ls : List Line) → flat_map (λ t. t ++ line_feed ∷ []) (map (written login) ls) ≡ flat_map (λ l. written login l ++ line_feed ∷ []) ls
  joined [] = refl
  joined (l ∷ ls) =
      flat_map-cons (λ t. t ++ line_feed ∷ []) (written login l) (map (written login) ls)
      ∙ (ap (λ x. (written login l ++ line_feed ∷ []) ++ x) (joined ls) ∙ sym (flat_map-cons (λ k. written login k ++ line_feed ∷ []) l ls))

pub written-accepted : WrittenIsAccepted
written-accepted login c named lines fits adds =
    let spelled : Spells login (certificate_text login c) c = record {
      texts = map (written login) (lines_of c);
      whole = joined login named (lines_of c);
      lines = read_again login named (lines_of c) lines;
      clear = all_clear login named (lines_of c) lines;
      short = all_short login named 16777216 (lines_of c) fits.short;
      few = omega (arith, fits.few, length-map (lines_of c) (written login));
    } in
    (exact login (certificate_text login c)).1 (c, spelled, adds)
