-- The text of a certificate.
use Rattle.std.specs.Prelude.{◌≡◌, ◌<◌, ◌≤◌, ℕ, List, [], ◌∷◌, ◌++◌, length}
use Rattle.std.specs.List.{AllByRecursion, flat_map}
use Rattle.serde_json.specs.Written.{compact_text}
use Rattle.mt_path.specs.AccountPath.{IsLogin}
use Rattle.mt_certline.specs.Certificate.{AddsUp, Certificate, lines_of}
use Rattle.mt_certline.specs.Laws.{IsLine}
use Rattle.mt_certline.specs.Written.{line_data}
use Rattle.mt_certline.specs.declared.line.Line.{Line}
use Rattle.mt_checker.specs.Judge.{Accepted, judge, line_feed}
use Rattle.mt_checker.specs.declared.limits.TheConstants.{LONGEST_LINE, MOST_LINES}

-- a line as it is written, without its line feed
abbrev pub written : List ℕ → Line → List ℕ
written login l = compact_text (line_data login l)

-- the lines of a certificate, each with its line feed
abbrev pub certificate_text : List ℕ → Certificate → List ℕ
certificate_text login c = flat_map (λ l. written login l ++ line_feed ∷ []) (lines_of c)

-- its lines are within the limits
pub record Fits (login : List ℕ) (c : Certificate) : Type 0 where
  pub short : AllByRecursion (λ l. length (written login l) < LONGEST_LINE) (lines_of c)
  pub few : length (lines_of c) ≤ MOST_LINES

-- what is written of a certificate that adds up is accepted
abbrev pub WrittenIsAccepted : Type 0
WrittenIsAccepted = (login : List ℕ) (c : Certificate) → IsLogin login → AllByRecursion IsLine (lines_of c) → Fits login c → AddsUp c → judge login (certificate_text login c) ≡ Accepted
