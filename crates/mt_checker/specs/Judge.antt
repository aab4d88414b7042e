-- The judgement on bytes: they are the lines of a certificate that adds up, or which line is the first that is wrong.
use Rattle.std.specs.Prelude.{◌≡◌, ◌≤◌, ◌<◌, ℕ, ◌+◌, Bool, true, false, ◌==◌, ◌&&◌, nat_lt, nat_le, List, [], ◌∷◌, ◌++◌, map, length, Option, Some, None, option_and_then, if◌then◌else◌, ◌↔◌}
use Rattle.std.specs.List.{AllByRecursion, flat_map, list_any}
use Rattle.std.specs.Option.{option_map_or}
use Rattle.mt_certline.specs.Certificate.{AddsUp, Certificate, lines_of}
use Rattle.mt_certline.specs.Read.{line_of}
use Rattle.mt_checker.specs.Stages.{Beginning, Listing, Over, Stage, after}
use Rattle.mt_checker.specs.declared.limits.TheConstants.{LONGEST_LINE, MOST_LINES}

-- `b'\n'`
abbrev pub line_feed : ℕ
line_feed = 10

-- a line that was cut from bytes: what stands before its line feed, and whether that is there
pub record Cut : Type 0 where
  pub text : List ℕ
  pub ended : Bool

-- the first line of bytes behind one that is begun, and those behind it
abbrev pub cut_behind : List ℕ → List ℕ → List Cut
cut_behind [] [] = []
cut_behind (x ∷ xs) [] = record { text = x ∷ xs; ended = false } ∷ []
cut_behind begun (b ∷ bs) = if b == line_feed then record { text = begun; ended = true } ∷ cut_behind [] bs else cut_behind (begun ++ b ∷ []) bs

-- the lines of bytes; the last may lack its line feed
abbrev pub cut : List ℕ → List Cut
cut bytes = cut_behind [] bytes

-- all is well, or the line of this number, counted from 1, is the first that is wrong
pub data Verdict : Type 0 where
  Accepted : Verdict
  RefusedAt : ℕ → Verdict

-- the limits of a line with its line feed, and of how many there are
abbrev pub is_within : ℕ → Cut → Bool
is_within number c = c.ended && nat_lt (length c.text) LONGEST_LINE && nat_le number MOST_LINES

-- the stage behind a cut line of this number
abbrev pub after_cut : List ℕ → ℕ → Stage → Cut → Option Stage
after_cut login number s c = if is_within number c then option_and_then (after s) (line_of login c.text) else None

-- the certificate ends where its last line was
abbrev pub ended_at : ℕ → Stage → Verdict
ended_at number Beginning = RefusedAt number
ended_at number (Listing g) = RefusedAt number
ended_at number Over = Accepted

-- the judgement on lines, the first of this number, behind those that led to a stage
abbrev pub judge_from : List ℕ → ℕ → Stage → List Cut → Verdict
judge_from login number s [] = ended_at number s
judge_from login number s (c ∷ cs) = option_map_or (λ t. judge_from login (number + 1) t cs) (after_cut login number s c) (RefusedAt number)

-- THE JUDGEMENT
unfoldable pub judge : List ℕ → List ℕ → Verdict
judge login bytes = judge_from login 1 Beginning (cut bytes)

-- the bytes are the lines of this certificate, each with its line feed, within the limits
pub record Spells (login bytes : List ℕ) (c : Certificate) : Type 0 where
  pub texts : List (List ℕ)
  pub whole : flat_map (λ t. t ++ line_feed ∷ []) texts ≡ bytes
  pub lines : map (line_of login) texts ≡ map (λ l. Some l) (lines_of c)
  pub clear : AllByRecursion (λ t. list_any (λ b. b == line_feed) t ≡ false) texts
  pub short : AllByRecursion (λ t. length t < LONGEST_LINE) texts
  pub few : length texts ≤ MOST_LINES

-- bytes are accepted exactly where they are the lines of a certificate that adds up
abbrev pub CheckerExact : Type 0
CheckerExact = (login bytes : List ℕ) → (judge login bytes ≡ Accepted) ↔ ((c : Certificate) × Spells login bytes c × AddsUp c)
