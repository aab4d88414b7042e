-- Where the head of a message ends: with its empty line. A line ends with LF (10), and a CR (13) before it is none of the line.
use Rattle.std.specs.Prelude.{◌≡◌, ◌≢◌, ◌⊎◌, ℕ, ◌+◌, ◌<◌, ◌≤◌, List, Option, Some, None, get_or, length}
use Rattle.mt_adapters.specs.declared.whole.Seen.{Seen}
use Rattle.mt_adapters.specs.declared.whole.Seen.TheVariants as seen

-- so many bytes end behind a line, but for CR, and a line before its end says something
pub record IsBehindLine (bytes : List ℕ) (len : ℕ) : Type 0 where
  pub end : ℕ
  pub within : end < len
  pub line : get_or bytes end 0 ≡ 10
  pub empty : (k : ℕ) → end < k → k < len → get_or bytes k 0 ≡ 13
  pub said : ℕ
  pub first : said < end
  pub no_line : get_or bytes said 0 ≢ 10
  pub no_return : get_or bytes said 0 ≢ 13

-- at this place an empty line ends, and a line before it says something
abbrev pub EndsHead : List ℕ → ℕ → Type 0
EndsHead bytes at = (get_or bytes at 0 ≡ 10) × IsBehindLine bytes at

-- in so many bytes at the front there is no head
abbrev pub HasNoHead : List ℕ → ℕ → Type 0
HasNoHead bytes len = (at : ℕ) → at < len → ¬ (EndsHead bytes at)

-- the head at the front is so long
abbrev pub IsHead : List ℕ → ℕ → Type 0
IsHead bytes len = (last : ℕ) × (len ≡ last + 1) × EndsHead bytes last × HasNoHead bytes last

-- the head that was found, or none in all the bytes
abbrev pub FindsHead : List ℕ → Option ℕ → Type 0
FindsHead bytes (Some len) = IsHead bytes len × (len ≤ length bytes)
FindsHead bytes None = HasNoHead bytes (length bytes)

-- there is a head
abbrev pub HasHead : List ℕ → Type 0
HasHead bytes = (len : ℕ) × IsHead bytes len × (len ≤ length bytes)

-- the last line of so many bytes is not over, and says something
pub record IsInLine (bytes : List ℕ) (len : ℕ) : Type 0 where
  pub said : ℕ
  pub within : said < len
  pub no_line : get_or bytes said 0 ≢ 10
  pub no_return : get_or bytes said 0 ≢ 13
  pub one : (k : ℕ) → said < k → k < len → get_or bytes k 0 ≢ 10

-- what is seen in so many bytes at the front
abbrev pub Sees : Seen → List ℕ → ℕ → Type 0
Sees seen.Nothing bytes len = (k : ℕ) → k < len → (get_or bytes k 0 ≡ 10) ⊎ (get_or bytes k 0 ≡ 13)
Sees seen.Line bytes len = HasNoHead bytes len × IsInLine bytes len
Sees seen.Lines bytes len = HasNoHead bytes len × IsBehindLine bytes len
