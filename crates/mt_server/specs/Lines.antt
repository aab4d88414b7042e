-- The one line that a run writes where it serves nothing.
use Rattle.std.specs.Prelude.{◌≡◌, ◌⊎◌, ℕ, ◌+◌, ◌/◌, ◌%◌, nat_lt, if◌then◌else◌, codes, [], ◌∷◌, ◌++◌, Option}
use Rattle.std.specs.List.{flat_map}
use Rattle.std.specs.Fmt.{decimal}
use Rattle.mt_base.specs.Counts.{Rose, NeverFell}
use Rattle.mt_base.specs.Lists.{IsPrefixOf}
use Rattle.mt_edge.specs.Stream.{GotMore}
use Rattle.mt_opening.specs.History.{Bytes}
use Rattle.mt_opening.specs.declared.opening.Unreadable.{Unreadable}
use Rattle.mt_opening.specs.declared.opening.Unreadable.TheVariants as unreadable

-- a number below 16 as a lower-case hexadecimal digit
abbrev pub hex_digit : ℕ → ℕ
hex_digit n = if nat_lt n 10 then 48 + n else 87 + n

-- a byte as two of them
abbrev pub hex_pair : ℕ → Bytes
hex_pair b = hex_digit (b / 16) ∷ hex_digit (b % 16) ∷ []

abbrev pub hex_text : Bytes → Bytes
hex_text bytes = flat_map hex_pair bytes

-- the line of words that are not of the grammar
abbrev pub usage_line : Bytes
usage_line = codes "usage: mantad COMMAND [OPTIONS]\n"

-- the line of a store that can't be opened
abbrev pub line_of : Unreadable → Bytes
line_of unreadable.NotALog = codes "mantad: the log file is not a mantad log\n"
line_of unreadable.OldVersion = codes "mantad: log version MTLOG001 is not supported\n"
line_of (unreadable.Damaged at kept computed) = codes "mantad: log damaged at byte " ++ decimal at ++ codes ": stored MD5 " ++ hex_text kept ++ codes ", computed " ++ hex_text computed ++ codes "\n"
line_of (unreadable.Short at wanted left) = codes "mantad: log truncated at byte " ++ decimal at ++ codes ": " ++ decimal wanted ++ codes " bytes expected, " ++ decimal left ++ codes " left\n"
line_of (unreadable.Foreign at) = codes "mantad: unknown record at byte " ++ decimal at ++ codes " of the log (written by another version?)\n"

-- a line was written, or a front of it where the sink failed
pub record SaysLine (line : Bytes) (got got' : Option Bytes) (write_faults write_faults' : ℕ) : Type 0 where
  pub written : Bytes
  pub front : IsPrefixOf written line
  pub sink : GotMore got written got'
  pub whole : (written ≡ line) ⊎ Rose write_faults write_faults'
  pub counted : NeverFell write_faults write_faults'
