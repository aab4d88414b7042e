-- What is written is read again.
use Rattle.std.specs.Prelude.{◌≡◌, ◌≤◌, false, List, Some}
use Rattle.std.specs.List.{AllByRecursion, list_any}
use Rattle.serde_json.specs.Data.{Data, depth}
use Rattle.serde_json.specs.Read.{max_depth}
use Rattle.serde_json.specs.Written.{compact_text}
use Rattle.mt_json.specs.Lines.{is_feed, lines_text, values_of}
use Rattle.mt_json.specs.Plain.{IsPlain, value_of}

-- it has no float and nests at most 127 deep
pub record IsKept (d : Data) : Type 0 where
  pub plain : IsPlain d
  pub shallow : depth d ≤ max_depth

-- each such value is read from its text
abbrev pub ValuesReadAgain : Type 0
ValuesReadAgain = (d : Data) → IsKept d → value_of (compact_text d) ≡ Some d

-- and its text is one line
abbrev pub TextsAreLines : Type 0
TextsAreLines = (d : Data) → IsPlain d → list_any is_feed (compact_text d) ≡ false

-- such values are read from their lines
abbrev pub LinesReadAgain : Type 0
LinesReadAgain = (ds : List Data) → AllByRecursion IsKept ds → values_of (lines_text ds) ≡ Some ds
