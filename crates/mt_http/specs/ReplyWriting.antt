-- What writing a reply does.
use Rattle.std.specs.Prelude.{◌≡◌, ℕ, List, map, Option, Result, Ok, Err}
use Rattle.mt_base.specs.Counts.{Rose, NeverFell}
use Rattle.mt_edge.specs.Stream.{GotMore, WritesFront}
use Rattle.mt_types.specs.declared.object.Field.{Field}
use Rattle.mt_http.specs.declared.reply.Line.{Line}
use Rattle.mt_http.specs.declared.reply.ReplyEnd.{ReplyEnd}
use Rattle.mt_http.specs.declared.reply.ReplyEnd.TheVariants as reply_end

-- A text was written whole, or a front of it, less than all, before a counted fault, or nothing of it for want of memory.
abbrev pub WritesText : Option (List ℕ) → ℕ → List ℕ → Result (Unit {0}) ReplyEnd → Option (List ℕ) → ℕ → Type 0
WritesText got faults text (Ok _) got' faults' = GotMore got text got' × NeverFell faults faults'
WritesText got faults text (Err reply_end.SinkFault) got' faults' = WritesFront got text got' × Rose faults faults'
WritesText got faults text (Err reply_end.Memory) got' faults' = (got' ≡ got) × NeverFell faults faults'

-- and what writing leaves alone stays
pub record TextGoesOut {K : Type 0} (got : K → Option (List ℕ)) (count : K → ℕ) (alone : K → K → Type 0) (old new : K) (text : List ℕ) (result : Result (Unit {0}) ReplyEnd) : Type 0 where
  pub writes : WritesText (got old) (count old) text result (got new) (count new)
  pub stays : alone old new

-- the field that a line lends
abbrev pub field_of_line : Line → Field
field_of_line line = record { name = line.name.now; value = line.value.now }

-- the fields that lines lend
abbrev pub fields_of_lines : List Line → List Field
fields_of_lines lines = map field_of_line lines
