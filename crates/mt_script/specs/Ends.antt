-- How a run of a client ends, and the line of a refusal.
use Rattle.std.specs.Prelude.{ℕ, List, [], ◌∷◌, ◌++◌, codes, Option, Some, None, option_map, option_and_then}
use Rattle.serde_json.specs.Data.{Data}
use Rattle.serde_json.specs.Find.{as_str, get}
use Rattle.mt_json.specs.Plain.{value_of}
use Rattle.mt_script.specs.declared.end.ClientEnd.{ClientEnd}
use Rattle.mt_script.specs.declared.end.ClientEnd.TheVariants as end
use Rattle.mt_script.specs.declared.end.Closing.{Closing}

-- the status of a program that ends so
abbrev pub code_of : ClientEnd → ℕ
code_of end.Done = 0
code_of end.Usage = 1
code_of end.Refused = 2
code_of end.SourceFault = 3
code_of end.SinkFault = 4
code_of end.LinkFault = 5
code_of end.BadReply = 6
code_of end.TooManyRequests = 7
code_of end.Memory = 8
code_of end.InputTooLarge = 9

-- this text, and then this end
abbrev pub with_text : List ℕ → ClientEnd → Closing
with_text text e = record { text = text; end = e }

-- an end without a text
abbrev pub silent : ClientEnd → Closing
silent e = with_text [] e

-- ---- a refusal

-- the text at a key of an object
abbrev pub text_at : List ℕ → Data → Option (List ℕ)
text_at key d = option_and_then as_str (get key d)

-- the line of a code and a message
abbrev pub line_of : List ℕ → List ℕ → List ℕ
line_of code message = code ++ codes ": " ++ message ++ 10 ∷ []

-- the line of an object with texts `code` and `message`
abbrev pub refusal_in : Data → Option (List ℕ)
refusal_in d = option_and_then (λ code. option_map (line_of code) (text_at (codes "message") d)) (text_at (codes "code") d)

-- the line of a body that is such an object
abbrev pub refusal_line : List ℕ → Option (List ℕ)
refusal_line body = option_and_then refusal_in (value_of body)

abbrev pub refused_with : Option (List ℕ) → Closing
refused_with None = silent end.BadReply
refused_with (Some line) = with_text line end.Refused

-- what a reply of another status than the wanted one ends with, by its body
abbrev pub refused_by : List ℕ → Closing
refused_by body = refused_with (refusal_line body)
