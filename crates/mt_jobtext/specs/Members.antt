-- Parts of JSON texts: members that stand where there is something to say, lists with commas, and what is shown for bytes that are no text.
use Rattle.std.specs.Prelude.{ℕ, Bool, true, List, [], ◌∷◌, ◌++◌, codes, decimal, Option, Some, None}
use Rattle.std.specs.Str.Lossy.{replacement_bytes}
use Rattle.json.specs.Print.{quoted}
use Rattle.serde_json.specs.Written.{comma_if}
use Rattle.mt_types.specs.declared.document.PhaseKind.{PhaseKind}
use Rattle.mt_types.specs.declared.document.PhaseKind.TheVariants.{Map, Reduce}

-- the member of an input behind another, where there is one
abbrev pub input_text : Option (List ℕ) → List ℕ
input_text None = []
input_text (Some name) = codes ",\"input\":" ++ quoted name

-- that of a reducer
abbrev pub reducer_text : Option ℕ → List ℕ
reducer_text None = []
reducer_text (Some number) = codes ",\"reducer\":" ++ decimal number

-- that of a number of reducers
abbrev pub count_text : PhaseKind → List ℕ
count_text Map = []
count_text (Reduce count) = codes ",\"count\":" ++ decimal count

-- that of a command line that is run before
abbrev pub init_text : Option (List ℕ) → List ℕ
init_text None = []
init_text (Some init) = codes ",\"init\":" ++ quoted init

-- these texts with commas between them, and one in front where something stands before
abbrev pub listed : Bool → List (List ℕ) → List ℕ
listed later [] = []
listed later (text ∷ texts) = comma_if later ++ (text ++ listed true texts)

-- a run of bytes that are no text is shown as one U+FFFD
abbrev pub shown_for : List ℕ → List ℕ
shown_for [] = []
shown_for (byte ∷ bytes) = replacement_bytes
