-- Values without floats are read again, alone and from lines.
use Rattle.std.proofs.Common.{◌≡◌, List, [], ◌∷◌, Some, option_map, option_and_then, refl, ap, ◌∙◌, append_assoc, map}
use Rattle.std.specs.List.{AllByRecursion}
use Rattle.std.proofs.lemmas.Str.{is_utf8-from_IsUtf8}
use Rattle.serde_json.specs.Data.{Data}
use Rattle.serde_json.specs.Written.{compact_text}
use Rattle.mt_json.specs.Laws.{IsKept, LinesReadAgain, TextsAreLines, ValuesReadAgain}
use Rattle.mt_json.specs.Lines.{each, lines_of, lines_text}
use Rattle.mt_json.specs.Plain.{value_of}
use Rattle.mt_json.proofs.Again.{read-compact_text}
use Rattle.mt_json.proofs.LineParts.{lines_of-line}
use Rattle.mt_json.proofs.LineTexts.{line-compact_text}

pub values-again : ValuesReadAgain
values-again d kept = rw (is_utf8-from_IsUtf8 (compact_text d) (line-compact_text d kept.plain).utf8) (read-compact_text d kept.plain kept.shallow)

pub texts-lines : TextsAreLines
texts-lines d plain = (line-compact_text d plain).clear

pub lines-texts : (ds : List Data) → AllByRecursion IsKept ds → lines_of (lines_text ds) ≡ Some (map compact_text ds)
lines-texts [] all = refl
lines-texts (d ∷ ds) all =
    ap lines_of (append_assoc (compact_text d) (10 ∷ []) (lines_text ds)) ∙ lines_of-line (compact_text d) (lines_text ds) (texts-lines d all.0.plain)
    ∙ ap (option_map (λ lines. compact_text d ∷ lines)) (lines-texts ds all.1)

each-again : (ds : List Data) → AllByRecursion IsKept ds → each value_of (map compact_text ds) ≡ Some ds
each-again [] all = refl
each-again (d ∷ ds) all =
    ap (option_and_then (λ x. option_map (λ xs. x ∷ xs) (each value_of (map compact_text ds)))) (values-again d all.0)
    ∙ ap (option_map (λ xs. d ∷ xs)) (each-again ds all.1)

pub lines-again : LinesReadAgain
lines-again ds all = ap (option_and_then (each value_of)) (lines-texts ds all) ∙ each-again ds all
