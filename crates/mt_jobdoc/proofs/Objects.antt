-- The JSON object that bytes are, and the list of its phases.
use Rattle.std.proofs.Common.{◌≡◌, ℕ, ◌<◌, ◌≤◌, Bool, true, false, List, [], ◌∷◌, length, refl, ap, arith, Some, None, is_some, Ok, Err, IsUtf8}
use Rattle.std.specs.Str.{is_utf8}
use Rattle.std.proofs.lemmas.Str.{is_utf8-from_IsUtf8, IsUtf8-from_is_utf8}
use Rattle.std.proofs.lemmas.Bool.{lt-ltb, le-ltb}
use Rattle.serde_json.specs.Data.{Data}
use Rattle.serde_json.specs.Read.{read}
use Rattle.serde_json.specs.Find.{as_object}
use Rattle.serde_json.specs.View.{items_of}
use Rattle.mt_jobdoc.specs.declared.error.InvalidJob.TheVariants.{NotJson, TooManyPhases}
use Rattle.mt_jobdoc.specs.Document.{object_of, list_of, some_phases}

pub is_object : (bytes : List ℕ) (d : Data) → IsUtf8 bytes → read bytes ≡ Some d → is_some (as_object d) ≡ true → object_of bytes ≡ Ok d
unfolding object_of
is_object bytes d text is object = rw (is_utf8-from_IsUtf8 bytes text, is, object) refl

pub is_no_object : (bytes : List ℕ) (d : Data) → IsUtf8 bytes → read bytes ≡ Some d → is_some (as_object d) ≡ false → object_of bytes ≡ Err NotJson
unfolding object_of
is_no_object bytes d text is object = rw (is_utf8-from_IsUtf8 bytes text, is, object) refl

by_text : (t : Bool) (bytes : List ℕ) → is_utf8 bytes ≡ t → (IsUtf8 bytes → read bytes ≡ None) → object_of bytes ≡ Err NotJson
unfolding object_of
by_text true bytes is none = rw (is, none (IsUtf8-from_is_utf8 bytes is)) refl
by_text false bytes is none = rw is refl

pub is_no_json : (bytes : List ℕ) → (IsUtf8 bytes → read bytes ≡ None) → object_of bytes ≡ Err NotJson
unfolding object_of
is_no_json bytes none = by_text (is_utf8 bytes) bytes refl none

-- the items of a list are the list again
pub list_of-items_of : (ds : List Data) → list_of (items_of ds) ≡ ds
list_of-items_of [] = refl
list_of-items_of (d ∷ ds) = ap (λ (l : List Data). d ∷ l) (list_of-items_of ds)

pub some-many : (ds : List Data) → 16 < length ds → some_phases (Some ds) ≡ Err TooManyPhases
some-many [] many = absurd (omega arith)
some-many (d ∷ ds) many = rw (lt-ltb 16 (length (d ∷ ds)) many) refl

pub some-few : (ds : List Data) → 0 < length ds → length ds ≤ 16 → some_phases (Some ds) ≡ Ok ds
some-few [] some few = absurd (omega arith)
some-few (d ∷ ds) some few = rw (le-ltb 16 (length (d ∷ ds)) few) refl
