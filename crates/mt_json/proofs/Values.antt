-- The value that bytes are, by the value that their text is.
use Rattle.std.proofs.Common.{◌≡◌, ℕ, Bool, true, false, List, Some, None, IsUtf8, refl}
use Rattle.std.specs.Str.{is_utf8}
use Rattle.std.proofs.lemmas.Str.{IsUtf8-from_is_utf8, is_utf8-from_IsUtf8}
use Rattle.serde_json.specs.Data.{Data}
use Rattle.serde_json.specs.Read.{read}
use Rattle.mt_json.specs.Plain.{value_of}

pub value_is : (bytes : List ℕ) (d : Data) → IsUtf8 bytes → read bytes ≡ Some d → Some d ≡ value_of bytes
value_is bytes d utf8 is = rw (is_utf8-from_IsUtf8 bytes utf8, is) refl

pub no_value : (bytes : List ℕ) → (IsUtf8 bytes → read bytes ≡ None) → None ≡ value_of bytes
no_value bytes none = by (is_utf8 bytes) refl
  where
    by : (b : Bool) → is_utf8 bytes ≡ b → None ≡ value_of bytes
    by true is = rw (is, none (IsUtf8-from_is_utf8 bytes is)) refl
    by false is = rw is refl
