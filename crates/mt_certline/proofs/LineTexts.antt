-- The line that a text is, by the value that it is.
use Rattle.std.proofs.Common.{◌≡◌, ℕ, Bool, true, false, List, Some, None, IsUtf8, refl}
use Rattle.std.specs.Str.{is_utf8}
use Rattle.std.proofs.lemmas.Str.{IsUtf8-from_is_utf8, is_utf8-from_IsUtf8}
use Rattle.serde_json.specs.Data.{Data}
use Rattle.serde_json.specs.Read.{read}
use Rattle.mt_certline.specs.Read.{line_in, line_of}

pub line_is : (login text : List ℕ) (d : Data) → IsUtf8 text → read text ≡ Some d → line_in login d ≡ line_of login text
unfolding line_of
line_is login text d utf8 is = rw (is_utf8-from_IsUtf8 text utf8, is) refl

pub no_line : (login text : List ℕ) → (IsUtf8 text → read text ≡ None) → None ≡ line_of login text
unfolding line_of
no_line login text none = by (is_utf8 text) refl
  where
    by : (b : Bool) → is_utf8 text ≡ b → None ≡ line_of login text
    by true is = rw (is, none (IsUtf8-from_is_utf8 text is)) refl
    by false is = rw is refl
