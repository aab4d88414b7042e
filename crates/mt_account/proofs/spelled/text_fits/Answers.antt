use Rattle.std.proofs.Common.{subst}
use Rattle.std.proofs.lemmas.Str.{is_utf8-from_IsUtf8}
use Rattle.std.specs.Prelude.{IsTrue}
use Rattle.std.specs.Str.{is_utf8}
use Rattle.mt_account.proofs.spelled.text_fits.Goals as goal

pub returns : goal.returns
returns c = subst (λ t. IsTrue (is_utf8 t)) c.as_str-text.ensures (is_utf8-from_IsUtf8 c.as_str-text.result.now c.as_str-text.utf8)
