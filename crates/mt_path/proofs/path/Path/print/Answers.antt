-- The bytes are UTF-8, as the login is text and each component is.
use Rattle.std.proofs.Common.{rules, ◌≡◌, IsUtf8, ap, ◌∙◌}
use Rattle.std.proofs.lemmas.Bool.{false≢true}
use Rattle.mt_path.specs.AccountPath.{path_text}
use Rattle.mt_path.specs.Keys.{path_at}
use Rattle.mt_path.proofs.Texts.{IsUtf8-path_text}
use Rattle.mt_path.proofs.path.Path.print.Goals as goal

pub unreachable-requires : goal.unreachable-requires
unreachable-requires c =
    let login : IsUtf8 c.as_bytes.result.now = search rules in
    let text : c.in_ok-text.text.items ≡ path_text c.as_bytes.result.now (path_at c.self.inside.area c.self.inside.key.items) = c.in_ok-text.ensures ∙ ap (λ key. path_text c.as_bytes.result.now (path_at c.self.inside.area key)) c.deref.ensures.value in
    let utf8 : IsUtf8 c.in_ok-text.text.items = rw text (IsUtf8-path_text _ _ login c.self.invariant.path) in
    false≢true (c.in-Err.ensures.succeeds utf8)
