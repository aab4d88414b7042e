-- An exact answer is the number of the text.
use Rattle.std.proofs.Common.{rules, ◌≡◌, ◌↔◌, ℕ, Some, None}
use Rattle.mt_ident.specs.Identifiers.{IsIdentifier}
use Rattle.mt_ident.proofs.IdentifierTexts.{same_from_exact}
use Rattle.mt_ident.proofs.identifiers.uuid_number.Goals as goal

pub returns-in_err-number-clause-number : goal.returns-in_err-number-clause-number
returns-in_err-number-clause-number c =
    let exact : (n : ℕ) → (c.from_residual.result ≡ Some n) ↔ IsIdentifier c.args.kind n c.args.text.now = search rules in
    same_from_exact c.args.kind c.args.text.now c.from_residual.result exact

pub returns-then-is_identifier-clause-number : goal.returns-then-is_identifier-clause-number
returns-then-is_identifier-clause-number c =
    let exact : (n : ℕ) → (Some c.in_ok-number.number ≡ Some n) ↔ IsIdentifier c.args.kind n c.args.text.now = search rules in
    same_from_exact c.args.kind c.args.text.now (Some c.in_ok-number.number) exact

pub returns-else-is_identifier-clause-number : goal.returns-else-is_identifier-clause-number
returns-else-is_identifier-clause-number c =
    let exact : (n : ℕ) → (None ≡ Some n) ↔ IsIdentifier c.args.kind n c.args.text.now = search rules in
    same_from_exact c.args.kind c.args.text.now None exact
