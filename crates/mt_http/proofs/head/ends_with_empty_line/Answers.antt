use Rattle.std.proofs.Common.{inl, inr}
use Rattle.std.proofs.lemmas.Bool.{both_ways}
use Rattle.mt_http.proofs.EndsWith.{ends_with_lf, ends_with_crlf, one_test}
use Rattle.mt_http.proofs.head.ends_with_empty_line.Goals as goal

pub returns-then-ends_with : goal.returns-then-ends_with
returns-then-ends_with c = (λ found. ends_with_lf c.args.bytes.now _ c.ends_with.ensures.value found, λ ends. c.if-ends_with.true)

pub returns-else-ends_with : goal.returns-else-ends_with
returns-else-ends_with c = (
  λ found. ends_with_crlf c.args.bytes.now _ c.ends_with-else-ends_with.ensures.value found,
  λ ends. elim (one_test c.args.bytes.now _ _ c.ends_with.ensures.value c.ends_with-else-ends_with.ensures.value ends) [
    | inl first ↦ absurd (both_ways _ c.if-ends_with.false first)
    | inr second ↦ second
  ],
)
