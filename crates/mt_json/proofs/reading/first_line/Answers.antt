use Rattle.std.proofs.Common.{◌≡◌, ◌+◌, ◌<◌, ◌∙◌, suc, Some, ap, arith, length, drop, take}
use Rattle.mt_json.proofs.FirstLines.{first_line-at, first_line-none}
use Rattle.mt_json.proofs.reading.first_line.Goals as goal

pub returns-then-end-bytes : goal.returns-then-end-bytes
returns-then-end-bytes c = first_line-none c.args.bytes.now (λ k less. c.feed_at-end.ensures.none k (omega (arith, less, c.if-end-bytes.true)))

pub returns : goal.returns
returns c =
    let bytes = c.args.bytes.now in
    let end = c.feed_at-end.result in
    let within : end < length bytes = omega (arith, c.feed_at-end.ensures.bound, c.if-end-bytes.false) in
    let next : end + 1 ≡ suc end = omega arith in
    ap (λ rest. Some (take end bytes, rest)) (c.behind.ensures ∙ ap (λ n. drop n bytes) next)
    ∙ first_line-at bytes end within c.feed_at-end.ensures.none (c.feed_at-end.ensures.found within)
