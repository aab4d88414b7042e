use Rattle.std.proofs.Common.{◌≡◌, ◌∙◌, ◌<◌, ◌++◌, [], ◌∷◌, ℕ, None, Some, ap, arith, sym, zero-add}
use Rattle.std.proofs.lemmas.List.FromFn.{map-range_with_len_more}
use Rattle.mt_records.specs.Records.{record_bytes}
use Rattle.mt_records.specs.declared.head.RecordHead.TheVariants.{Emit}
use Rattle.mt_split.specs.Partition.{part_of}
use Rattle.mt_split.specs.Spans.{bytes_in}
use Rattle.mt_split.specs.declared.key.KeyRule.TheVariants.{Line}
use Rattle.mt_gen.specs.Work.{part_file}
use Rattle.mt_gen.proofs.work.split_files.Goals as goal

pub loop-number-preserved : goal.loop-number-preserved
loop-number-preserved c =
    let text = c.args.text.now in
    let n : ℕ = c.loop-number.number in
    let below : n < 4 = omega (arith, c.loop-number-test.true) in
    let is : c.in_ok-bytes.bytes.items ≡ record_bytes (record { head = Emit None (Some n); body = part_of text 4 Line n })
    = c.in_ok-bytes.ensures ∙ ap (λ body. record_bytes (record { head = Emit None (Some n); body = body })) (ap (bytes_in text) c.part.ensures ∙ c.in_ok-parts.ensures.part n below) in
    c.in_ok-push.ensures.items ∙ ((λ i. c.loop-number.invariant i ++ record { number = n; bytes = (c.from_vec.ensures ∙ is) i } ∷ []) ∙ sym (map-range_with_len_more (part_file text) 0 n n (zero-add n)))
