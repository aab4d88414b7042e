-- The decoder is exact, and what is refused is no text of 16 bytes.
use Rattle.std.proofs.Common.{rules, ◌≡◌, sym, ap, ◌∙◌, length, take, Ok, Err, ◌≤◌}
use Rattle.std.proofs.lemmas.List.{length-take-le}
use Rattle.base64.specs.Engines.{standard}
use Rattle.base64.specs.GeneralPurpose.{decode_of}
use Rattle.mt_ident.specs.Digests.{IsDigest}
use Rattle.mt_ident.proofs.DigestTexts.{length-digest_text, decode_of-digest_text, none_exact, some_exact}
use Rattle.mt_ident.proofs.digests.md5_read.Goals as goal

pub returns-then-text-ne-TEXT_SIZE : goal.returns-then-text-ne-TEXT_SIZE
returns-then-text-ne-TEXT_SIZE c = record {
  exact = none_exact c.args.text.now
      (λ d is written. c.if-text-ne-TEXT_SIZE.true (ap length written ∙ length-digest_text d is.sixteen));
}

pub returns-in_default : goal.returns-in_default
returns-in_default c = record {
  exact = none_exact c.args.text.now
      (λ d is written.
      let fails : decode_of standard c.args.text.now ≡ Err c.in_default.field-0 = search rules in
      let reads = decode_of-digest_text d c.args.text.now is written in
      cc);
}

pub returns-then-count-ne-DIGEST_SIZE : goal.returns-then-count-ne-DIGEST_SIZE
returns-then-count-ne-DIGEST_SIZE c = record {
  exact = none_exact c.args.text.now
      (λ d is written.
      let out = c.decode_slice_unchecked.new.output in
      let gives : decode_of standard c.args.text.now ≡ Ok (take c.in-Ok.count out) = search rules in
      let fits : c.in-Ok.count ≤ length out = search rules in
      let reads = decode_of-digest_text d c.args.text.now is written in
      let same : take c.in-Ok.count out ≡ d = cc in
      c.if-count-ne-DIGEST_SIZE.true (sym (length-take-le c.in-Ok.count out fits) ∙ ap length same ∙ is.sixteen));
}

pub returns : goal.returns
returns c =
    let out = c.decode_slice_unchecked.new.output in
    let gives : decode_of standard c.args.text.now ≡ Ok (take c.in-Ok.count out) = search rules in
    let decoded : decode_of standard c.args.text.now ≡ Ok c.front.result = rw c.front.ensures (rw c.if-count-ne-DIGEST_SIZE.false at gives) in
    let is : IsDigest c.front.result = search rules in
    record { exact = some_exact c.args.text.now c.front.result (λ i. search rules) is decoded }
