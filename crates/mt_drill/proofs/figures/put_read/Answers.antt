-- The body is read whole.
use Rattle.std.proofs.Common.{◌≡◌, ℕ, length, take, drop, refl, ap, sym, ◌∙◌, arith}
use Rattle.mt_body.specs.Stored.{bytes_of}
use Rattle.mt_body.proofs.Keeping.{length-bytes_of}
use Rattle.mt_drill.proofs.Lines.{figure_read}
use Rattle.mt_drill.proofs.figures.put_read.Goals as goal

pub read_body-requires-clause-ready : goal.read_body-requires-clause-ready
read_body-requires-clause-ready g c = record { there = c.requires.there.there; is_open = c.requires.there.is_open; stored = λ ps is. (c.requires.stored ps is).pieces }

pub returns-in_err-read_body-clause-reads : goal.returns-in_err-read_body-clause-reads
returns-in_err-read_body-clause-reads g c =
    let looks = c.in_err-read_body.ensures.looks in
    record { read = looks.read; disk = λ is. looks.disk refl; faults = looks.faults }

pub returns-clause-figure : goal.returns-clause-figure
returns-clause-figure g c ps is =
    let bytes = bytes_of ps c.args.body.now in
    let same : length c.args.into.now ≡ length c.read_body.new.into = omega (arith, c.read_body.auto.into) in
    figure_read bytes c.read_body.new.into c.args.out.now.items c.put_words.new.out.items c.put_words-2.new.out.items (length c.read_body.new.into) (length-bytes_of ps c.args.body.now ∙ (sym c.requires.len.0 ∙ same))
    (c.in_ok-read_body.ensures.bytes ps is ∙ ap (λ (k : ℕ). take k (drop 0 bytes)) same) c.in_ok-put_words.ensures c.in_ok-put_words-2.ensures
