use Rattle.std.proofs.Common.{◌+◌, ◌%◌, arith, drop, ap, ◌∙◌}
use Rattle.std.proofs.lemmas.List.{length-take-le, take_at}
use Rattle.std.specs.List.{slice_range}
use Rattle.mt_log.specs.Places.{payload_at}
use Rattle.mt_log.proofs.Places.{end_of-holds}
use Rattle.mt_log.proofs.Standing.{tells_log}
use Rattle.mt_body.proofs.Parts.{part_of}
use Rattle.mt_body.proofs.part.read_some.Goals as goal

pub read_part-requires-clause-part : goal.read_part-requires-clause-part
read_part-requires-clause-part g c ps is =
    let log = tells_log g.D.Disk.seen c.args.disk.now c.args.log.now c.requires.there c.requires.is_open ps is in
    let gate = end_of-holds _ _ _ _ log.holds in
    let n = c.min-count.result in
    let size = length-take-le n c.args.into.now (omega (arith, c.min-count.ensures)) in
    let p = part_of ps c.args.body.now c.min-place.result c.args.at n (c.requires.stored ps is) (omega (arith, c.min-count.ensures, c.requires.room)) (omega (arith, c.min-count.ensures)) (omega (arith, c.min-count.ensures, c.requires.within))
    (λ le. omega (arith, le, gate, c.saturating_mul.ensures, c.saturating_add.ensures, c.min-place.ensures, c.len.ensures)) in
    omega (arith, p.fits, size)

pub returns-in-Ok-clause-bytes : goal.returns-in-Ok-clause-bytes
returns-in-Ok-clause-bytes g c ps is =
    let log = tells_log g.D.Disk.seen c.args.disk.now c.args.log.now c.requires.there c.requires.is_open ps is in
    let gate = end_of-holds _ _ _ _ log.holds in
    let n = c.min-count.result in
    let size = length-take-le n c.args.into.now (omega (arith, c.min-count.ensures)) in
    let p = part_of ps c.args.body.now c.min-place.result c.args.at n (c.requires.stored ps is) (omega (arith, c.min-count.ensures, c.requires.room)) (omega (arith, c.min-count.ensures)) (omega (arith, c.min-count.ensures, c.requires.within))
    (λ le. omega (arith, le, gate, c.saturating_mul.ensures, c.saturating_add.ensures, c.min-place.ensures, c.len.ensures)) in
    take_at c.read_part.new.into (drop n c.args.into.now) n (c.read_part.auto.into ∙ size) ∙ c.in-Ok.ensures.part ps is
    ∙ ap (λ k. slice_range (payload_at c.min-place.result ps) (1 + c.args.at % 65536) (1 + c.args.at % 65536 + k)) size ∙ p.bytes
