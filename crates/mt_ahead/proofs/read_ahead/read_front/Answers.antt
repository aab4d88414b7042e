use Rattle.std.proofs.Common.{◌≡◌, ℕ, ◌+◌, ◌-◌, length, drop, take, ap, arith, ◌∙◌}
use Rattle.std.proofs.lemmas.List.{length-take-le, take_at}
use Rattle.std.proofs.lemmas.Option.{MatchOption-at_some}
use Rattle.mt_disk.specs.Files.{contents}
use Rattle.mt_ahead.proofs.read_ahead.read_front.Goals as goal

pub read-requires : goal.read-requires
read-requires g c files is = omega (arith, length-take-le c.args.count c.args.piece.now c.requires.room, c.requires.fits files is)

pub returns-clause-bytes : goal.returns-clause-bytes
returns-clause-bytes g c files is =
    let piece = c.args.piece.now in
    let count = c.args.count in
    let at = c.args.at in
    let size = length-take-le count piece c.requires.room in
    let same : at + length (take count piece) - at ≡ count = omega (arith, size) in
    take_at c.read.new.into (drop count piece) count (c.read.auto.into ∙ size)
    ∙ MatchOption-at_some _ _ _ is c.in_ok-read.ensures.bytes
    ∙ ap (λ (k : ℕ). take k (drop at (contents files c.args.file))) same
