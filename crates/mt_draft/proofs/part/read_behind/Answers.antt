use Rattle.std.proofs.Common.{ℕ, arith, length-drop, length-take}
use Rattle.std.proofs.lemmas.Option.{MatchOption-at_some}
use Rattle.mt_disk.specs.Files.{contents}
use Rattle.mt_draft.proofs.Copied.{put_read}
use Rattle.mt_draft.proofs.part.read_behind.Goals as goal

pub read-requires : goal.read-requires
read-requires g c files is = omega (arith, length-take {A = ℕ}, length-drop {A = ℕ}, c.requires.within files is)

pub returns-clause-bytes : goal.returns-clause-bytes
returns-clause-bytes g c files is =
    put_read c.args.bytes.now c.read.new.into (contents files c.args.file) c.args.held c.args.more c.args.at c.requires.room (c.requires.within files is)
    (MatchOption-at_some _ _ _ is c.in_ok-read.ensures.bytes)
