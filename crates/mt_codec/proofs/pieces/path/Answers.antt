use Rattle.std.proofs.Common.{rules, ◌≡◌, true}
use Rattle.mt_path.specs.AccountPath.{AccountPath}
use Rattle.mt_path.specs.Keys.{path_at}
use Rattle.mt_codec.specs.Readers.{is_short}
use Rattle.mt_codec.proofs.Paths.{IsPath-from_read}
use Rattle.mt_codec.proofs.pieces.path.Goals as goal

pub from_key-requires-clause-path : goal.from_key-requires-clause-path
from_key-requires-clause-path c =
    let p : AccountPath = path_at c.in_ok-area.area c.in_ok-key.key.items in
    let short : is_short p ≡ true = search rules in
    IsPath-from_read p c.in_ok-n.n c.part_count.new.cursor c.key_of.new.cursor c.in_ok-key.ensures.parts short
