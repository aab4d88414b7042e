use Rattle.std.proofs.Common.{rules, ◌≡◌, true}
use Rattle.mt_types.specs.Limits.{is_metadata_name}
use Rattle.mt_codec.proofs.Utf8.{utf8-metadata_name}
use Rattle.mt_codec.proofs.pieces.metadata_name.Goals as goal

pub known_text-requires : goal.known_text-requires
known_text-requires c =
    let is : is_metadata_name c.in_ok-piece.piece.now ≡ true = search rules in
    utf8-metadata_name c.in_ok-piece.piece.now is
