use Rattle.std.proofs.Common.{rules, ◌≡◌, true}
use Rattle.mt_types.specs.Limits.{is_content_type}
use Rattle.mt_codec.proofs.Utf8.{utf8-content_type}
use Rattle.mt_codec.proofs.pieces.content_type.Goals as goal

pub known_text-requires : goal.known_text-requires
known_text-requires c =
    let is : is_content_type c.in_ok-piece.piece.now ≡ true = search rules in
    utf8-content_type c.in_ok-piece.piece.now is
