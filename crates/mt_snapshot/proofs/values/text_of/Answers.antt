use Rattle.std.proofs.Common.{rules, ◌≡◌}
use Rattle.std.specs.Prelude.{IsUtf8}
use Rattle.mt_codec.proofs.Utf8.{chosen_text, no_text}
use Rattle.mt_snapshot.proofs.values.text_of.Goals as goal

pub returns-in_ok-from_str-in-Ok : goal.returns-in_ok-from_str-in-Ok
returns-in_ok-from_str-in-Ok c =
    let is : IsUtf8 c.args.piece.now = search rules in
    let same : c.in_ok-from_str-in-Ok.field-0 ≡ c.args.piece.now = search rules in
    rw same (chosen_text c.args.piece.now is)

pub returns-in-Err : goal.returns-in-Err
returns-in-Err c = no_text c.args.piece.now c.in-Err.ensures.cases.0
