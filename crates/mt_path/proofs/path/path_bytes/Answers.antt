use Rattle.std.proofs.Common.{◌≡◌, map, ap, ◌∙◌, arith}
use Rattle.std.proofs.lemmas.Grind.{common_steps}
use Rattle.mt_path.specs.AccountPath.{path_text, slashed}
use Rattle.mt_path.specs.Keys.{parts_of, shown_byte}
use Rattle.mt_path.proofs.Keys.{shown-key}
use Rattle.mt_path.proofs.path.path_bytes.Goals as goal

pub returns : goal.returns
unfolding path_text
returns c =
    let shown : map shown_byte c.args.key.now ≡ slashed (parts_of c.args.key.now) = ap (map shown_byte) c.requires.whole ∙ shown-key (parts_of c.args.key.now) c.requires.clear in
    grind (arith, common_steps, shown)
