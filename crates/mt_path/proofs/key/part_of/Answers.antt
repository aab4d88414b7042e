use Rattle.std.proofs.Common.{[], drop, get_or, ap, ◌∙◌, arith}
use Rattle.std.proofs.lemmas.List.{get_or-drop}
use Rattle.mt_path.specs.Keys.{parts_of}
use Rattle.mt_path.proofs.Keys.{clear-drop, parts-from_key}
use Rattle.mt_path.proofs.key.part_of.Goals as goal

pub returns : goal.returns
returns c =
    c.first_part.ensures
    ∙ ap (λ ps. get_or ps 0 []) (parts-from_key c.after.result.now (drop c.args.k (parts_of c.args.key.now)) (clear-drop c.args.k (parts_of c.args.key.now) c.requires.clear) c.after.ensures.value)
    ∙ get_or-drop c.args.k (parts_of c.args.key.now) 0 []
    ∙ ap (λ n. get_or (parts_of c.args.key.now) n []) (omega arith)
