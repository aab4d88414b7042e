use Rattle.std.proofs.Common.{◌++◌, ◌∙◌, ap, drop}
use Rattle.mt_gen.specs.Messages.{due_bytes}
use Rattle.mt_gen.specs.declared.due.Due.TheVariants.{Directory}
use Rattle.mt_gen.proofs.Pieces.{all_due}
use Rattle.mt_gen.proofs.source.GenSource.new.Goals as goal

pub returns : goal.returns
returns c = ap (λ t. drop 0 t ++ due_bytes c.args.count (Directory 0)) c.clear.ensures.items ∙ all_due c.args.count
