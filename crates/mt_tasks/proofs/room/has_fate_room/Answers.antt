use Rattle.std.proofs.Common.{sym, subst}
use Rattle.mt_codec.specs.Spelling.{IsWithinLimits}
use Rattle.mt_types.specs.declared.body.Body.{Body}
use Rattle.mt_types.specs.declared.task.Fate.{Fate}
use Rattle.mt_tasks.specs.Sizes.{commit_of}
use Rattle.mt_tasks.proofs.Fated.{blank_fits}
use Rattle.mt_tasks.proofs.room.has_fate_room.Goals as goal

pub has_room-requires : goal.has_room-requires
has_room-requires c = record {
  limits =
      subst (λ (f : Fate Body). IsWithinLimits (commit_of c.args.task.now c.args.now f)) (sym c.in_ok-blank.ensures)
      (blank_fits c.args.task.now c.args.now c.args.fate.now c.requires.moment c.has_number.ensures c.requires.made c.requires.said);
}
