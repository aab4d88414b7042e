use Rattle.std.proofs.Common.{◌↔◌, ℕ, Bool, false, IfOk, IsTrue, sym, subst}
use Rattle.mt_engine.specs.Accepting.{HasRoomFor}
use Rattle.mt_types.specs.declared.command.Command.TheVariants.{Close}
use Rattle.mt_tasks.specs.Sizes.{no_archive}
use Rattle.mt_tasks.proofs.room.has_archive_room.Goals as goal

pub returns : goal.returns
returns c = subst (λ (n : ℕ). IfOk c.has_room.result (λ b. IsTrue b ↔ HasRoomFor c.args.engine.now n (Close c.args.job false no_archive c.args.now))) c.in_ok-pieces.ensures c.has_room.ensures
