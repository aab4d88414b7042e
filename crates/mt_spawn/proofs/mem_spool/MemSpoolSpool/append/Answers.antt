use Rattle.std.proofs.Common.{ap, take, ◌∙◌, arith}
use Rattle.mt_spawn.specs.Spools.{with_bytes}
use Rattle.mt_spawn.specs.SpoolMemory.{files_of}
use Rattle.mt_spawn.proofs.SpoolBytes.{added_front, added_nothing}
use Rattle.mt_spawn.proofs.mem_spool.MemSpoolSpool.append.Goals as goal

pub returns-then-begin : goal.returns-then-begin
returns-then-begin c = (added_nothing c.args.number c.args.piece.now _ _ c.requires.piece (ap files_of (c.fault.ensures.files ∙ c.begin.ensures.files)), omega (arith, c.fault.ensures.faults, c.begin.ensures.faults))

pub returns-in-false : goal.returns-in-false
returns-in-false c = (
  added_nothing c.args.number c.args.piece.now _ _ c.requires.piece (ap files_of c.fault-in-false.ensures.files ∙ (c.add_at.ensures.not c.in-false.is ∙ ap files_of c.begin.ensures.files)),
  omega (arith, c.fault-in-false.ensures.faults, c.add_at.ensures.faults, c.begin.ensures.faults),
)

pub returns-in-true-add_at : goal.returns-in-true-add_at
returns-in-true-add_at c =
    let left = c.room_left-left.result in (
      added_front c.args.number left c.args.piece.now _ _ (omega (arith, c.if-piece-left.false))
          (ap files_of c.fault-in-true-add_at.ensures.files ∙ (c.add_at-2.ensures.added c.in-true-add_at.is ∙ ap (λ fs. with_bytes c.args.number (take left c.args.piece.now) (files_of fs)) c.begin.ensures.files)),
      omega (arith, c.fault-in-true-add_at.ensures.faults, c.add_at-2.ensures.faults, c.begin.ensures.faults),
    )

pub returns-in-false-add_at : goal.returns-in-false-add_at
returns-in-false-add_at c = (
  added_nothing c.args.number c.args.piece.now _ _ c.requires.piece (ap files_of c.fault-in-false-add_at.ensures.files ∙ (c.add_at-2.ensures.not c.in-false-add_at.is ∙ ap files_of c.begin.ensures.files)),
  omega (arith, c.fault-in-false-add_at.ensures.faults, c.add_at-2.ensures.faults, c.begin.ensures.faults),
)
