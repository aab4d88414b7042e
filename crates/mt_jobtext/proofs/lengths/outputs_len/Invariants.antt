use Rattle.std.proofs.Common.{◌≡◌, length, take}
use Rattle.std.specs.List.{flat_map}
use Rattle.mt_jobtext.specs.Pieces.{output_lines}
use Rattle.mt_jobtext.proofs.lengths.outputs_len.Given as goal

abbrev pub invariant-loop-entry : goal.invariant-loop-entry
invariant-loop-entry g l = l.len ≡ length (flat_map (output_lines l.login l.phases) (take l.entry-index l.trace))
