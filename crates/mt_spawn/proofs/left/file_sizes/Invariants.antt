-- The sizes so far are those of the front of the files.
use Rattle.std.proofs.Common.{◌≡◌, map, take}
use Rattle.mt_spawn.specs.Orders.{size_of}
use Rattle.mt_spawn.proofs.left.file_sizes.Given as goal

abbrev pub invariant-loop-file : goal.invariant-loop-file
invariant-loop-file l = l.sizes.items ≡ map size_of (take l.file-index l.files)
