use Rattle.std.proofs.Common.{◌≡◌, ◌++◌, map, take}
use Rattle.std.specs.List.{flat_map}
use Rattle.mt_codec.specs.Fields.{body_spelling}
use Rattle.mt_snapshot.specs.Values.{moved}
use Rattle.mt_snapshot.proofs.lists.put_bodies.Given as goal

abbrev pub invariant-loop-body : goal.invariant-loop-body
invariant-loop-body g l = l.out.items ≡ l.fn.out.items ++ flat_map body_spelling (map (moved (g.M.Moves.place l.moves)) (take l.body-index l.bodies))
