use Rattle.std.proofs.Common.{◌≡◌, ◌++◌, map, take}
use Rattle.mt_snapshot.specs.Records.{assets_spelling}
use Rattle.mt_snapshot.specs.Values.{moved}
use Rattle.mt_snapshot.proofs.lists.put_assets.Given as goal

abbrev pub invariant-loop-bodies : goal.invariant-loop-bodies
invariant-loop-bodies g l = l.out.items ≡ l.fn.out.items ++ assets_spelling (map (map (moved (g.M.Moves.place l.moves))) (take l.bodies-index l.assets))
