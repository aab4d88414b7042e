use Rattle.std.proofs.Common.{◌≡◌, ◌++◌, ◌∷◌, map, take, get_or}
use Rattle.std.specs.List.{flat_map}
use Rattle.mt_split.specs.Partition.{fields_of, field_at}
use Rattle.mt_split.proofs.key.put_fields.Given as goal

abbrev pub invariant-loop-number : goal.invariant-loop-number
invariant-loop-number l =
    let field = field_at (fields_of l.delimiter l.bytes) in
    l.out.items ≡ l.fn.out.items ++ (field (get_or l.fn.numbers 0 0) ++ flat_map (λ p. l.delimiter ∷ p) (map field (take l.number-index l.others)))
