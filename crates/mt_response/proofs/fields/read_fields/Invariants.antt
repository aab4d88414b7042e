use Rattle.std.proofs.Common.{◌≡◌, map, take}
use Rattle.mt_http.specs.Reading.{field_at}
use Rattle.mt_response.proofs.fields.read_fields.Given as goal

-- the fields so far are those of the first spans
abbrev pub invariant-loop-span : goal.invariant-loop-span
invariant-loop-span l = l.fields.items ≡ map (field_at l.head) (take l.span-index l.spans)
