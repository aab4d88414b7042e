use Rattle.std.proofs.Common.{◌≡◌, take}
use Rattle.mt_request.specs.Kind.{bare}
use Rattle.mt_request.proofs.kind.bare.Given as goal

abbrev pub invariant-loop-byte : goal.invariant-loop-byte
invariant-loop-byte l = l.out.items ≡ bare (take l.byte-index l.value)
