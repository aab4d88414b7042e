use Rattle.std.proofs.Common.{arith, ℕ, List, ap, ◌∙◌}
use Rattle.std.specs.Int.{w32, from_be_bytes}
use Rattle.std.proofs.lemmas.Nat.{be_bytes_4}
use Rattle.mt_log.proofs.scan.length_of.Goals as goal

pub returns : goal.returns
returns c = be_bytes_4 c.args.bytes.now c.from_be_bytes.result c.requires (λ k. omega (arith, c.type_inv.bytes k)) (c.from_be_bytes.ensures ∙ ap (λ (l : List ℕ). from_be_bytes w32 l) c.copy_from_slice.ensures.after)
