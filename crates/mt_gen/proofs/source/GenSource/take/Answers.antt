use Rattle.std.proofs.Common.{◌≡◌, ◌∙◌, ◌++◌, ◌≤◌, ap, append_assoc, arith, drop, length, take}
use Rattle.mt_gen.specs.Messages.{due_bytes}
use Rattle.mt_gen.proofs.Pieces.{took}
use Rattle.mt_gen.proofs.source.GenSource.take.Goals as goal

pub returns-clause-left : goal.returns-clause-left
returns-clause-left c =
    let rest = due_bytes c.args.self.now.count c.args.self.now.due in
    let within : c.min-count.result ≤ length (drop c.args.self.now.at c.args.self.now.text.items) = omega (arith, c.min-count.ensures, ap length c.kept-rest.ensures) in
    let copied : c.copy_from_slice.new.self ≡ take c.min-count.result (drop c.args.self.now.at c.args.self.now.text.items) = rw c.kept-rest.ensures at c.copy_from_slice.ensures.after in
    ap (λ l. l ++ rest) (took c.args.self.now.text.items c.copy_from_slice.new.self c.args.into.now c.args.self.now.at c.min-count.result within copied)
    ∙ append_assoc _ _ rest
