use Rattle.std.proofs.Common.{ap, ◌∙◌, ◌==◌, List}
use Rattle.std.specs.List.{list_any}
use Rattle.mt_spawn.proofs.Seen.{has_ticket}
use Rattle.mt_spawn.specs.declared.children.MemChild.{MemChild}
use Rattle.mt_spawn.proofs.children.Children.has.Goals as goal

pub returns : goal.returns
returns c = c.has_ticket.ensures ∙ (ap (λ (cs : List MemChild). list_any (λ x. c.args.ticket == x.ticket) cs) c.as_slice.ensures.value ∙ has_ticket c.args.ticket c.args.self.now.items.items)
