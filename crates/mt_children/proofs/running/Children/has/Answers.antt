use Rattle.std.proofs.Common.{ap, ◌∙◌, ◌==◌, List}
use Rattle.std.specs.List.{list_any}
use Rattle.mt_children.proofs.Live.{Live, has_ticket}
use Rattle.mt_children.proofs.running.Children.has.Goals as goal

pub returns : goal.returns
returns c = c.has_ticket.ensures ∙ (ap (λ (cs : List Live). list_any (λ x. c.args.ticket == x.ticket) cs) c.as_slice.ensures.value ∙ has_ticket c.args.ticket c.args.self.now.items.items)
