use Rattle.std.proofs.Common.{Some, ap, ◌∙◌}
use Rattle.mt_ask.specs.declared.ask.PageAsk.{PageAsk}
use Rattle.mt_client.proofs.Closings.{due_first, due_none}
use Rattle.mt_client.proofs.pages.page_due.Goals as goal

pub returns-in-Some : goal.returns-in-Some
returns-in-Some c = ap (λ (a : PageAsk). Some a) c.ask.ensures ∙ due_first c.args.levels.now.items c.in-Some.level.now c.in-Some.ensures.item.3.0 c.in-Some.ensures.item.1

pub returns-in-None : goal.returns-in-None
returns-in-None c = due_none c.args.levels.now.items c.in-None.ensures.item.3
