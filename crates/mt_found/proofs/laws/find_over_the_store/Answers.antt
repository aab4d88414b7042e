use Rattle.mt_found.proofs.OverStore.{ends_over_the_store, front_over_the_store, over_the_store}
use Rattle.mt_found.proofs.laws.find_over_the_store.Goals as goal

pub returns-clause-lists : goal.returns-clause-lists
returns-clause-lists c = over_the_store c.asks_are_understood.ensures.read c.asks_are_understood.ensures.asked

pub returns-clause-front : goal.returns-clause-front
returns-clause-front c = front_over_the_store c.asks_are_understood.ensures.read c.asks_are_understood.ensures.asked

pub returns-clause-ends : goal.returns-clause-ends
returns-clause-ends c = ends_over_the_store c.asks_are_understood.ensures.read c.asks_are_understood.ensures.asked
