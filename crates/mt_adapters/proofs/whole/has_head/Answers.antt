use Rattle.std.proofs.Common.{sym, ◌∙◌}
use Rattle.mt_adapters.proofs.Heads.{found}
use Rattle.mt_adapters.proofs.whole.has_head.Goals as goal

pub returns-clause-yes : goal.returns-clause-yes
returns-clause-yes c there = found c.args.bytes.now c.head_len.result c.head_len.ensures (sym c.is_some.ensures ∙ there)
