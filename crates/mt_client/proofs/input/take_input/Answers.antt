use Rattle.std.proofs.Common.{sym, ◌∙◌}
use Rattle.mt_client.proofs.Inputs.{takes_none, takes_read}
use Rattle.mt_client.proofs.input.take_input.Goals as goal

pub returns-then-carries_source-clause-takes : goal.returns-then-carries_source-clause-takes
returns-then-carries_source-clause-takes g c =
    takes_read c.args.ask.now (g.S.Source.left c.args.source.now) (g.S.Source.read_faults c.args.source.now) c.read_input.result (g.S.Source.left c.read_input.new.source) (g.S.Source.read_faults c.read_input.new.source)
    (sym c.carries_source.ensures ∙ c.if-carries_source.true) c.read_input.ensures.read

pub returns-else-carries_source-clause-takes : goal.returns-else-carries_source-clause-takes
returns-else-carries_source-clause-takes g c =
    takes_none c.args.ask.now (g.S.Source.left c.args.source.now) (g.S.Source.read_faults c.args.source.now) c.no_bytes.result
    (sym c.carries_source.ensures ∙ c.if-carries_source.false) c.no_bytes.ensures
