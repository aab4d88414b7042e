use Rattle.mt_client.proofs.Getting.{rest_fails, rest_whole}
use Rattle.mt_client.proofs.once.read_rest.Goals as goal

pub returns-in-Ok-clause-rest : goal.returns-in-Ok-clause-rest
returns-in-Ok-clause-rest g c =
    rest_whole c.args.words.now c.args.lead.now _ _ _ _ c.finish.result _ _ _ _ c.in-Ok.body c.as_slice.result.now c.in-Ok.ensures.read c.as_slice.ensures c.finish.ensures.finishes

pub returns-in-Err-clause-rest : goal.returns-in-Err-clause-rest
returns-in-Err-clause-rest g c =
    rest_fails c.args.words.now c.args.lead.now (g.L.Source.left c.args.link.now) (g.L.Source.read_faults c.args.link.now) (g.K.Sink.got c.args.sink.now) (g.K.Sink.write_faults c.args.sink.now) c.in-Err.end c.link_end.result _ _ c.link_end.ensures
    c.in-Err.ensures.read
