use Rattle.std.proofs.Common.{◌++◌, sym, ◌∙◌, arith}
use Rattle.mt_client.specs.Requests.{Sides, sides_of}
use Rattle.mt_client.proofs.Single.{by_ask, by_get, by_memory, once_request}
use Rattle.mt_client.proofs.once.play_once.Goals as goal

pub returns-in_default-clause-plays : goal.returns-in_default-clause-plays
returns-in_default-clause-plays g c = by_memory c.args.words.now c.args.input.now (sides_of g.L.Source.left g.L.Source.read_faults g.L.Sink.got g.L.Sink.write_faults g.K.Sink.got g.K.Sink.write_faults c.args.link.now c.args.sink.now)

pub returns-in_default-clause-stays : goal.returns-in_default-clause-stays
returns-in_default-clause-stays g c = g.L.Both.same c.args.link.now

pub returns-then-is_copy-clause-plays : goal.returns-then-is_copy-clause-plays
returns-then-is_copy-clause-plays g c =
    let w = c.args.words.now in
    let input = c.args.input.now in
    let a : Sides = sides_of g.L.Source.left g.L.Source.read_faults g.L.Sink.got g.L.Sink.write_faults g.K.Sink.got g.K.Sink.write_faults c.args.link.now c.args.sink.now in
    let b : Sides = sides_of g.L.Source.left g.L.Source.read_faults g.L.Sink.got g.L.Sink.write_faults g.K.Sink.got g.K.Sink.write_faults c.get.new.link c.get.new.sink in
    by_get w input (c.as_slice-request.result.now ++ input) a c.get.result b (once_request w input _ _ _ c.as_slice-request.ensures c.in-Ok.ensures.exact (omega arith)) (sym c.is_copy.ensures ∙ c.if-is_copy.true) c.get.ensures.plays

pub returns-clause-plays : goal.returns-clause-plays
returns-clause-plays g c =
    let w = c.args.words.now in
    let input = c.args.input.now in
    let a : Sides = sides_of g.L.Source.left g.L.Source.read_faults g.L.Sink.got g.L.Sink.write_faults g.K.Sink.got g.K.Sink.write_faults c.args.link.now c.args.sink.now in
    let b : Sides = sides_of g.L.Source.left g.L.Source.read_faults g.L.Sink.got g.L.Sink.write_faults g.K.Sink.got g.K.Sink.write_faults c.ask_once.new.link c.ask_once.new.sink in
    by_ask w input (c.as_slice-request.result.now ++ input) a c.ask_once.result b (once_request w input _ _ _ c.as_slice-request.ensures c.in-Ok.ensures.exact (omega arith)) (sym c.is_copy.ensures ∙ c.if-is_copy.false) c.ask_once.ensures.plays
