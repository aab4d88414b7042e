use Rattle.std.proofs.Common.{◌++◌, refl}
use Rattle.mt_client.specs.Exchanges.{answered, body_limit}
use Rattle.mt_client.specs.Once.{judged_once}
use Rattle.mt_client.specs.Requests.{Heard, Sides, sides_of}
use Rattle.mt_client.proofs.Closings.{asks_fail, once_ends}
use Rattle.mt_client.proofs.once.ask_once.Goals as goal

pub returns-in-Ok-clause-plays : goal.returns-in-Ok-clause-plays
returns-in-Ok-clause-plays g c =
    let request = c.args.head.now ++ c.args.input.now in
    let a : Sides = sides_of g.L.Source.left g.L.Source.read_faults g.L.Sink.got g.L.Sink.write_faults g.K.Sink.got g.K.Sink.write_faults c.args.link.now c.args.sink.now in
    let b : Sides = sides_of g.L.Source.left g.L.Source.read_faults g.L.Sink.got g.L.Sink.write_faults g.K.Sink.got g.K.Sink.write_faults c.exchange.new.link c.finish.new.sink in
    let asks = c.in-Ok.ensures.asks in
    let reply = answered c.in-Ok.reply in
    let heard : Heard body_limit request a reply b = record { used = asks.0.0; gone = asks.0.1; spelled = asks.0.2; sent = asks.1 } in
    once_ends body_limit request c.args.words.now a b reply c.as_slice.result.now c.finish.result heard c.as_slice.ensures c.finish.ensures.finishes

pub returns-in-Err-clause-plays : goal.returns-in-Err-clause-plays
returns-in-Err-clause-plays g c =
    let request = c.args.head.now ++ c.args.input.now in
    let a : Sides = sides_of g.L.Source.left g.L.Source.read_faults g.L.Sink.got g.L.Sink.write_faults g.K.Sink.got g.K.Sink.write_faults c.args.link.now c.args.sink.now in
    let b : Sides = sides_of g.L.Source.left g.L.Source.read_faults g.L.Sink.got g.L.Sink.write_faults g.K.Sink.got g.K.Sink.write_faults c.exchange.new.link c.args.sink.now in
    asks_fail body_limit request (judged_once c.args.words.now) a b c.in-Err.end c.in-Err.ensures.asks refl
