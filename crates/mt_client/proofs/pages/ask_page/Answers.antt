use Rattle.std.proofs.Common.{[], ◌++◌, Some, Ok, Err, arith}
use Rattle.mt_ask.specs.Requests.{request_head}
use Rattle.mt_client.specs.Exchanges.{body_limit}
use Rattle.mt_client.proofs.Asking.{asks_as, no_body, nothing_got, page_asked, page_unjudged}
use Rattle.mt_client.proofs.pages.ask_page.Goals as goal

pub returns-in_default-clause-asks : goal.returns-in_default-clause-asks
returns-in_default-clause-asks g c = (nothing_got (g.L.Sink.got c.args.link.now) (request_head c.args.words.now (Some c.args.ask.now) 0), omega arith, omega arith)

pub returns-in_default-clause-stays : goal.returns-in_default-clause-stays
returns-in_default-clause-stays g c = g.L.Both.same c.args.link.now

pub returns-clause-asks : goal.returns-clause-asks
returns-clause-asks g c =
    let w = c.args.words.now in
    let request = request_head w (Some c.args.ask.now) 0 in
    let old = c.args.link.now in
    let new = c.exchange.new.link in
    let is = no_body c.in-Ok.head c.as_slice-request.result.now request c.as_slice-request.ensures c.in-Ok.ensures.exact in
    asks_as body_limit (c.as_slice-request.result.now ++ []) request (g.L.Source.left old) (g.L.Source.read_faults old) (g.L.Sink.got old) (g.L.Sink.write_faults old) (Err c.in-Err.end)
    (g.L.Source.left new) (g.L.Source.read_faults new) (g.L.Sink.got new) (g.L.Sink.write_faults new) is c.in-Err.ensures.asks

pub returns-in-Ok-judge_page-clause-asks : goal.returns-in-Ok-judge_page-clause-asks
returns-in-Ok-judge_page-clause-asks g c =
    let w = c.args.words.now in
    let request = request_head w (Some c.args.ask.now) 0 in
    let old = c.args.link.now in
    let new = c.exchange.new.link in
    let is = no_body c.in-Ok.head c.as_slice-request.result.now request c.as_slice-request.ensures c.in-Ok.ensures.exact in
    let asks =
    asks_as body_limit (c.as_slice-request.result.now ++ []) request (g.L.Source.left old) (g.L.Source.read_faults old) (g.L.Sink.got old) (g.L.Sink.write_faults old) (Ok c.in-Ok-exchange.reply)
    (g.L.Source.left new) (g.L.Source.read_faults new) (g.L.Sink.got new) (g.L.Sink.write_faults new) is c.in-Ok-exchange.ensures.asks in
    page_asked w c.args.ask.now (g.L.Source.left old) (g.L.Source.read_faults old) (g.L.Sink.got old) (g.L.Sink.write_faults old) (g.L.Source.left new) (g.L.Source.read_faults new) (g.L.Sink.got new) (g.L.Sink.write_faults new)
    c.in-Ok-exchange.reply c.in-Ok-judge_page.page c.as_slice-body.result.now asks c.as_slice-body.ensures c.in-Ok-judge_page.ensures

pub returns-in-Ok-exchange-clause-asks : goal.returns-in-Ok-exchange-clause-asks
returns-in-Ok-exchange-clause-asks g c =
    let w = c.args.words.now in
    let request = request_head w (Some c.args.ask.now) 0 in
    let old = c.args.link.now in
    let new = c.exchange.new.link in
    let is = no_body c.in-Ok.head c.as_slice-request.result.now request c.as_slice-request.ensures c.in-Ok.ensures.exact in
    let asks =
    asks_as body_limit (c.as_slice-request.result.now ++ []) request (g.L.Source.left old) (g.L.Source.read_faults old) (g.L.Sink.got old) (g.L.Sink.write_faults old) (Ok c.in-Ok-exchange.reply)
    (g.L.Source.left new) (g.L.Source.read_faults new) (g.L.Sink.got new) (g.L.Sink.write_faults new) is c.in-Ok-exchange.ensures.asks in
    page_unjudged w c.args.ask.now (g.L.Source.left old) (g.L.Source.read_faults old) (g.L.Sink.got old) (g.L.Sink.write_faults old) (g.L.Source.left new) (g.L.Source.read_faults new) (g.L.Sink.got new) (g.L.Sink.write_faults new)
    c.in-Ok-exchange.reply asks
