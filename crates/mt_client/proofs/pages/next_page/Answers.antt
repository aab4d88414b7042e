use Rattle.std.proofs.Common.{refl}
use Rattle.mt_client.specs.Listings.{PageEnds}
use Rattle.mt_client.specs.Requests.{Sides, sides_of}
use Rattle.mt_client.proofs.Closings.{due_fails, due_turns, none_due}
use Rattle.mt_client.proofs.pages.next_page.Goals as goal

pub returns-in-Ok-clause-goes : goal.returns-in-Ok-clause-goes
returns-in-Ok-clause-goes g c =
    let a : Sides = sides_of g.L.Source.left g.L.Source.read_faults g.L.Sink.got g.L.Sink.write_faults g.K.Sink.got g.K.Sink.write_faults c.args.link.now c.args.sink.now in
    let b : Sides = sides_of g.L.Source.left g.L.Source.read_faults g.L.Sink.got g.L.Sink.write_faults g.K.Sink.got g.K.Sink.write_faults c.ask_page.new.link c.show.new.sink in
    due_turns c.args.words.now c.args.levels.now.items c.in-Some.ask.now a b c.in-Ok.page c.show.result c.show.new.levels.items c.in-Some.ensures c.in-Ok.ensures.asks c.show.ensures.shows

pub returns-in-Err-clause-goes : goal.returns-in-Err-clause-goes
returns-in-Err-clause-goes g c =
    let a : Sides = sides_of g.L.Source.left g.L.Source.read_faults g.L.Sink.got g.L.Sink.write_faults g.K.Sink.got g.K.Sink.write_faults c.args.link.now c.args.sink.now in
    let b : Sides = sides_of g.L.Source.left g.L.Source.read_faults g.L.Sink.got g.L.Sink.write_faults g.K.Sink.got g.K.Sink.write_faults c.ask_page.new.link c.args.sink.now in
    due_fails c.args.words.now c.args.levels.now.items c.in-Some.ask.now a b c.in-Err.end c.in-Some.ensures c.in-Err.ensures.asks refl

pub returns-in-None-clause-goes : goal.returns-in-None-clause-goes
returns-in-None-clause-goes g c = PageEnds.AllShown (none_due c.args.levels.now.items c.in-None.ensures) refl refl

pub returns-in-None-clause-stays : goal.returns-in-None-clause-stays
returns-in-None-clause-stays g c = g.L.Both.same c.args.link.now
