use Rattle.std.proofs.Common.{sym, ◌∙◌}
use Rattle.mt_client.specs.Requests.{Sides, sides_of}
use Rattle.mt_client.proofs.Whole.{plays_once, plays_pages}
use Rattle.mt_client.proofs.top.play.Goals as goal

pub returns-then-is_listing-clause-plays : goal.returns-then-is_listing-clause-plays
returns-then-is_listing-clause-plays g c =
    let a : Sides = sides_of g.L.Source.left g.L.Source.read_faults g.L.Sink.got g.L.Sink.write_faults g.K.Sink.got g.K.Sink.write_faults c.args.link.now c.args.sink.now in
    let b : Sides = sides_of g.L.Source.left g.L.Source.read_faults g.L.Sink.got g.L.Sink.write_faults g.K.Sink.got g.K.Sink.write_faults c.play_pages.new.link c.play_pages.new.sink in
    plays_pages c.args.words.now c.args.input.now a c.play_pages.result b (sym c.is_listing.ensures ∙ c.if-is_listing.true) c.play_pages.ensures.plays

pub returns-else-is_listing-clause-plays : goal.returns-else-is_listing-clause-plays
returns-else-is_listing-clause-plays g c =
    let a : Sides = sides_of g.L.Source.left g.L.Source.read_faults g.L.Sink.got g.L.Sink.write_faults g.K.Sink.got g.K.Sink.write_faults c.args.link.now c.args.sink.now in
    let b : Sides = sides_of g.L.Source.left g.L.Source.read_faults g.L.Sink.got g.L.Sink.write_faults g.K.Sink.got g.K.Sink.write_faults c.play_once.new.link c.play_once.new.sink in
    plays_once c.args.words.now c.args.input.now a c.play_once.result b (sym c.is_listing.ensures ∙ c.if-is_listing.false) c.play_once.ensures.plays
