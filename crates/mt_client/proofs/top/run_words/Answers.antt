use Rattle.std.proofs.Common.{sym, ◌∙◌, refl}
use Rattle.mt_client.specs.Requests.{Sides, sides_of}
use Rattle.mt_client.proofs.Causing.{plays_grounded}
use Rattle.mt_client.proofs.Choices.{false_true}
use Rattle.mt_client.proofs.Whole.{words_played, words_unread}
use Rattle.mt_client.proofs.top.run_words.Goals as goal

pub returns-in-Ok-clause-ends : goal.returns-in-Ok-clause-ends
returns-in-Ok-clause-ends g c =
    let a : Sides = sides_of g.L.Source.left g.L.Source.read_faults g.L.Sink.got g.L.Sink.write_faults g.K.Sink.got g.K.Sink.write_faults c.args.link.now c.args.sink.now in
    let b : Sides = sides_of g.L.Source.left g.L.Source.read_faults g.L.Sink.got g.L.Sink.write_faults g.K.Sink.got g.K.Sink.write_faults c.play.new.link c.play.new.sink in
    words_played c.args.words.now (g.S.Source.left c.args.source.now) (g.S.Source.read_faults c.args.source.now) (g.S.Source.left c.take_input.new.source) (g.S.Source.read_faults c.take_input.new.source)
    c.in-Ok.input c.as_slice.result.now a c.play.result b c.in-Ok.ensures.takes c.as_slice.ensures c.play.ensures.plays

pub returns-in-Ok-clause-early : goal.returns-in-Ok-clause-early
returns-in-Ok-clause-early g c = λ early.
    let a : Sides = sides_of g.L.Source.left g.L.Source.read_faults g.L.Sink.got g.L.Sink.write_faults g.K.Sink.got g.K.Sink.write_faults c.args.link.now c.args.sink.now in
    let b : Sides = sides_of g.L.Source.left g.L.Source.read_faults g.L.Sink.got g.L.Sink.write_faults g.K.Sink.got g.K.Sink.write_faults c.play.new.link c.play.new.sink in
    absurd (false_true (sym (plays_grounded 0 0 c.args.words.now c.as_slice.result.now a c.play.result b c.play.ensures.plays).late ∙ early))

pub returns-in-Err-clause-ends : goal.returns-in-Err-clause-ends
returns-in-Err-clause-ends g c =
    words_unread c.args.words.now (g.S.Source.left c.args.source.now) (g.S.Source.read_faults c.args.source.now) (g.S.Source.left c.take_input.new.source) (g.S.Source.read_faults c.take_input.new.source)
    c.in-Err.end (sides_of g.L.Source.left g.L.Source.read_faults g.L.Sink.got g.L.Sink.write_faults g.K.Sink.got g.K.Sink.write_faults c.args.link.now c.args.sink.now) c.in-Err.ensures.takes

pub returns-in-Err-clause-early : goal.returns-in-Err-clause-early
returns-in-Err-clause-early g c = λ early. refl

pub returns-in-Err-clause-stays : goal.returns-in-Err-clause-stays
returns-in-Err-clause-stays g c = g.L.Both.same c.args.link.now
