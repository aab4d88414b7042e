-- Each end is said by the words, and its cause follows.
use Rattle.std.proofs.Common.{◌≡◌, map, Some, None, refl, sym, ◌∙◌}
use Rattle.std.specs.Prelude.{string_bytes}
use Rattle.mt_ask.specs.Words.{words_of}
use Rattle.mt_client.specs.Requests.{Sides, sides_of}
use Rattle.mt_client.specs.Runs.{LeavesLink}
use Rattle.mt_client.proofs.Causing.{run_caused}
use Rattle.mt_client.proofs.Whole.{ends_memory, ends_none, ends_some}
use Rattle.mt_client.proofs.top.run.Goals as goal

pub run_words-requires : goal.run_words-requires
run_words-requires g c = (rw c.in-Ok-Some.field-0-is at c.in-Ok-Some.ensures).fine.ask

pub returns-in-Ok-Some : goal.returns-in-Ok-Some
returns-in-Ok-Some g c =
    let words = words_of (map string_bytes c.args.words.now) in
    let left = g.S.Source.left c.args.source.now in
    let faults = g.S.Source.read_faults c.args.source.now in
    let left' = g.S.Source.left c.run_words.new.source in
    let faults' = g.S.Source.read_faults c.run_words.new.source in
    let a : Sides = sides_of g.L.Source.left g.L.Source.read_faults g.L.Sink.got g.L.Sink.write_faults g.K.Sink.got g.K.Sink.write_faults c.args.link.now c.args.sink.now in
    let b : Sides = sides_of g.L.Source.left g.L.Source.read_faults g.L.Sink.got g.L.Sink.write_faults g.K.Sink.got g.K.Sink.write_faults c.run_words.new.link c.run_words.new.sink in
    let is : words ≡ Some c.in-Ok-Some.asked = sym c.in-Ok-Some.ensures.exact ∙ c.in-Ok-Some.field-0-is in
    let ends = ends_some words left faults c.in-Ok-Some.asked a c.run_words.result left' faults' b is c.run_words.ensures.ends in
    record {
      ends = ends;
      early = c.run_words.ensures.early;
      cause = run_caused faults faults' words left left' a c.run_words.result b ends;
      stays = c.run_words.ensures.stays;
      source_stays = c.run_words.ensures.source_stays;
      sink_stays = c.run_words.ensures.sink_stays;
    }

pub returns-in-Ok-None : goal.returns-in-Ok-None
returns-in-Ok-None g c =
    let words = words_of (map string_bytes c.args.words.now) in
    let left = g.S.Source.left c.args.source.now in
    let faults = g.S.Source.read_faults c.args.source.now in
    let a : Sides = sides_of g.L.Source.left g.L.Source.read_faults g.L.Sink.got g.L.Sink.write_faults g.K.Sink.got g.K.Sink.write_faults c.args.link.now c.args.sink.now in
    let b : Sides = sides_of g.L.Source.left g.L.Source.read_faults g.L.Sink.got g.L.Sink.write_faults g.K.Sink.got g.K.Sink.write_faults c.args.link.now c.usage.new.sink in
    let is : words ≡ None = sym c.in-Ok-None.ensures.exact ∙ c.in-Ok-None.field-0-is in
    let same : LeavesLink a b = record { left = refl; reads = refl; sent = refl; writes = refl } in
    let ends = ends_none words left faults a c.usage.result b is c.usage.ensures.usage same in
    record {
      ends = ends;
      early = λ early. refl;
      cause = run_caused faults faults words left left a c.usage.result b ends;
      stays = g.L.Both.same c.args.link.now;
      source_stays = g.met.S.Source.source_same c.args.source.now;
      sink_stays = c.usage.ensures.sink_stays;
    }

pub returns-in-Err : goal.returns-in-Err
returns-in-Err g c =
    let a : Sides = sides_of g.L.Source.left g.L.Source.read_faults g.L.Sink.got g.L.Sink.write_faults g.K.Sink.got g.K.Sink.write_faults c.args.link.now c.args.sink.now in
    record {
      ends = ends_memory (words_of (map string_bytes c.args.words.now)) (g.S.Source.left c.args.source.now) (g.S.Source.read_faults c.args.source.now) a;
      early = λ early. refl;
      cause = tt;
      stays = g.L.Both.same c.args.link.now;
      source_stays = g.met.S.Source.source_same c.args.source.now;
      sink_stays = g.met.K.Sink.sink_same c.args.sink.now;
    }
