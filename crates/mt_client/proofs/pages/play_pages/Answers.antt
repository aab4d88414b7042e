-- Each page leads on, or ends the run.
use Rattle.std.proofs.Common.{refl, arith}
use Rattle.mt_script.specs.declared.end.ClientEnd.TheVariants as end
use Rattle.mt_client.specs.Listings.{ListingEnds}
use Rattle.mt_client.specs.Requests.{Sides, sides_of}
use Rattle.mt_client.proofs.Closings.{none_due, some_due}
use Rattle.mt_client.proofs.Listing.{has_ended, has_first, has_more, never_begun}
use Rattle.mt_client.proofs.pages.play_pages.Goals as goal

pub returns-in_default-clause-plays : goal.returns-in_default-clause-plays
returns-in_default-clause-plays g c = never_begun c.args.words.now (sides_of g.L.Source.left g.L.Source.read_faults g.L.Sink.got g.L.Sink.write_faults g.K.Sink.got g.K.Sink.write_faults c.args.link.now c.args.sink.now)

pub returns-in_default-clause-stays : goal.returns-in_default-clause-stays
returns-in_default-clause-stays g c = g.L.Both.same c.args.link.now

pub pages-init : goal.pages-init
pages-init g c = record {
  few = omega arith;
  reached = has_first c.args.words.now (sides_of g.L.Source.left g.L.Source.read_faults g.L.Sink.got g.L.Sink.write_faults g.K.Sink.got g.K.Sink.write_faults c.args.link.now c.args.sink.now) c.in-Ok.levels.items c.in-Ok.ensures;
  stays = g.L.Both.same c.args.link.now;
  sink_stays = g.met.K.Sink.sink_same c.args.sink.now;
}

pub pages-preserved : goal.pages-preserved
pages-preserved g c =
    let i = c.pages.invariant in
    let a : Sides = sides_of g.L.Source.left g.L.Source.read_faults g.L.Sink.got g.L.Sink.write_faults g.K.Sink.got g.K.Sink.write_faults c.args.link.now c.args.sink.now in
    let b : Sides = sides_of g.L.Source.left g.L.Source.read_faults g.L.Sink.got g.L.Sink.write_faults g.K.Sink.got g.K.Sink.write_faults c.pages.link c.pages.sink in
    let later : Sides = sides_of g.L.Source.left g.L.Source.read_faults g.L.Sink.got g.L.Sink.write_faults g.K.Sink.got g.K.Sink.write_faults c.next_page.new.link c.next_page.new.sink in
    record {
      few = omega (arith, c.pages-test.true);
      reached = has_more c.args.words.now a c.pages.levels.items c.pages.requests b c.next_page.new.levels.items later i.reached c.in-Ok-next_page.ensures.goes;
      stays = g.L.Both.joined _ _ _ i.stays c.in-Ok-next_page.ensures.stays;
      sink_stays = g.met.K.Sink.sink_joined _ _ _ i.sink_stays c.in-Ok-next_page.ensures.sink_stays;
    }

pub returns-in-Err-clause-plays : goal.returns-in-Err-clause-plays
returns-in-Err-clause-plays g c =
    let a : Sides = sides_of g.L.Source.left g.L.Source.read_faults g.L.Sink.got g.L.Sink.write_faults g.K.Sink.got g.K.Sink.write_faults c.args.link.now c.args.sink.now in
    let b : Sides = sides_of g.L.Source.left g.L.Source.read_faults g.L.Sink.got g.L.Sink.write_faults g.K.Sink.got g.K.Sink.write_faults c.pages.link c.pages.sink in
    let later : Sides = sides_of g.L.Source.left g.L.Source.read_faults g.L.Sink.got g.L.Sink.write_faults g.K.Sink.got g.K.Sink.write_faults c.next_page.new.link c.next_page.new.sink in
    has_ended c.args.words.now a c.pages.levels.items c.pages.requests b c.in-Err.end later c.pages.invariant.reached (ListingEnds.AtPage c.pages-test.true c.in-Err.ensures.goes)

pub returns-in-Err-clause-stays : goal.returns-in-Err-clause-stays
returns-in-Err-clause-stays g c = g.L.Both.joined _ _ _ c.pages.invariant.stays c.in-Err.ensures.stays

pub returns-in-Some-clause-plays : goal.returns-in-Some-clause-plays
returns-in-Some-clause-plays g c =
    let a : Sides = sides_of g.L.Source.left g.L.Source.read_faults g.L.Sink.got g.L.Sink.write_faults g.K.Sink.got g.K.Sink.write_faults c.args.link.now c.args.sink.now in
    let b : Sides = sides_of g.L.Source.left g.L.Source.read_faults g.L.Sink.got g.L.Sink.write_faults g.K.Sink.got g.K.Sink.write_faults c.pages.link c.pages.sink in
    has_ended c.args.words.now a c.pages.levels.items c.pages.requests b end.TooManyRequests b c.pages.invariant.reached
    (ListingEnds.TooMany (omega (arith, c.pages-test.false, c.pages.invariant.few)) (some_due c.pages.levels.items _ c.in-Some.ensures) refl refl)

pub returns-clause-plays : goal.returns-clause-plays
returns-clause-plays g c =
    let a : Sides = sides_of g.L.Source.left g.L.Source.read_faults g.L.Sink.got g.L.Sink.write_faults g.K.Sink.got g.K.Sink.write_faults c.args.link.now c.args.sink.now in
    let b : Sides = sides_of g.L.Source.left g.L.Source.read_faults g.L.Sink.got g.L.Sink.write_faults g.K.Sink.got g.K.Sink.write_faults c.pages.link c.pages.sink in
    has_ended c.args.words.now a c.pages.levels.items c.pages.requests b end.Done b c.pages.invariant.reached
    (ListingEnds.JustDone (omega (arith, c.pages-test.false, c.pages.invariant.few)) (none_due c.pages.levels.items c.in-None.ensures) refl refl)
