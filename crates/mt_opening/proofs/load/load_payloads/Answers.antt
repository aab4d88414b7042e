-- The payloads of the log, one behind the other.
use Rattle.std.proofs.Common.{ap, sym, ◌∙◌, arith}
use Rattle.mt_disk.proofs.Readings.{reads_none}
use Rattle.mt_log.specs.LogState.{told}
use Rattle.mt_log.proofs.Standing.{tells_log}
use Rattle.mt_opening.proofs.Looks.{there_on}
use Rattle.mt_opening.proofs.Loading.{all_loaded, first_loading, record_here}
use Rattle.mt_opening.proofs.load.load_payloads.Goals as goal

pub payloads-init : goal.payloads-init
payloads-init g c = record {
  so_far = λ ps is. first_loading ps c.first-place.result c.in_ok-account.account c.new-places.result.earlier.items c.new-places.result.last c.first-place.ensures.place c.in_ok-account.ensures c.new-places.ensures;
  read = reads_none g.D.Disk.seen g.D.Disk.may_leave g.D.Disk.moment g.D.Disk.left_since c.args.disk.now;
  faults = omega arith;
  stays = g.met.D.Disk.same _;
}

pub load_one-requires-clause-ready : goal.load_one-requires-clause-ready
load_one-requires-clause-ready g c =
    let i = c.payloads.invariant in
    let seen = g.D.Disk.seen in
    record {
      there = there_on seen c.args.disk.now c.payloads.disk c.args.log.now i.read.seen_same c.requires.ready.there;
      is_open = c.requires.ready.is_open;
      place = λ ps is.
          let was = sym (ap told i.read.seen_same) ∙ is in
          let log = tells_log seen c.args.disk.now c.args.log.now c.requires.ready.there c.requires.ready.is_open ps was in
          record_here ps c.payloads.place c.payloads.account c.payloads.places.earlier.items c.payloads.places.last (i.so_far ps was) _ _ _ log.holds (omega (arith, c.payloads-test.true, c.len-gate.ensures));
    }

pub returns-clause-loaded : goal.returns-clause-loaded
returns-clause-loaded g c ps is =
    let i = c.payloads.invariant in
    let log = tells_log g.D.Disk.seen c.args.disk.now c.args.log.now c.requires.ready.there c.requires.ready.is_open ps is in
    all_loaded ps c.payloads.place c.payloads.account c.payloads.places.earlier.items c.payloads.places.last (i.so_far ps is) _ _ _ log.holds (omega (arith, c.payloads-test.false, c.len-gate.ensures))
