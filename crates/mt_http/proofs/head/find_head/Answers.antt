use Rattle.std.proofs.Common.{arith, length-take, ℕ}
use Rattle.mt_http.proofs.ReadHead.{read_on, head_ended, head_too_long}
use Rattle.mt_http.proofs.head.find_head.Goals as goal

pub pieces-preserved : goal.pieces-preserved
pieces-preserved g c =
    let l = c.pieces.invariant in
    let took = c.in-Took.ensures.reads in
    let taken = c.in-More.ensures in
    record {
      so_far = read_on _ l.so_far.0 c.pieces.head.items _ _ _ taken.0 c.take_piece.new.head.items c.pieces.taken c.in-Took.count l.so_far.1 l.so_far.2 took.2 (omega (arith, took.1, length-take {A = ℕ})) taken.1;
      front = taken.2;
      stays = g.met.S.Source.source_joined _ _ _ l.stays c.in-Took.ensures.stays;
      faults = omega (arith, l.faults, took.3);
      within = omega (arith, l.within, took.1, c.pieces-test.true, c.min-room.ensures, length-take {A = ℕ});
    }

pub returns-in-End-clause-read : goal.returns-in-End-clause-read
returns-in-End-clause-read g c =
    let l = c.pieces.invariant in
    let ended = c.in-End.ensures.reads in
    head_ended _ _ l.so_far.0 c.pieces.head.items c.ended.result _ _ l.so_far.1 (omega (arith, l.so_far.2, l.within)) l.front ended.0 (omega (arith, l.faults, ended.2))
    (rw c.as_slice.ensures.value at c.ended.ensures) _

pub returns-in-Took-read-clause-read : goal.returns-in-Took-read-clause-read
returns-in-Took-read-clause-read g c =
    let l = c.pieces.invariant in
    let took = c.in-Took-read.ensures.reads in (
      head_too_long _ l.so_far.0 c.pieces.head.items _ _ _ l.so_far.1 (omega (arith, l.so_far.2, l.within, c.pieces-test.false)) l.front took.2 (omega (arith, took.0, took.1, length-take {A = ℕ})),
      omega (arith, l.faults, took.3),
    )

pub returns-in-End-read-clause-read : goal.returns-in-End-read-clause-read
returns-in-End-read-clause-read g c =
    let l = c.pieces.invariant in
    let ended = c.in-End-read.ensures.reads in
    head_ended _ _ l.so_far.0 c.pieces.head.items c.ended-in-End-read.result _ _ l.so_far.1 (omega (arith, l.so_far.2, l.within)) l.front ended.0 (omega (arith, l.faults, ended.2))
    (rw c.as_slice-in-End-read.ensures.value at c.ended-in-End-read.ensures) _
