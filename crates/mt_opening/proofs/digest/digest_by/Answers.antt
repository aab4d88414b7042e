use Rattle.std.proofs.Common.{◌≡◌, ◌++◌, [], length, take, drop, ap, sym, ◌∙◌, arith, subst, append-nil, length-append, length-drop}
use Rattle.std.proofs.lemmas.List.{length-take-le, take_at}
use Rattle.std.proofs.Math.Seq.{take-add}
use Rattle.md5.specs.Md5.{Holds}
use Rattle.mt_disk.proofs.Readings.{reads_on}
use Rattle.mt_log.specs.LogState.{told}
use Rattle.mt_body.specs.Stored.{bytes_of}
use Rattle.mt_body.proofs.Keeping.{length-bytes_of}
use Rattle.mt_opening.proofs.digest.digest_by.Goals as goal

pub loop-at-preserved : goal.loop-at-preserved
loop-at-preserved g c =
    let d = g.D.Disk in
    let i = c.loop-at.invariant in
    let buffer = c.loop-at.buffer in
    let at = c.loop-at.at in
    let count = c.min-count.result in
    let read = c.read_body.new.into in
    let front = length-take-le count buffer (omega (arith, c.min-count.ensures)) in
    let same = c.read_body.auto.into in
    record {
      within = omega (arith, c.min-count.ensures, c.loop-at-test.true);
      size = omega (arith, length-append read (drop count buffer), same, front, length-drop count buffer, i.size, c.min-count.ensures);
      sum = λ ps is.
          let bytes = bytes_of ps c.args.body.now in
          let part = take_at read (drop count buffer) count (same ∙ front) ∙ c.in_ok-read_body.ensures.bytes ps (ap told i.read.seen_same ∙ is) ∙ ap (λ k. take k (drop at bytes)) front in
          subst (λ l. Holds c.update.new.self l) (ap (λ l. take at bytes ++ l) part ∙ sym (take-add at count bytes)) (c.update.ensures (take at bytes) (i.sum ps is));
      read = reads_on d.seen d.may_leave d.moment d.left_since _ _ _ i.read c.read_body.ensures.read;
      faults = omega (arith, i.faults, c.read_body.ensures.cause.later);
      stays = g.met.D.Disk.joined _ _ _ i.stays c.read_body.ensures.stays;
    }

pub returns-clause-digest : goal.returns-clause-digest
returns-clause-digest g c ps is =
    let i = c.loop-at.invariant in
    let bytes = bytes_of ps c.args.body.now in
    let size : length bytes ≡ c.loop-at.at = omega (arith, length-bytes_of ps c.args.body.now, i.within, c.loop-at-test.false, c.size-len.ensures) in
    c.finalize.ensures bytes (subst (λ l. Holds c.loop-at.sum l) (ap (take c.loop-at.at) (sym (append-nil bytes)) ∙ take_at bytes [] c.loop-at.at size) (i.sum ps is))
