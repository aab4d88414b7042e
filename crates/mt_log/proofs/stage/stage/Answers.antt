-- Up to and with the gate the file stays as it was; the gate after the record begins within the file.
use Rattle.std.proofs.Common.{ℕ, List, ◌+◌, length, arith, ap, ◌∙◌}
use Rattle.mt_disk.specs.Files.{contents, overwritten}
use Rattle.mt_disk.proofs.Moments.{keeps}
use Rattle.mt_log.specs.Stage.{KeepsFront}
use Rattle.mt_log.proofs.Fronts.{front_begun, front_torn, length-holds, length-record}
use Rattle.mt_log.proofs.Records.{length-head_of}
use Rattle.mt_log.proofs.Told.{before}
use Rattle.mt_log.proofs.stage.stage.Goals as goal

pub returns-in_err-write_at-2-clause-any_moment : goal.returns-in_err-write_at-2-clause-any_moment
returns-in_err-write_at-2-clause-any_moment g c files is =
    let d = g.D.Disk in
    let P = KeepsFront files c.args.file c.args.gate in
    let stands = c.requires.stands files is in
    let behind = front_torn files c.args.file c.args.gate in
    let zero = front_begun d.moment d.left_since d.may_leave c.args.disk.now files c.args.file c.args.gate stands.1.0 (g.met.D.Disk.only_now c.args.disk.now) (stands.0, stands.1.1) in
    let one = keeps d.moment d.left_since d.may_leave _ _ _ P _ zero c.write_at.ensures.crash c.write_at.ensures.time (behind _ _ (omega arith)) in
    let two = keeps d.moment d.left_since d.may_leave _ _ _ P _ one c.write_at-2.ensures.crash c.write_at-2.ensures.time (behind _ _ (omega arith)) in
    two.run

pub write_at-requires-3 : goal.write_at-requires-3
write_at-requires-3 g c files is =
    let two = before _ _ c.args.file (λ bytes. overwritten bytes (c.args.gate + 21) c.args.payload.now) files c.in_ok-write_at-2.ensures.written is in
    let one = before _ _ c.args.file (λ bytes. overwritten bytes (c.args.gate + 1) c.head_bytes.result) two.files c.in_ok-write_at.ensures.written two.was in
    let first = (length-holds _ _ _ _ (c.requires.stands one.files one.was).1.1.holds).1 in
    let head = ap length c.head_bytes.ensures ∙ length-head_of c.args.payload.now in
    let bytes = two.now ∙ ap (λ (b : List ℕ). overwritten b (c.args.gate + 21) c.args.payload.now) one.now in
    omega (arith, ap length bytes, length-record (contents one.files c.args.file) c.args.gate c.head_bytes.result c.args.payload.now first head)

pub returns-clause-any_moment : goal.returns-clause-any_moment
returns-clause-any_moment g c files is =
    let d = g.D.Disk in
    let P = KeepsFront files c.args.file c.args.gate in
    let stands = c.requires.stands files is in
    let behind = front_torn files c.args.file c.args.gate in
    let zero = front_begun d.moment d.left_since d.may_leave c.args.disk.now files c.args.file c.args.gate stands.1.0 (g.met.D.Disk.only_now c.args.disk.now) (stands.0, stands.1.1) in
    let one = keeps d.moment d.left_since d.may_leave _ _ _ P _ zero c.write_at.ensures.crash c.write_at.ensures.time (behind _ _ (omega arith)) in
    let two = keeps d.moment d.left_since d.may_leave _ _ _ P _ one c.write_at-2.ensures.crash c.write_at-2.ensures.time (behind _ _ (omega arith)) in
    let three = keeps d.moment d.left_since d.may_leave _ _ _ P _ two c.write_at-3.ensures.crash c.write_at-3.ensures.time (behind _ _ (omega arith)) in
    three.run
