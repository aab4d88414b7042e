-- What is read over the window is read of the disk that was lent to it, which is the disk at the end.
use Rattle.std.proofs.Common.{◌≡◌, ap, subst, rules}
use Rattle.std.specs.Option.{ForSome}
use Rattle.mt_base.specs.Counts.{NeverFell, Rose}
use Rattle.mt_disk.specs.CrashModel.{OnlyRead}
use Rattle.mt_log.specs.LogState.{told}
use Rattle.mt_opening.specs.Opening.{NamesForeign}
use Rattle.mt_opening.proofs.load.load.Goals as goal

pub returns-clause-reads : goal.returns-clause-reads
returns-clause-reads g c =
    let d = g.D.Disk in
    let now = c.load_payloads.new.disk.disk.now in
    let same : c.disk-1.given.0 ≡ now = search rules in
    let looks = c.load_payloads.ensures.looks in
    let lent = ap (λ b. b.now) c.new-ahead.ensures in
    rw same (record {
      read = subst (λ old. OnlyRead d.seen d.may_leave d.moment d.left_since old now) lent (record { seen_same = looks.read.seen_same; images = looks.read.images; time = looks.read.time });
      disk = λ is. subst (λ old. Rose (d.faults old) (d.faults now)) lent (looks.disk is);
      faults = subst (λ old. NeverFell (d.faults old) (d.faults now)) lent looks.faults;
    })

pub returns-clause-foreign : goal.returns-clause-foreign
returns-clause-foreign g c why is =
    subst (λ old. ForSome (told (g.D.Disk.seen old)) (λ ps. NamesForeign ps why)) (ap (λ b. b.now) c.new-ahead.ensures) (c.load_payloads.ensures.foreign why is)
