use Rattle.std.proofs.Common.{◌≡◌, ◌≤◌, length, take, drop, refl, arith}
use Rattle.mt_disk.specs.Files.{contents}
use Rattle.mt_ahead.specs.declared.read_ahead.Window.{Window}
use Rattle.mt_ahead.proofs.Windows.{outlives}
use Rattle.mt_ahead.proofs.read_ahead.ReadAheadDisk.cut.Goals as goal

pub invariant_of-self-2-clause-known : goal.invariant_of-self-2-clause-known
invariant_of-self-2-clause-known g c =
    let r = c.args.self.now in
    outlives (λ (w : Window) bytes. w.end ≤ length bytes) _ r.window c.kept_over-kept.result (λ files. take c.args.to (contents files c.args.file)) c.args.file r.file
    (g.D.Disk.seen r.disk.now) (g.D.Disk.seen c.cut.new.self) c.in_ok-cut.ensures.done c.kept_over-kept.ensures (λ bytes. omega arith) r.known

pub invariant_of-self-2-clause-same : goal.invariant_of-self-2-clause-same
invariant_of-self-2-clause-same g c =
    let r = c.args.self.now in
    outlives (λ (w : Window) bytes. take w.held r.piece.now ≡ take w.held (drop w.at bytes)) _ r.window c.kept_over-kept.result (λ files. take c.args.to (contents files c.args.file)) c.args.file r.file
    (g.D.Disk.seen r.disk.now) (g.D.Disk.seen c.cut.new.self) c.in_ok-cut.ensures.done c.kept_over-kept.ensures (λ bytes. refl) r.same
