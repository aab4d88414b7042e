-- What was walked over ends with one record more.
use Rattle.std.proofs.Common.{◌≡◌, ℕ, ◌-◌, Bool, Some, Err, drop, ap, arith, subst, sym, ◌∙◌}
use Rattle.mt_disk.specs.Files.{Files, contents}
use Rattle.mt_disk.proofs.Readings.{reads_on}
use Rattle.mt_log.specs.declared.open_error.OpenError.{OpenError}
use Rattle.mt_log.specs.LogImage.{LogFault}
use Rattle.mt_log.specs.Scan.{EndsWith, GateIs, HasLog, HasRecord, IsShut, StopsAt, Walked, WindowState, fault_of, rest_at}
use Rattle.mt_log.proofs.Scans.{at_err, walked_on}
use Rattle.mt_log.proofs.Walks.{holds_walked}
use Rattle.mt_log.proofs.Windows.{window_on}
use Rattle.mt_log.proofs.scan.walk.Goals as goal

pub records-preserved : goal.records-preserved
records-preserved g c =
    let d = g.D.Disk in
    let first = c.args.window.now in
    let was = c.records.window in
    let mid = c.is_open.new.window in
    let now = c.pass_record.new.window in
    let one = c.records.invariant.same in
    let two = c.is_open.ensures.same in
    let three = c.in_ok-pass_record.ensures.same in
    record {
      same = window_on first was mid now one two three;
      window = c.in_ok-pass_record.ensures.window;
      read = reads_on d.seen d.may_leave d.moment d.left_since _ _ _ (reads_on d.seen d.may_leave d.moment d.left_since _ _ _ c.records.invariant.read c.is_open.ensures.read) c.pass_record.ensures.read;
      later = omega (arith, c.records.invariant.later, ap (λ (w : WindowState). w.at) two, c.in_ok-pass_record.ensures.moved.0);
      faults = omega (arith, c.records.invariant.faults, c.is_open.ensures.faults, c.pass_record.ensures.faults);
      walked = λ files is old front.
          let bytes = contents files first.file in
          let seen2 = c.is_open.ensures.read.seen_same ∙ c.records.invariant.read.seen_same ∙ is in
          let at = ap (λ (w : WindowState). w.at) two in
          let file = ap (λ (w : WindowState). w.file) two ∙ ap (λ (w : WindowState). w.file) one in
          let passed : HasRecord (drop was.at bytes) (now.at - was.at) =
          subst (λ (n : ℕ). HasRecord (drop n bytes) (now.at - n)) at (subst (λ f. HasRecord (drop mid.at (contents files f)) (now.at - mid.at)) file (c.in_ok-pass_record.ensures.passed files seen2)) in
          walked_on old bytes was.at now.at (c.records.invariant.walked files is old front) passed (omega (arith, c.in_ok-pass_record.ensures.moved.0, at));
    }

pub returns-in_err-is_open-clause-refused : goal.returns-in_err-is_open-clause-refused
returns-in_err-is_open-clause-refused g c =
    let d = g.D.Disk in
    let first = c.args.window.now in
    let was = c.records.window in
    let file = ap (λ (w : WindowState). w.file) c.records.invariant.same in
    at_err _ c.in_err-is_open.field-0.0
    (λ (e : OpenError). (files : Files) → d.seen c.args.disk.now ≡ Some files → (fault : LogFault) → fault_of e ≡ Some fault → (old : Bool) → Walked old (contents files first.file) first.at → StopsAt old (contents files first.file) fault)
    c.from_residual.ensures.1
    (λ files is fault named old front. record {
      at = was.at;
      walked = c.records.invariant.walked files is old front;
      ends = subst (λ f. EndsWith was.at (drop was.at (contents files f)) (Err fault)) file (c.in_err-is_open.ensures.refused files (c.records.invariant.read.seen_same ∙ is) fault named);
    })

pub returns-in_err-pass_record-clause-refused : goal.returns-in_err-pass_record-clause-refused
returns-in_err-pass_record-clause-refused g c =
    let d = g.D.Disk in
    let first = c.args.window.now in
    let was = c.records.window in
    let mid = c.is_open.new.window in
    let file = ap (λ (w : WindowState). w.file) c.is_open.ensures.same ∙ ap (λ (w : WindowState). w.file) c.records.invariant.same in
    let place = ap (λ (w : WindowState). w.at) c.is_open.ensures.same in
    at_err _ c.in_err-pass_record.field-0.0
    (λ (e : OpenError). (files : Files) → d.seen c.args.disk.now ≡ Some files → (fault : LogFault) → fault_of e ≡ Some fault → (old : Bool) → Walked old (contents files first.file) first.at → StopsAt old (contents files first.file) fault)
    c.from_residual-in_err-pass_record.ensures.1
    (λ files is fault named old front.
    let ends : EndsWith mid.at (drop mid.at (contents files mid.file)) (Err fault) = c.in_err-pass_record.ensures.refused files (c.is_open.ensures.read.seen_same ∙ c.records.invariant.read.seen_same ∙ is) fault named in
    record {
      at = was.at;
      walked = c.records.invariant.walked files is old front;
      ends = subst (λ (n : ℕ). EndsWith n (drop n (contents files first.file)) (Err fault)) place (subst (λ f. EndsWith mid.at (drop mid.at (contents files f)) (Err fault)) file ends);
    })

pub returns-then-not-branch-clause-closed : goal.returns-then-not-branch-clause-closed
returns-then-not-branch-clause-closed g c files is old front =
    let first = c.args.window.now in
    let was = c.records.window in
    let bytes = contents files first.file in
    let file = ap (λ (w : WindowState). w.file) c.records.invariant.same in
    let place = ap (λ (w : WindowState). w.at) c.is_open.ensures.same in
    let gate = subst (λ (b : Bool). GateIs b (rest_at files was)) c.if-not-branch.true (c.in_ok-is_open.ensures.gate files (c.records.invariant.read.seen_same ∙ is)) in
    let shut : IsShut (drop was.at bytes) = subst (λ f. IsShut (drop was.at (contents files f))) file gate in
    let walked = c.records.invariant.walked files is old front in
    subst (λ (n : ℕ). HasLog old bytes n) (sym place) (record { payloads = walked.payloads; holds = holds_walked old bytes was.at walked shut })
