-- The file is read as the log that it is, or as the fault that it has.
use Rattle.std.proofs.Common.{ℕ, Bool, Err, Ok, take, ap, arith, refl, subst, sym, ◌∙◌}
use Rattle.std.specs.Prelude.{IsOk}
use Rattle.std.proofs.lemmas.Option.{MatchOption-at_some, same_Some}
use Rattle.mt_disk.specs.Files.{contents}
use Rattle.mt_log.specs.LogImage.{log_by, magic_of}
use Rattle.mt_log.specs.Scan.{HasLog, StopsAt, WindowState}
use Rattle.mt_log.proofs.Scans.{answers_err, begun_at, old_refused, read_taken, too_short}
use Rattle.mt_log.proofs.Walks.{log_by-fault, log_by-holds}
use Rattle.mt_log.proofs.scan.scan.Goals as goal

pub returns-then-end-lt-EMPTY_LEN-clause-answer : goal.returns-then-end-lt-EMPTY_LEN-clause-answer
returns-then-end-lt-EMPTY_LEN-clause-answer g c files is fault named =
    let size = MatchOption-at_some _ _ _ is c.in_ok-end.ensures.bytes in
    too_short c.args.takes_old (contents files c.args.file) (omega (arith, size, c.if-end-lt-EMPTY_LEN.true)) ∙ ap (λ f. Err f) (same_Some _ fault named)

pub returns-in_err-is_old-clause-answer : goal.returns-in_err-is_old-clause-answer
returns-in_err-is_old-clause-answer g c files is =
    let file = ap (λ (w : WindowState). w.file) c.in_ok-window.ensures in
    answers_err _ c.in_err-is_old.field-0.0 _ c.from_residual-in_err-is_old.ensures.1
    (λ fault named. ap (λ f. log_by c.args.takes_old (contents files f)) (sym file) ∙ c.in_err-is_old.ensures.refused files (c.len.ensures.seen ∙ is) fault named c.args.takes_old)

pub returns-then-not-takes_old-clause-answer : goal.returns-then-not-takes_old-clause-answer
returns-then-not-takes_old-clause-answer g c files is fault named =
    let bytes = contents files c.args.file in
    let file = ap (λ (w : WindowState). w.file) c.in_ok-window.ensures in
    let size = MatchOption-at_some _ _ _ is c.in_ok-end.ensures.bytes in
    let front = ap (λ f. take 8 (contents files f)) (sym file) ∙ c.in_ok-is_old.ensures.version files (c.len.ensures.seen ∙ is) ∙ ap magic_of c.if-is_old.true in
    ap (λ (any : Bool). log_by any bytes) c.if-not-takes_old.true ∙ old_refused bytes (omega (arith, size, c.if-end-lt-EMPTY_LEN.false)) front ∙ ap (λ f. Err f) (same_Some _ fault named)

pub returns-in_err-walk-clause-answer : goal.returns-in_err-walk-clause-answer
returns-in_err-walk-clause-answer g c files is =
    let bytes = contents files c.args.file in
    let old = c.in_ok-is_old.is_old in
    let same = c.in_ok-is_old.ensures.same in
    let first = ap (λ (w : WindowState). w.file) c.in_ok-window.ensures in
    let file = ap (λ (w : WindowState). w.file) same ∙ first in
    let size = MatchOption-at_some _ _ _ is c.in_ok-end.ensures.bytes in
    let seen1 = c.len.ensures.seen ∙ is in
    let front = ap (λ f. take 8 (contents files f)) (sym first) ∙ c.in_ok-is_old.ensures.version files seen1 in
    answers_err _ c.in_err-walk.field-0.0 _ c.from_residual-in_err-walk.ensures.1
    (λ fault named.
    let stops = c.in_err-walk.ensures.refused files (c.version.ensures.read.seen_same ∙ seen1) fault named old (begun_at files old c.version.new.window c.args.file file (ap (λ (w : WindowState). w.at) same) front) in
    let stop = subst (λ f. StopsAt old (contents files f) fault) file stops in
    log_by-fault c.args.takes_old old bytes stop.at fault stop.walked (omega (arith, size, c.if-end-lt-EMPTY_LEN.false)) stop.ends
    ∙ read_taken c.args.takes_old old (Err fault) c.else-is_old.either)

pub returns-clause-found : goal.returns-clause-found
returns-clause-found g c files is =
    let old = c.in_ok-is_old.is_old in
    let same = c.in_ok-is_old.ensures.same in
    let first = ap (λ (w : WindowState). w.file) c.in_ok-window.ensures in
    let file = ap (λ (w : WindowState). w.file) same ∙ first in
    let seen1 = c.len.ensures.seen ∙ is in
    let front = ap (λ f. take 8 (contents files f)) (sym first) ∙ c.in_ok-is_old.ensures.version files seen1 in
    let log = c.in_ok-walk.ensures.closed files (c.version.ensures.read.seen_same ∙ seen1) old (begun_at files old c.version.new.window c.args.file file (ap (λ (w : WindowState). w.at) same) front) in
    subst (λ (n : ℕ). HasLog old (contents files c.args.file) n) (sym c.at.ensures) (subst (λ f. HasLog old (contents files f) c.walk.new.window.at) file log)

pub returns-clause-answer : goal.returns-clause-answer
returns-clause-answer g c files is =
    let log = returns-clause-found g c files is in
    let old = c.in_ok-is_old.is_old in
    subst (λ r. IsOk r) (sym (log_by-holds c.args.takes_old old (contents files c.args.file) _ log.payloads log.holds ∙ read_taken c.args.takes_old old (Ok log.payloads) c.else-is_old.either)) refl
