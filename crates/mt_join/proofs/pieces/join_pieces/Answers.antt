-- Each end of the loop, from what it keeps.
use Rattle.std.proofs.Common.{◌≡◌, true≢false, ◌≤◌, ◌+◌, ◌∷◌, ◌++◌, [], ℕ, List, true, false, length, take, refl, sym, ◌∙◌, ap, subst, arith, Result, Err}
use Rattle.std.specs.Option.{ForSome}
use Rattle.mt_disk.specs.CrashModel.{LeavesOnly}
use Rattle.mt_log.specs.declared.append.AppendError.{AppendError}
use Rattle.mt_log.specs.LogImage.{IsBeforeOrAfter}
use Rattle.mt_log.specs.LogState.{IsThere, LogState, OthersStay, next_place, told}
use Rattle.mt_log.specs.RunState.{HasTaken, RunState, Running}
use Rattle.mt_join.specs.Filling.{rest_len}
use Rattle.mt_join.specs.Joining.{Front, Joins}
use Rattle.mt_join.proofs.Fillings.{within_first}
use Rattle.mt_join.proofs.Joinings.{begun_more, begun_none, held_none, joins_whole, lacks_room, whole_some}
use Rattle.mt_join.proofs.Runs.{keeps_add, keeps_leave, keeps_none, keeps_read, running_there}
use Rattle.mt_join.proofs.pieces.join_pieces.Goals as goal

pub pieces-init : goal.pieces-init
pieces-init g c =
    let d = g.D.Disk in
    let b = begun_none c.args.parts.now c.new-sum.result (d.seen c.args.disk.now) c.args.log.now c.args.run.now c.new-sum.ensures in
    record {
      size = c.requires.buffer;
      log_is = refl;
      within = within_first c.args.parts.now;
      begun = b.0;
      full = b.1;
      kept = keeps_none d.seen d.may_leave d.moment d.left_since c.args.disk.now c.args.log.now c.args.run.now c.requires.is_open c.requires.running (g.met.D.Disk.only_now c.args.disk.now);
      order = c.requires.order;
      faults = omega arith;
    }

pub next_piece-requires-clause-there : goal.next_piece-requires-clause-there
next_piece-requires-clause-there g c =
    let d = g.D.Disk in
    let i = c.pieces.invariant in
    subst (λ (x : LogState). IsThere d.seen c.pieces.disk x) (sym i.log_is) (running_there d.seen d.may_leave d.moment d.left_since c.pieces.disk c.args.log.now c.pieces.run i.kept.running)

pub next_piece-requires-clause-is_open : goal.next_piece-requires-clause-is_open
next_piece-requires-clause-is_open g c = ap (λ (x : LogState). x.closed) c.pieces.invariant.log_is ∙ c.requires.is_open

pub next_piece-requires-clause-stored : goal.next_piece-requires-clause-stored
next_piece-requires-clause-stored g c ps is = c.requires.stored ps (sym c.pieces.invariant.kept.same ∙ is)

pub next_piece-requires-clause-within : goal.next_piece-requires-clause-within
next_piece-requires-clause-within g c = c.pieces.invariant.within

pub next_piece-requires-clause-buffer : goal.next_piece-requires-clause-buffer
next_piece-requires-clause-buffer g c = c.pieces.invariant.size

-- a read failed
pub returns-in-Err-clause-joins : goal.returns-in-Err-clause-joins
returns-in-Err-clause-joins g c = c.close.ensures ∙ ap (λ (x : LogState). record x { closed = true }) c.pieces.invariant.log_is

pub returns-in-Err-clause-any_moment : goal.returns-in-Err-clause-any_moment
returns-in-Err-clause-any_moment g c =
    let d = g.D.Disk in
    (keeps_read d.seen d.may_leave d.moment d.left_since c.args.disk.now c.pieces.disk c.next_piece.new.disk c.args.log.now c.args.run.now c.pieces.run c.requires.is_open c.requires.running c.pieces.invariant.kept
    (g.met.D.Disk.only_now c.pieces.disk) c.next_piece.ensures.read).any_moment

pub returns-in-Err-clause-running : goal.returns-in-Err-clause-running
returns-in-Err-clause-running g c = λ still. absurd (true≢false (sym (ap (λ (x : LogState). x.closed) c.close.ensures) ∙ still))

pub returns-in-Err-clause-order : goal.returns-in-Err-clause-order
returns-in-Err-clause-order g c = λ still. absurd (true≢false (sym (ap (λ (x : LogState). x.closed) c.close.ensures) ∙ still))

pub returns-in-Err-clause-same : goal.returns-in-Err-clause-same
returns-in-Err-clause-same g c = λ not. absurd (not refl)

pub returns-in-Err-clause-others : goal.returns-in-Err-clause-others
returns-in-Err-clause-others g c = λ not. absurd (not refl)

pub returns-in-Err-clause-faults : goal.returns-in-Err-clause-faults
returns-in-Err-clause-faults g c = omega (arith, c.pieces.invariant.faults, c.next_piece.ensures.cause.later)

-- no byte is left
pub returns-then-filled-eq0-clause-joins : goal.returns-then-filled-eq0-clause-joins
returns-then-filled-eq0-clause-joins g c =
    let d = g.D.Disk in
    let i = c.pieces.invariant in
    let f = c.in-Ok.ensures.piece in
    let none : rest_len c.args.parts.now c.pieces.cursor ≡ 0 = omega (arith, f.len, c.if-filled-eq0.true, f.all (omega (arith, c.if-filled-eq0.true))) in
    subst (λ t. Joins c.whole.result c.args.parts.now (d.seen c.args.disk.now) t c.args.log.now c.pieces.log c.args.run.now c.pieces.run) (sym c.next_piece.ensures.read.seen_same)
    (joins_whole c.args.parts.now c.pieces.cursor _ _ _ c.args.log.now _ c.pieces.run _ _ i.begun c.pieces.log c.next_piece.new.sum c.whole.result none
    (held_none c.next_piece.new.sum i.begun.bytes f.bytes (f.size ∙ c.if-filled-eq0.true) (f.digested i.begun.bytes i.begun.digested)) c.whole.ensures i.log_is)

pub returns-then-filled-eq0-clause-any_moment : goal.returns-then-filled-eq0-clause-any_moment
returns-then-filled-eq0-clause-any_moment g c =
    let d = g.D.Disk in
    (keeps_read d.seen d.may_leave d.moment d.left_since c.args.disk.now c.pieces.disk c.next_piece.new.disk c.args.log.now c.args.run.now c.pieces.run c.requires.is_open c.requires.running c.pieces.invariant.kept
    (g.met.D.Disk.only_now c.pieces.disk) c.next_piece.ensures.read).any_moment

pub returns-then-filled-eq0-clause-same : goal.returns-then-filled-eq0-clause-same
returns-then-filled-eq0-clause-same g c = λ not. ap told c.next_piece.ensures.read.seen_same ∙ c.pieces.invariant.kept.same

pub returns-then-filled-eq0-clause-others : goal.returns-then-filled-eq0-clause-others
returns-then-filled-eq0-clause-others g c = λ not.
    let d = g.D.Disk in
    (keeps_read d.seen d.may_leave d.moment d.left_since c.args.disk.now c.pieces.disk c.next_piece.new.disk c.args.log.now c.args.run.now c.pieces.run c.requires.is_open c.requires.running c.pieces.invariant.kept
    (g.met.D.Disk.only_now c.pieces.disk) c.next_piece.ensures.read).others

pub returns-then-filled-eq0-clause-running : goal.returns-then-filled-eq0-clause-running
returns-then-filled-eq0-clause-running g c =
    let d = g.D.Disk in
    let i = c.pieces.invariant in
    subst (λ (x : LogState). Running d.seen d.may_leave c.next_piece.new.disk x c.pieces.run) (sym i.log_is)
    (keeps_read d.seen d.may_leave d.moment d.left_since c.args.disk.now c.pieces.disk c.next_piece.new.disk c.args.log.now c.args.run.now c.pieces.run c.requires.is_open c.requires.running i.kept
    (g.met.D.Disk.only_now c.pieces.disk) c.next_piece.ensures.read).running

pub returns-then-filled-eq0-clause-order : goal.returns-then-filled-eq0-clause-order
returns-then-filled-eq0-clause-order g c = let i = c.pieces.invariant in subst (λ (x : LogState). x.closed ≡ false → x.gate ≤ c.pieces.run.next) (sym i.log_is) i.order

pub returns-then-filled-eq0-clause-disk : goal.returns-then-filled-eq0-clause-disk
returns-then-filled-eq0-clause-disk g c is = absurd ((whole_some c.whole.result _ _ _ c.whole.ensures).0 is)

pub returns-then-filled-eq0-clause-memory : goal.returns-then-filled-eq0-clause-memory
returns-then-filled-eq0-clause-memory g c is = (whole_some c.whole.result _ _ _ c.whole.ensures).1 is

pub returns-then-filled-eq0-clause-faults : goal.returns-then-filled-eq0-clause-faults
returns-then-filled-eq0-clause-faults g c = omega (arith, c.pieces.invariant.faults, c.next_piece.ensures.cause.later)

-- a piece goes to the run
pub add_to_run-requires-clause-running : goal.add_to_run-requires-clause-running
add_to_run-requires-clause-running g c =
    let d = g.D.Disk in
    let i = c.pieces.invariant in
    subst (λ (x : LogState). Running d.seen d.may_leave c.next_piece.new.disk x c.pieces.run) (sym i.log_is)
    (keeps_read d.seen d.may_leave d.moment d.left_since c.args.disk.now c.pieces.disk c.next_piece.new.disk c.args.log.now c.args.run.now c.pieces.run c.requires.is_open c.requires.running i.kept
    (g.met.D.Disk.only_now c.pieces.disk) c.next_piece.ensures.read).running

pub add_to_run-requires-clause-order : goal.add_to_run-requires-clause-order
add_to_run-requires-clause-order g c = let i = c.pieces.invariant in subst (λ (x : LogState). x.closed ≡ false → x.gate ≤ c.pieces.run.next) (sym i.log_is) i.order

-- it has no room
pub returns-in-Err-Full-clause-joins : goal.returns-in-Err-Full-clause-joins
returns-in-Err-Full-clause-joins g c =
    let d = g.D.Disk in
    let i = c.pieces.invariant in
    let f = c.in-Ok.ensures.piece in
    let e = c.in-Err-Full.ensures in
    let is = ap {B = Result ℕ AppendError} (λ x. Err x) c.in-Err-Full.field-0-is in
    let same = e.unchanged_full is in
    let lacks = (e.full.0 is).1 in
    let p = lacks_room c.args.parts.now c.pieces.cursor _ (d.seen c.args.disk.now) (d.seen c.pieces.disk) c.args.log.now c.args.run.now c.pieces.run _ _ i.begun c.in-Ok.filled.cursor i.full f.bytes
    (omega (arith, f.size, c.if-filled-eq0.false)) (omega (arith, f.size, f.few)) (λ ps told_is. f.are ps (i.kept.same ∙ told_is)) (omega (arith, f.len, f.size))
    (omega (arith, lacks, ap length f.is, ap (λ (x : LogState). x.limit) i.log_is)) in (
      subst (λ (x : RunState). Front c.args.parts.now (d.seen c.args.disk.now) (d.seen c.add_to_run.new.disk) c.args.log.now c.args.run.now x) (sym same.2)
          (subst (λ t. Front c.args.parts.now (d.seen c.args.disk.now) t c.args.log.now c.args.run.now c.pieces.run) (sym (ap d.seen same.0 ∙ c.next_piece.ensures.read.seen_same)) p),
      same.1 ∙ i.log_is,
    )

pub returns-in-Err-Full-clause-any_moment : goal.returns-in-Err-Full-clause-any_moment
returns-in-Err-Full-clause-any_moment g c =
    let d = g.D.Disk in
    let i = c.pieces.invariant in
    let same = c.in-Err-Full.ensures.unchanged_full (ap {B = Result ℕ AppendError} (λ x. Err x) c.in-Err-Full.field-0-is) in
    subst (λ x. ForSome (d.seen c.args.disk.now) (λ files. LeavesOnly d.moment d.left_since c.args.disk.now x (IsBeforeOrAfter files []))) (sym same.0)
    (keeps_read d.seen d.may_leave d.moment d.left_since c.args.disk.now c.pieces.disk c.next_piece.new.disk c.args.log.now c.args.run.now c.pieces.run c.requires.is_open c.requires.running i.kept
    (g.met.D.Disk.only_now c.pieces.disk) c.next_piece.ensures.read).any_moment

pub returns-in-Err-Full-clause-same : goal.returns-in-Err-Full-clause-same
returns-in-Err-Full-clause-same g c = λ not.
    let d = g.D.Disk in
    let same = c.in-Err-Full.ensures.unchanged_full (ap {B = Result ℕ AppendError} (λ x. Err x) c.in-Err-Full.field-0-is) in
    ap (λ x. told (d.seen x)) same.0 ∙ ap told c.next_piece.ensures.read.seen_same ∙ c.pieces.invariant.kept.same

pub returns-in-Err-Full-clause-others : goal.returns-in-Err-Full-clause-others
returns-in-Err-Full-clause-others g c = λ not.
    let d = g.D.Disk in
    let i = c.pieces.invariant in
    let same = c.in-Err-Full.ensures.unchanged_full (ap {B = Result ℕ AppendError} (λ x. Err x) c.in-Err-Full.field-0-is) in
    subst (λ x. OthersStay c.args.log.now.file (d.seen c.args.disk.now) (d.seen x)) (sym same.0)
    (keeps_read d.seen d.may_leave d.moment d.left_since c.args.disk.now c.pieces.disk c.next_piece.new.disk c.args.log.now c.args.run.now c.pieces.run c.requires.is_open c.requires.running i.kept
    (g.met.D.Disk.only_now c.pieces.disk) c.next_piece.ensures.read).others

pub returns-in-Err-Full-clause-running : goal.returns-in-Err-Full-clause-running
returns-in-Err-Full-clause-running g c = c.add_to_run.ensures.running

pub returns-in-Err-Full-clause-order : goal.returns-in-Err-Full-clause-order
returns-in-Err-Full-clause-order g c = c.add_to_run.ensures.order

pub returns-in-Err-Full-clause-faults : goal.returns-in-Err-Full-clause-faults
returns-in-Err-Full-clause-faults g c = omega (arith, c.pieces.invariant.faults, c.next_piece.ensures.cause.later, c.add_to_run.ensures.faults)

-- a write failed
pub returns-in-Err-Disk-clause-joins : goal.returns-in-Err-Disk-clause-joins
returns-in-Err-Disk-clause-joins g c =
    c.in-Err-Disk.ensures.disk_closes (ap {B = Result ℕ AppendError} (λ x. Err x) c.in-Err-Disk.field-0-is) ∙ ap (λ (x : LogState). record x { closed = true }) c.pieces.invariant.log_is

pub returns-in-Err-Disk-clause-any_moment : goal.returns-in-Err-Disk-clause-any_moment
returns-in-Err-Disk-clause-any_moment g c =
    let d = g.D.Disk in
    let i = c.pieces.invariant in
    let k = keeps_read d.seen d.may_leave d.moment d.left_since c.args.disk.now c.pieces.disk c.next_piece.new.disk c.args.log.now c.args.run.now c.pieces.run c.requires.is_open c.requires.running i.kept
    (g.met.D.Disk.only_now c.pieces.disk) c.next_piece.ensures.read in
    keeps_leave d.seen d.may_leave d.moment d.left_since c.args.disk.now c.next_piece.new.disk c.add_to_run.new.disk c.args.log.now c.args.run.now c.pieces.run c.requires.is_open c.requires.running k
    (c.add_to_run.ensures.any_moment (ap (λ (x : LogState). x.closed) i.log_is ∙ c.requires.is_open))

pub returns-in-Err-Disk-clause-same : goal.returns-in-Err-Disk-clause-same
returns-in-Err-Disk-clause-same g c = λ not. absurd (not refl)

pub returns-in-Err-Disk-clause-others : goal.returns-in-Err-Disk-clause-others
returns-in-Err-Disk-clause-others g c = λ not. absurd (not refl)

pub returns-in-Err-Disk-clause-running : goal.returns-in-Err-Disk-clause-running
returns-in-Err-Disk-clause-running g c = c.add_to_run.ensures.running

pub returns-in-Err-Disk-clause-order : goal.returns-in-Err-Disk-clause-order
returns-in-Err-Disk-clause-order g c = c.add_to_run.ensures.order

pub returns-in-Err-Disk-clause-faults : goal.returns-in-Err-Disk-clause-faults
returns-in-Err-Disk-clause-faults g c = omega (arith, c.pieces.invariant.faults, c.next_piece.ensures.cause.later, c.add_to_run.ensures.faults)

pub returns-in-Err-Closed : goal.returns-in-Err-Closed
returns-in-Err-Closed g c =
    let i = c.pieces.invariant in
    let closed = c.in-Err-Closed.ensures.closed.0 (ap {B = Result ℕ AppendError} (λ x. Err x) c.in-Err-Closed.field-0-is) in
    absurd (true≢false (sym closed ∙ ap (λ (x : LogState). x.closed) i.log_is ∙ c.requires.is_open))

-- the piece was the last one
pub returns-then-filled-lt-LARGEST_PIECE-clause-joins : goal.returns-then-filled-lt-LARGEST_PIECE-clause-joins
returns-then-filled-lt-LARGEST_PIECE-clause-joins g c =
    let d = g.D.Disk in
    let i = c.pieces.invariant in
    let f = c.in-Ok.ensures.piece in
    let e = c.in-Ok-add_to_run.ensures in
    let log_is = e.place.2 ∙ i.log_is in
    let next = ap (λ (r : RunState). r.next) e.place.1 ∙ ap (λ (p : List ℕ). next_place c.pieces.run.next (length p)) f.is in
    let fits : c.add_to_run.new.run.next + 1 ≤ c.args.log.now.limit = omega (arith, e.fits, next, ap length f.is, ap (λ (x : LogState). x.limit) i.log_is) in
    let m = begun_more c.args.parts.now c.pieces.cursor _ (d.seen c.args.disk.now) (d.seen c.pieces.disk) c.args.log.now c.args.run.now c.pieces.run c.pieces.total c.pieces.first i.begun c.in-Ok.filled.cursor c.next_piece.new.sum
    (d.seen c.add_to_run.new.disk) c.add_to_run.new.run i.full f.bytes (c.pieces.total + c.in-Ok.filled.count) c.first_place-first.result
    (omega (arith, f.size, c.if-filled-eq0.false)) (omega (arith, f.size, f.few)) (λ ps told_is. f.are ps (i.kept.same ∙ told_is)) (omega (arith, f.len, f.size)) (f.digested i.begun.bytes i.begun.digested)
    (λ records had. subst (λ (p : List ℕ). HasTaken (d.seen c.add_to_run.new.disk) c.args.log.now c.add_to_run.new.run (records ++ p ∷ [])) f.is
    (subst (λ (x : LogState). HasTaken (d.seen c.add_to_run.new.disk) x c.add_to_run.new.run (records ++ take (c.in-Ok.filled.count + 1) c.next_piece.new.buffer ∷ [])) log_is
    (e.taken records (subst (λ t. HasTaken t c.pieces.log c.pieces.run records) (sym c.next_piece.ensures.read.seen_same)
    (subst (λ (x : LogState). HasTaken (d.seen c.pieces.disk) x c.pieces.run records) (sym i.log_is) had)))))
    next fits (omega (arith, f.size)) (λ none. c.first_place-first.ensures.none none ∙ e.place.0) c.first_place-first.ensures.some in
    joins_whole c.args.parts.now c.in-Ok.filled.cursor _ _ _ c.args.log.now _ _ _ _ m.0 c.add_to_run.new.self c.next_piece.new.sum c.whole-then-filled-lt-LARGEST_PIECE.result (f.all c.if-filled-lt-LARGEST_PIECE.true) m.0.digested c.whole-then-filled-lt-LARGEST_PIECE.ensures log_is

pub returns-then-filled-lt-LARGEST_PIECE-clause-any_moment : goal.returns-then-filled-lt-LARGEST_PIECE-clause-any_moment
returns-then-filled-lt-LARGEST_PIECE-clause-any_moment g c =
    let d = g.D.Disk in
    let i = c.pieces.invariant in
    let k = keeps_read d.seen d.may_leave d.moment d.left_since c.args.disk.now c.pieces.disk c.next_piece.new.disk c.args.log.now c.args.run.now c.pieces.run c.requires.is_open c.requires.running i.kept
    (g.met.D.Disk.only_now c.pieces.disk) c.next_piece.ensures.read in
    keeps_leave d.seen d.may_leave d.moment d.left_since c.args.disk.now c.next_piece.new.disk c.add_to_run.new.disk c.args.log.now c.args.run.now c.pieces.run c.requires.is_open c.requires.running k
    (c.add_to_run.ensures.any_moment (ap (λ (x : LogState). x.closed) i.log_is ∙ c.requires.is_open))

pub returns-then-filled-lt-LARGEST_PIECE-clause-same : goal.returns-then-filled-lt-LARGEST_PIECE-clause-same
returns-then-filled-lt-LARGEST_PIECE-clause-same g c = λ not. c.in-Ok-add_to_run.ensures.same ∙ ap told c.next_piece.ensures.read.seen_same ∙ c.pieces.invariant.kept.same

pub returns-then-filled-lt-LARGEST_PIECE-clause-others : goal.returns-then-filled-lt-LARGEST_PIECE-clause-others
returns-then-filled-lt-LARGEST_PIECE-clause-others g c = λ not.
    let d = g.D.Disk in
    let i = c.pieces.invariant in
    let e = c.in-Ok-add_to_run.ensures in
    let log_is = e.place.2 ∙ i.log_is in
    let k = keeps_read d.seen d.may_leave d.moment d.left_since c.args.disk.now c.pieces.disk c.next_piece.new.disk c.args.log.now c.args.run.now c.pieces.run c.requires.is_open c.requires.running i.kept
    (g.met.D.Disk.only_now c.pieces.disk) c.next_piece.ensures.read in
    (keeps_add d.seen d.may_leave d.moment d.left_since c.args.disk.now c.next_piece.new.disk c.add_to_run.new.disk c.args.log.now c.args.run.now c.pieces.run c.add_to_run.new.run c.requires.is_open c.requires.running k
    (subst (λ (x : LogState). Running d.seen d.may_leave c.add_to_run.new.disk x c.add_to_run.new.run) log_is c.add_to_run.ensures.running)
    e.same (subst (λ (x : LogState). OthersStay x.file (d.seen c.next_piece.new.disk) (d.seen c.add_to_run.new.disk)) i.log_is e.others)
    (c.add_to_run.ensures.any_moment (ap (λ (x : LogState). x.closed) i.log_is ∙ c.requires.is_open))).others

pub returns-then-filled-lt-LARGEST_PIECE-clause-disk : goal.returns-then-filled-lt-LARGEST_PIECE-clause-disk
returns-then-filled-lt-LARGEST_PIECE-clause-disk g c is = absurd ((whole_some c.whole-then-filled-lt-LARGEST_PIECE.result _ _ _ c.whole-then-filled-lt-LARGEST_PIECE.ensures).0 is)

pub returns-then-filled-lt-LARGEST_PIECE-clause-memory : goal.returns-then-filled-lt-LARGEST_PIECE-clause-memory
returns-then-filled-lt-LARGEST_PIECE-clause-memory g c is = (whole_some c.whole-then-filled-lt-LARGEST_PIECE.result _ _ _ c.whole-then-filled-lt-LARGEST_PIECE.ensures).1 is

pub returns-then-filled-lt-LARGEST_PIECE-clause-running : goal.returns-then-filled-lt-LARGEST_PIECE-clause-running
returns-then-filled-lt-LARGEST_PIECE-clause-running g c = c.add_to_run.ensures.running

pub returns-then-filled-lt-LARGEST_PIECE-clause-order : goal.returns-then-filled-lt-LARGEST_PIECE-clause-order
returns-then-filled-lt-LARGEST_PIECE-clause-order g c = c.add_to_run.ensures.order

pub returns-then-filled-lt-LARGEST_PIECE-clause-faults : goal.returns-then-filled-lt-LARGEST_PIECE-clause-faults
returns-then-filled-lt-LARGEST_PIECE-clause-faults g c = omega (arith, c.pieces.invariant.faults, c.next_piece.ensures.cause.later, c.add_to_run.ensures.faults)

pub pieces-smaller : goal.pieces-smaller
pieces-smaller g c =
    let e = c.in-Ok-add_to_run.ensures in
    omega (arith, ap (λ (r : RunState). r.next) e.place.1, e.fits, ap (λ (x : LogState). x.limit) c.pieces.invariant.log_is)

pub pieces-preserved : goal.pieces-preserved
pieces-preserved g c =
    let d = g.D.Disk in
    let i = c.pieces.invariant in
    let f = c.in-Ok.ensures.piece in
    let e = c.in-Ok-add_to_run.ensures in
    let log_is = e.place.2 ∙ i.log_is in
    let next = ap (λ (r : RunState). r.next) e.place.1 ∙ ap (λ (p : List ℕ). next_place c.pieces.run.next (length p)) f.is in
    let fits : c.add_to_run.new.run.next + 1 ≤ c.args.log.now.limit = omega (arith, e.fits, next, ap length f.is, ap (λ (x : LogState). x.limit) i.log_is) in
    let m = begun_more c.args.parts.now c.pieces.cursor _ (d.seen c.args.disk.now) (d.seen c.pieces.disk) c.args.log.now c.args.run.now c.pieces.run c.pieces.total c.pieces.first i.begun c.in-Ok.filled.cursor c.next_piece.new.sum
    (d.seen c.add_to_run.new.disk) c.add_to_run.new.run i.full f.bytes (c.pieces.total + c.in-Ok.filled.count) c.first_place-first.result
    (omega (arith, f.size, c.if-filled-eq0.false)) (omega (arith, f.size, f.few)) (λ ps told_is. f.are ps (i.kept.same ∙ told_is)) (omega (arith, f.len, f.size)) (f.digested i.begun.bytes i.begun.digested)
    (λ records had. subst (λ (p : List ℕ). HasTaken (d.seen c.add_to_run.new.disk) c.args.log.now c.add_to_run.new.run (records ++ p ∷ [])) f.is
    (subst (λ (x : LogState). HasTaken (d.seen c.add_to_run.new.disk) x c.add_to_run.new.run (records ++ take (c.in-Ok.filled.count + 1) c.next_piece.new.buffer ∷ [])) log_is
    (e.taken records (subst (λ t. HasTaken t c.pieces.log c.pieces.run records) (sym c.next_piece.ensures.read.seen_same)
    (subst (λ (x : LogState). HasTaken (d.seen c.pieces.disk) x c.pieces.run records) (sym i.log_is) had)))))
    next fits (omega (arith, f.size)) (λ none. c.first_place-first.ensures.none none ∙ e.place.0) c.first_place-first.ensures.some in
    let k = keeps_read d.seen d.may_leave d.moment d.left_since c.args.disk.now c.pieces.disk c.next_piece.new.disk c.args.log.now c.args.run.now c.pieces.run c.requires.is_open c.requires.running i.kept
    (g.met.D.Disk.only_now c.pieces.disk) c.next_piece.ensures.read in
    record {
      size = c.next_piece.auto.buffer ∙ i.size;
      log_is = log_is;
      within = f.within;
      begun = m.0;
      full = m.1 (omega (arith, f.size, f.few, c.if-filled-lt-LARGEST_PIECE.false));
      kept = keeps_add d.seen d.may_leave d.moment d.left_since c.args.disk.now c.next_piece.new.disk c.add_to_run.new.disk c.args.log.now c.args.run.now c.pieces.run c.add_to_run.new.run c.requires.is_open c.requires.running k
          (subst (λ (x : LogState). Running d.seen d.may_leave c.add_to_run.new.disk x c.add_to_run.new.run) log_is c.add_to_run.ensures.running)
          e.same (subst (λ (x : LogState). OthersStay x.file (d.seen c.next_piece.new.disk) (d.seen c.add_to_run.new.disk)) i.log_is e.others)
          (c.add_to_run.ensures.any_moment (ap (λ (x : LogState). x.closed) i.log_is ∙ c.requires.is_open));
      order = subst (λ (x : LogState). x.closed ≡ false → x.gate ≤ c.add_to_run.new.run.next) log_is c.add_to_run.ensures.order;
      faults = omega (arith, i.faults, c.next_piece.ensures.cause.later, c.add_to_run.ensures.faults);
    }
