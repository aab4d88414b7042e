-- Each end of the loop, from what it keeps.
use Rattle.std.proofs.Common.{◌≡◌, true≢false, ◌≤◌, ◌+◌, ◌∷◌, ◌++◌, [], ℕ, List, true, false, length, take, refl, sym, ◌∙◌, ap, subst, arith, Result, Err}
use Rattle.mt_base.specs.Counts.{NeverFell}
use Rattle.mt_log.specs.declared.append.AppendError.{AppendError}
use Rattle.mt_log.specs.LogState.{LogState, OthersStay, next_place}
use Rattle.mt_log.specs.RunState.{HasTaken, RunState, Running}
use Rattle.mt_log.proofs.Others.{others_on, others_same}
use Rattle.mt_log.proofs.Running.{run_idle}
use Rattle.mt_body.specs.Filling.{EndsSo}
use Rattle.mt_body.specs.Storing.{LackIs, Stores}
use Rattle.mt_body.proofs.Storings.{any_on, at_end, at_last, begun_more, begun_none, begun_still, broken, never_fell, stores_lack, stores_last, told_tells}
use Rattle.mt_body.proofs.pieces.store_pieces.Goals as goal

pub pieces-init : goal.pieces-init
pieces-init g c =
    let d = g.D.Disk in
    let b = begun_none (g.S.Source.left c.args.source.now) c.args.sum.now (d.seen c.args.disk.now) c.args.log.now c.args.run.now c.requires.fresh in
    record {
      size = c.requires.buffer;
      log_is = refl;
      begun = b.0;
      full = b.1;
      running = c.requires.running;
      order = c.requires.order;
      same = refl;
      others = others_same c.args.log.now.file (d.seen c.args.disk.now) (d.seen c.args.disk.now) refl;
      any_moment = λ files is. run_idle d.seen d.may_leave d.moment d.left_since c.args.disk.now files c.args.log.now c.args.run.now [] (c.requires.running c.requires.is_open files is) (g.met.D.Disk.only_now c.args.disk.now);
      faults = omega arith;
      reads = omega arith;
      stays = g.met.S.Source.source_same _;
    }

pub returns-then-filled-eq0-clause-stores : goal.returns-then-filled-eq0-clause-stores
returns-then-filled-eq0-clause-stores g c =
    let d = g.D.Disk in
    let i = c.pieces.invariant in
    let f = c.next_piece-filled.ensures.piece in
    let digested = f.digested i.begun.bytes i.begun.digested in
    let b = begun_still _ _ _ _ _ _ _ (d.seen c.pieces.disk) _ _ _ c.pieces.run _ _ i.begun f.bytes (f.size ∙ c.if-filled-eq0.true) f.took digested in
    stores_last _ _ _ _ _ c.args.log.now c.pieces.log _ _ _ _ b c.next_piece-filled.result.end c.last.result c.last.ensures
    (λ is. at_end c.next_piece-filled.result.end c.next_piece-filled.result.count 65536 (g.S.Source.read_faults c.pieces.source) (g.S.Source.read_faults c.next_piece-filled.new.source) (g.S.Source.left c.next_piece-filled.new.source) f.ends (omega (arith, c.if-filled-eq0.true)) is) i.log_is

pub returns-in-Err-Full-clause-stores : goal.returns-in-Err-Full-clause-stores
returns-in-Err-Full-clause-stores g c =
    let d = g.D.Disk in
    let i = c.pieces.invariant in
    let f = c.next_piece-filled.ensures.piece in
    let digested = f.digested i.begun.bytes i.begun.digested in
    let e = c.in-Err-Full.ensures in
    let is = ap {B = Result ℕ AppendError} (λ x. Err x) c.in-Err-Full.field-0-is in
    let same = e.unchanged_full is in
    let lacks = (e.full.0 is).1 in
    let s = stores_lack _ _ _ _ _ _ _ (d.seen c.pieces.disk) c.args.log.now _ _ c.pieces.run _ _ i.begun c.next_piece-filled.result.end i.full f.bytes c.add_to_run.new.self (omega (arith, f.size, c.if-filled-eq0.false)) (omega (arith, f.size, f.few)) f.took digested
    (omega (arith, lacks, ap length f.is, ap (λ (x : LogState). x.limit) i.log_is)) (same.1 ∙ i.log_is) in
    subst (λ r. Stores r (g.S.Source.left c.args.source.now) (g.S.Source.left c.next_piece-filled.new.source) c.next_piece-filled.new.sum (d.seen c.args.disk.now) (d.seen c.add_to_run.new.disk) c.args.log.now c.add_to_run.new.self c.args.run.now c.add_to_run.new.run) (sym c.lacking.ensures)
    (subst (λ x. Stores (LackIs c.next_piece-filled.result.end) (g.S.Source.left c.args.source.now) (g.S.Source.left c.next_piece-filled.new.source) c.next_piece-filled.new.sum (d.seen c.args.disk.now) (d.seen x) c.args.log.now c.add_to_run.new.self c.args.run.now c.add_to_run.new.run) (sym same.0)
    (subst (λ (x : RunState). Stores (LackIs c.next_piece-filled.result.end) (g.S.Source.left c.args.source.now) (g.S.Source.left c.next_piece-filled.new.source) c.next_piece-filled.new.sum (d.seen c.args.disk.now) (d.seen c.pieces.disk) c.args.log.now c.add_to_run.new.self c.args.run.now x) (sym same.2) s))

pub returns-in-Err-Disk-clause-stores : goal.returns-in-Err-Disk-clause-stores
returns-in-Err-Disk-clause-stores g c =
    let d = g.D.Disk in
    let i = c.pieces.invariant in
    let f = c.next_piece-filled.ensures.piece in
    let digested = f.digested i.begun.bytes i.begun.digested in
    let e = c.in-Err-Disk.ensures in
    let closed = e.disk_closes (ap {B = Result ℕ AppendError} (λ x. Err x) c.in-Err-Disk.field-0-is) in
    broken _ _ _ _ _ _ _ (d.seen c.pieces.disk) c.args.log.now _ _ c.pieces.run _ _ i.begun f.bytes c.add_to_run.new.self f.took digested (closed ∙ ap (λ (x : LogState). record x { closed = true }) i.log_is)

pub returns-in-Err-Disk-clause-any_moment : goal.returns-in-Err-Disk-clause-any_moment
returns-in-Err-Disk-clause-any_moment g c =
    let d = g.D.Disk in
    let i = c.pieces.invariant in
    any_on d.seen d.may_leave d.moment d.left_since c.args.disk.now c.pieces.disk c.add_to_run.new.disk c.args.log.now c.args.run.now c.pieces.run c.requires.is_open c.requires.running i.running i.same i.any_moment
    (c.add_to_run.ensures.any_moment (ap (λ (x : LogState). x.closed) i.log_is ∙ c.requires.is_open))

pub returns-in-Err-Closed : goal.returns-in-Err-Closed
returns-in-Err-Closed g c =
    let i = c.pieces.invariant in
    let closed = c.in-Err-Closed.ensures.closed.0 (ap {B = Result ℕ AppendError} (λ x. Err x) c.in-Err-Closed.field-0-is) in
    absurd (true≢false (sym closed ∙ ap (λ (x : LogState). x.closed) i.log_is ∙ c.requires.is_open))

pub pieces-preserved : goal.pieces-preserved
pieces-preserved g c =
    let d = g.D.Disk in
    let i = c.pieces.invariant in
    let f = c.next_piece-filled.ensures.piece in
    let digested = f.digested i.begun.bytes i.begun.digested in
    let e = c.in-Ok.ensures in
    let log_is = e.place.2 ∙ i.log_is in
    let next = ap (λ (r : RunState). r.next) e.place.1 ∙ ap (λ (p : List ℕ). next_place c.pieces.run.next (length p)) f.is in
    let fits : c.add_to_run.new.run.next + 1 ≤ c.args.log.now.limit = omega (arith, e.fits, next, ap length f.is, ap (λ (x : LogState). x.limit) i.log_is) in
    let m = begun_more _ _ _ _ _ _ _ (d.seen c.add_to_run.new.disk) c.args.log.now c.args.run.now c.pieces.run c.add_to_run.new.run c.pieces.total c.pieces.first i.begun i.full f.bytes (c.pieces.total + c.next_piece-filled.result.count) c.first_place-first.result
    (omega (arith, f.size, c.if-filled-eq0.false)) (omega (arith, f.size, f.few)) f.took digested
    (λ records had. subst (λ (p : List ℕ). HasTaken (d.seen c.add_to_run.new.disk) c.args.log.now c.add_to_run.new.run (records ++ p ∷ [])) f.is
    (subst (λ (x : LogState). HasTaken (d.seen c.add_to_run.new.disk) x c.add_to_run.new.run (records ++ take (c.next_piece-filled.result.count + 1) c.next_piece-filled.new.buffer ∷ [])) log_is
    (e.taken records (subst (λ (x : LogState). HasTaken (d.seen c.pieces.disk) x c.pieces.run records) (sym i.log_is) had))))
    next fits (omega (arith, f.size)) (λ none. c.first_place-first.ensures.none none ∙ e.place.0) c.first_place-first.ensures.some in
    record {
      size = c.next_piece-filled.auto.buffer ∙ i.size;
      log_is = log_is;
      begun = m.0;
      full = m.1 (f.size ∙ (subst (λ x. EndsSo x c.next_piece-filled.result.count 65536 (g.S.Source.left c.next_piece-filled.new.source) (g.S.Source.read_faults c.pieces.source) (g.S.Source.read_faults c.next_piece-filled.new.source)) c.in-Whole.is f.ends).0);
      running = subst (λ (x : LogState). Running d.seen d.may_leave c.add_to_run.new.disk x c.add_to_run.new.run) log_is c.add_to_run.ensures.running;
      order = subst (λ (x : LogState). x.closed ≡ false → x.gate ≤ c.add_to_run.new.run.next) log_is c.add_to_run.ensures.order;
      same = e.same ∙ i.same;
      others = others_on c.args.log.now.file (d.seen c.args.disk.now) (d.seen c.pieces.disk) (d.seen c.add_to_run.new.disk) (told_tells _ _ i.same) i.others (subst (λ (x : LogState). OthersStay x.file (d.seen c.pieces.disk) (d.seen c.add_to_run.new.disk)) i.log_is e.others);
      any_moment = any_on d.seen d.may_leave d.moment d.left_since c.args.disk.now c.pieces.disk c.add_to_run.new.disk c.args.log.now c.args.run.now c.pieces.run c.requires.is_open c.requires.running i.running i.same i.any_moment
          (c.add_to_run.ensures.any_moment (ap (λ (x : LogState). x.closed) i.log_is ∙ c.requires.is_open));
      faults = omega (arith, i.faults, c.add_to_run.ensures.faults);
      reads = (let later : NeverFell (g.S.Source.read_faults c.pieces.source) (g.S.Source.read_faults c.next_piece-filled.new.source) = never_fell c.next_piece-filled.result.end c.next_piece-filled.result.count 65536 (g.S.Source.read_faults c.pieces.source) (g.S.Source.read_faults c.next_piece-filled.new.source) (g.S.Source.left c.next_piece-filled.new.source) f.ends in omega (arith, i.reads, later));
      stays = g.met.S.Source.source_joined _ _ _ i.stays c.next_piece-filled.ensures.stays;
    }

pub returns-in-Ended-clause-stores : goal.returns-in-Ended-clause-stores
returns-in-Ended-clause-stores g c =
    let d = g.D.Disk in
    let i = c.pieces.invariant in
    let f = c.next_piece-filled.ensures.piece in
    let digested = f.digested i.begun.bytes i.begun.digested in
    let e = c.in-Ok.ensures in
    let log_is = e.place.2 ∙ i.log_is in
    let next = ap (λ (r : RunState). r.next) e.place.1 ∙ ap (λ (p : List ℕ). next_place c.pieces.run.next (length p)) f.is in
    let fits : c.add_to_run.new.run.next + 1 ≤ c.args.log.now.limit = omega (arith, e.fits, next, ap length f.is, ap (λ (x : LogState). x.limit) i.log_is) in
    let m = begun_more _ _ _ _ _ _ _ (d.seen c.add_to_run.new.disk) c.args.log.now c.args.run.now c.pieces.run c.add_to_run.new.run c.pieces.total c.pieces.first i.begun i.full f.bytes (c.pieces.total + c.next_piece-filled.result.count) c.first_place-first.result
    (omega (arith, f.size, c.if-filled-eq0.false)) (omega (arith, f.size, f.few)) f.took digested
    (λ records had. subst (λ (p : List ℕ). HasTaken (d.seen c.add_to_run.new.disk) c.args.log.now c.add_to_run.new.run (records ++ p ∷ [])) f.is
    (subst (λ (x : LogState). HasTaken (d.seen c.add_to_run.new.disk) x c.add_to_run.new.run (records ++ take (c.next_piece-filled.result.count + 1) c.next_piece-filled.new.buffer ∷ [])) log_is
    (e.taken records (subst (λ (x : LogState). HasTaken (d.seen c.pieces.disk) x c.pieces.run records) (sym i.log_is) had))))
    next fits (omega (arith, f.size)) (λ none. c.first_place-first.ensures.none none ∙ e.place.0) c.first_place-first.ensures.some in
    stores_last _ _ _ _ _ c.args.log.now c.add_to_run.new.self _ _ _ _ m.0 c.next_piece-filled.result.end c.last-in-Ended.result c.last-in-Ended.ensures
    (at_last c.next_piece-filled.result.end c.next_piece-filled.result.count 65536 (g.S.Source.read_faults c.pieces.source) (g.S.Source.read_faults c.next_piece-filled.new.source) (g.S.Source.left c.next_piece-filled.new.source) f.ends c.in-Ended.is) log_is

pub returns-in-Ended-clause-any_moment : goal.returns-in-Ended-clause-any_moment
returns-in-Ended-clause-any_moment g c =
    let d = g.D.Disk in
    let i = c.pieces.invariant in
    any_on d.seen d.may_leave d.moment d.left_since c.args.disk.now c.pieces.disk c.add_to_run.new.disk c.args.log.now c.args.run.now c.pieces.run c.requires.is_open c.requires.running i.running i.same i.any_moment
    (c.add_to_run.ensures.any_moment (ap (λ (x : LogState). x.closed) i.log_is ∙ c.requires.is_open))

pub returns-in-Ended-clause-others : goal.returns-in-Ended-clause-others
returns-in-Ended-clause-others g c = λ not.
    let d = g.D.Disk in
    let i = c.pieces.invariant in
    let e = c.in-Ok.ensures in
    others_on c.args.log.now.file (d.seen c.args.disk.now) (d.seen c.pieces.disk) (d.seen c.add_to_run.new.disk) (told_tells _ _ i.same) i.others (subst (λ (x : LogState). OthersStay x.file (d.seen c.pieces.disk) (d.seen c.add_to_run.new.disk)) i.log_is e.others)
