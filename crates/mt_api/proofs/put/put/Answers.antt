use Rattle.std.proofs.Common.{◌≡◌, ◌+◌, ◌++◌, ◌<◌, ◌≤◌, [], ℕ, length, true≢false, inl, refl, sym, ap, ◌∙◌, subst, arith}
use Rattle.mt_body.specs.Stored.{pieces_size, pieces_that_fit}
use Rattle.mt_opening.specs.Current.{EngineState}
use Rattle.mt_opening.proofs.Held.{holding_now, told_now}
use Rattle.mt_engine.proofs.Ends.{all_of}
use Rattle.mt_http.specs.BodyReading.{body_left}
use Rattle.mt_log.specs.LogImage.{payloads_of}
use Rattle.mt_log.specs.LogState.{Stands}
use Rattle.mt_log.specs.RunState.{RunState}
use Rattle.mt_api.specs.Answered.{used}
use Rattle.mt_api.specs.Steps.{Goes, HasNoRoom, IsWhole, StoresBody}
use Rattle.mt_api.specs.declared.answered.Answered.TheVariants as answered
use Rattle.mt_api.proofs.Ends.{behind_keeps, disk_not_source, ended_over, held_ended, held_sends, leaves_same, leaves_then, memory_not_disk, memory_not_source}
use Rattle.mt_api.proofs.Lefts.{all_ended, front_of, read_further}
use Rattle.mt_api.proofs.Puts.{call_there, ended_goes, goes_on, none_taken, nothing_fits, part_next, stays_left}
use Rattle.mt_api.proofs.put.put.Goals as goal

pub returns-then-used-limit-clause-goes : goal.returns-then-used-limit-clause-goes
returns-then-used-limit-clause-goes g c base h asked i e =
    let d = g.D.Disk in
    let engine = c.args.engine.now in
    let left = body_left c.args.stream.now.framer (g.S.Source.left c.args.stream.now.source.now) in
    let w = c.begin_run-run.ensures.writing base h i (payloads_of i.is_read.files) (told_now (d.seen c.args.disk.now) engine base h i) in
    let over : engine.log.limit < used engine + pieces_size 0 = omega (arith, c.if-used-limit.true, c.used.ensures, c.limit.ensures) in
    let at : used engine ≡ used engine + pieces_that_fit engine.log.limit (used engine) 0 = omega (arith, nothing_fits engine.log.limit (used engine)) in
    let none : HasNoRoom (d.seen c.args.disk.now) engine c.begin_run-run.result base h (payloads_of i.is_read.files) [] = record { writing = w; next = ap (λ (r : RunState). r.next + 1) c.begin_run-run.ensures.place ∙ at; full = over } in
    c.refuse_for_room.ensures.goes base h (payloads_of i.is_read.files) asked left [] e none c.new-sum.ensures (none_taken left)

pub finish_body-requires-clause-stores : goal.finish_body-requires-clause-stores
finish_body-requires-clause-stores g c = subst (λ (x : EngineState). StoresBody x c.args.call) (sym (c.in-Stored.ensures.still_open (λ x. cc))) c.requires.stores

pub refuse_for_room-requires-in-Full-clause-stores : goal.refuse_for_room-requires-in-Full-clause-stores
refuse_for_room-requires-in-Full-clause-stores g c = subst (λ (x : EngineState). StoresBody x c.args.call) (sym (c.in-Full.ensures.still_open (λ x. cc))) c.requires.stores

pub returns-in-Stored-clause-goes : goal.returns-in-Stored-clause-goes
returns-in-Stored-clause-goes g c base h asked i e =
    let d = g.D.Disk in
    let engine = c.args.engine.now in
    let run = c.begin_run-run.result in
    let left = body_left c.args.stream.now.framer (g.S.Source.left c.args.stream.now.source.now) in
    let left' = body_left c.store_body.new.source.framer (g.S.Source.left c.store_body.new.source.source.now) in
    let w = c.begin_run-run.ensures.writing base h i (payloads_of i.is_read.files) (told_now (d.seen c.args.disk.now) engine base h i) in
    let same = c.in-Stored.ensures.still_open (λ x. cc) in
    let s = c.in-Stored.ensures.body base h (payloads_of i.is_read.files) w in
    let fresh : run.next + 1 ≡ used engine = ap (λ (r : RunState). r.next + 1) c.begin_run-run.ensures.place in
    let under : used engine ≤ engine.log.limit = omega (arith, c.if-used-limit.false, c.used.ensures, c.limit.ensures) in
    let whole : IsWhole (d.seen c.store_body.new.disk) c.store_body.new.self c.store_body.new.run base h (payloads_of i.is_read.files ++ s.pieces) c.in-Stored.body s.bytes = record {
      writing = s.writing;
      stored = s.stands;
      reads = s.reads;
      next = omega (arith, s.next, fresh, ap used same);
      fits = s.fits (omega (arith, fresh, under, ap (λ (x : EngineState). x.log.limit) same));
    } in
    let r = c.finish_body.ensures.goes base h (payloads_of i.is_read.files ++ s.pieces) asked left s.bytes (call_there asked engine c.store_body.new.self c.args.call (sym same) e) whole (all_ended left left' s.bytes s.took s.ended) in
    let goes = subst (λ (x : EngineState). Goes c.finish_body.result asked x base h left c.finish_body.new.stream.framer.stage (d.seen c.finish_body.new.disk) c.finish_body.new.engine r.0) same r.1 in (
      r.0,
      goes,
      leaves_then d.moment d.left_since c.args.disk.now c.store_body.new.disk c.finish_body.new.disk base h r.0
          (goes_on c.finish_body.result asked engine base h left c.finish_body.new.stream.framer.stage (d.seen c.finish_body.new.disk) c.finish_body.new.engine r.0 goes) (c.in-Stored.ensures.any_moment base h (payloads_of i.is_read.files) w) r.2,
    )

pub returns-in-Full-clause-goes : goal.returns-in-Full-clause-goes
returns-in-Full-clause-goes g c base h asked i e =
    let d = g.D.Disk in
    let engine = c.args.engine.now in
    let run = c.begin_run-run.result in
    let left = body_left c.args.stream.now.framer (g.S.Source.left c.args.stream.now.source.now) in
    let w = c.begin_run-run.ensures.writing base h i (payloads_of i.is_read.files) (told_now (d.seen c.args.disk.now) engine base h i) in
    let same = c.in-Full.ensures.still_open (λ x. cc) in
    let p = c.in-Full.ensures.body base h (payloads_of i.is_read.files) w in
    let fresh : run.next + 1 ≡ used c.store_body.new.self = ap (λ (r : RunState). r.next + 1) c.begin_run-run.ensures.place ∙ sym (ap used same) in
    let none : HasNoRoom (d.seen c.store_body.new.disk) c.store_body.new.self c.store_body.new.run base h (payloads_of i.is_read.files ++ p.0.pieces) p.0.bytes = record {
      writing = p.0.writing;
      next = part_next c.store_body.new.self.log.limit (used c.store_body.new.self) run.next c.store_body.new.run.next (length p.0.bytes) p.0.next fresh;
      full = omega (arith, p.1, fresh);
    } in
    let r = c.refuse_for_room-in-Full.ensures.goes base h (payloads_of i.is_read.files ++ p.0.pieces) asked left p.0.bytes (call_there asked engine c.store_body.new.self c.args.call (sym same) e) none p.0.digested p.0.took in
    let goes = subst (λ (x : EngineState). Goes c.refuse_for_room-in-Full.result asked x base h left c.refuse_for_room-in-Full.new.stream.framer.stage (d.seen c.refuse_for_room-in-Full.new.disk) c.refuse_for_room-in-Full.new.engine r.0) same r.1 in (
      r.0,
      goes,
      leaves_then d.moment d.left_since c.args.disk.now c.store_body.new.disk c.refuse_for_room-in-Full.new.disk base h r.0
          (goes_on c.refuse_for_room-in-Full.result asked engine base h left c.refuse_for_room-in-Full.new.stream.framer.stage (d.seen c.refuse_for_room-in-Full.new.disk) c.refuse_for_room-in-Full.new.engine r.0 goes) (c.in-Full.ensures.any_moment base h (payloads_of i.is_read.files) w) r.2,
    )

pub returns-in-SourceFault-clause-goes : goal.returns-in-SourceFault-clause-goes
returns-in-SourceFault-clause-goes g c base h asked i e =
    let d = g.D.Disk in
    let engine = c.args.engine.now in
    let run = c.begin_run-run.result in
    let left = body_left c.args.stream.now.framer (g.S.Source.left c.args.stream.now.source.now) in
    let left' = body_left c.store_body.new.source.framer (g.S.Source.left c.store_body.new.source.source.now) in
    let w = c.begin_run-run.ensures.writing base h i (payloads_of i.is_read.files) (told_now (d.seen c.args.disk.now) engine base h i) in
    let same = c.in-SourceFault.ensures.still_open (λ x. cc) in
    let p = c.in-SourceFault.ensures.body base h (payloads_of i.is_read.files) w in
    let fresh : run.next + 1 ≡ used c.store_body.new.self = ap (λ (r : RunState). r.next + 1) c.begin_run-run.ensures.place ∙ sym (ap used same) in
    let next = part_next c.store_body.new.self.log.limit (used c.store_body.new.self) run.next c.store_body.new.run.next (length p.bytes) p.next fresh
    ∙ ap (λ (x : EngineState). used x + pieces_that_fit x.log.limit (used x) (length p.bytes)) same
    ∙ ap (λ (n : ℕ). used engine + n) (sym (stays_left engine base h (payloads_of i.is_read.files) (holding_now (d.seen c.args.disk.now) engine base h i) asked c.args.call e c.requires.stores p.bytes)) in
    let end = c.end_with in (
      h,
      ended_goes asked engine base h left c.store_body.new.source.framer.stage (d.seen end.new.disk) p.bytes end.result answered.SourceFault c.store_body.new.run c.store_body.new.self end.new.engine (front_of left left' p.bytes p.took)
          end.ensures.ends (end.ensures.current base h (payloads_of i.is_read.files ++ p.pieces) p.writing) (λ x. cc) next,
      leaves_then d.moment d.left_since c.args.disk.now c.store_body.new.disk end.new.disk base h h (all_of h) (c.in-SourceFault.ensures.any_moment base h (payloads_of i.is_read.files) w)
          (leaves_same d.moment d.left_since c.store_body.new.disk end.new.disk base h (end.ensures.any_moment base h (payloads_of i.is_read.files ++ p.pieces) p.writing)),
    )

pub returns-in-Disk-clause-goes : goal.returns-in-Disk-clause-goes
returns-in-Disk-clause-goes g c base h asked i e =
    let d = g.D.Disk in
    let w = c.begin_run-run.ensures.writing base h i (payloads_of i.is_read.files) (told_now (d.seen c.args.disk.now) c.args.engine.now base h i) in
    (h, (c.in-Disk.ensures.closed refl, inl refl), leaves_same d.moment d.left_since c.args.disk.now c.store_body.new.disk base h (c.in-Disk.ensures.any_moment base h (payloads_of i.is_read.files) w))

pub returns-in-Memory-clause-goes : goal.returns-in-Memory-clause-goes
returns-in-Memory-clause-goes g c base h asked i e =
    let d = g.D.Disk in
    let w = c.begin_run-run.ensures.writing base h i (payloads_of i.is_read.files) (told_now (d.seen c.args.disk.now) c.args.engine.now base h i) in
    (h, (refl, λ is_open. (c.in-Memory.ensures.body base h (payloads_of i.is_read.files) w).current), leaves_same d.moment d.left_since c.args.disk.now c.store_body.new.disk base h (c.in-Memory.ensures.any_moment base h (payloads_of i.is_read.files) w))

pub store_body-requires-clause-ready : goal.store_body-requires-clause-ready
store_body-requires-clause-ready g c = record { running = c.begin_run-run.ensures.goes_on.running; order = c.begin_run-run.ensures.goes_on.order; is_open = c.requires.ready.over.is_open }

pub finish_body-requires-clause-ready : goal.finish_body-requires-clause-ready
finish_body-requires-clause-ready g c = record {
  over = record {
    running = c.in-Stored.ensures.goes_on.running;
    order = c.in-Stored.ensures.goes_on.order;
    is_open = ap (λ (x : EngineState). x.log.closed) (c.in-Stored.ensures.still_open (λ x. cc)) ∙ c.requires.ready.over.is_open;
  };
  moment = c.requires.ready.moment;
  fits = c.requires.ready.fits;
  placed = c.in-Stored.ensures.stores.0.placed;
}

pub refuse_for_room-requires-in-Full-clause-ready : goal.refuse_for_room-requires-in-Full-clause-ready
refuse_for_room-requires-in-Full-clause-ready g c = record {
  running = c.in-Full.ensures.goes_on.running;
  order = c.in-Full.ensures.goes_on.order;
  is_open = ap (λ (x : EngineState). x.log.closed) (c.in-Full.ensures.still_open (λ x. cc)) ∙ c.requires.ready.over.is_open;
}

pub end_with-requires-clause-ready : goal.end_with-requires-clause-ready
end_with-requires-clause-ready g c = record {
  running = c.in-SourceFault.ensures.goes_on.running;
  order = c.in-SourceFault.ensures.goes_on.order;
  is_open = ap (λ (x : EngineState). x.log.closed) (c.in-SourceFault.ensures.still_open (λ x. cc)) ∙ c.requires.ready.over.is_open;
}

pub returns-in-Stored-clause-goes_on : goal.returns-in-Stored-clause-goes_on
returns-in-Stored-clause-goes_on g c =
    let d = g.D.Disk in
    let s = g.S.Source in
    let read = c.in-Stored.ensures.stays in
    record {
      over = c.finish_body.ensures.goes_on.over;
      sends = c.finish_body.ensures.goes_on.sends;
      keeps = behind_keeps d.seen d.may_leave d.faults c.args.disk.now c.store_body.new.disk c.finish_body.new.disk c.finish_body.result c.args.engine.now c.store_body.new.self c.finish_body.new.engine
          (ap (λ (x : EngineState). x.log.closed) (c.in-Stored.ensures.still_open (λ x. cc)) ∙ c.requires.ready.over.is_open) c.in-Stored.ensures.keeps c.finish_body.ensures.goes_on.keeps;
      body = read_further s.left s.read_faults s.source_stays g.met.S.Source.source_joined c.args.stream.now c.store_body.new.source c.finish_body.new.stream ⊥ (c.finish_body.result ≡ answered.SourceFault)
          (record { source = read.0; stays = read.1; after = read.2; reads = c.in-Stored.ensures.reads; failed = λ x. absurd x }) c.finish_body.ensures.goes_on.body;
    }

pub returns-in-Full-clause-goes_on : goal.returns-in-Full-clause-goes_on
returns-in-Full-clause-goes_on g c =
    let d = g.D.Disk in
    let s = g.S.Source in
    let read = c.in-Full.ensures.stays in
    record {
      over = c.refuse_for_room-in-Full.ensures.goes_on.over;
      sends = c.refuse_for_room-in-Full.ensures.goes_on.sends;
      keeps = behind_keeps d.seen d.may_leave d.faults c.args.disk.now c.store_body.new.disk c.refuse_for_room-in-Full.new.disk c.refuse_for_room-in-Full.result c.args.engine.now c.store_body.new.self c.refuse_for_room-in-Full.new.engine
          (ap (λ (x : EngineState). x.log.closed) (c.in-Full.ensures.still_open (λ x. cc)) ∙ c.requires.ready.over.is_open) c.in-Full.ensures.keeps c.refuse_for_room-in-Full.ensures.goes_on.keeps;
      body = read_further s.left s.read_faults s.source_stays g.met.S.Source.source_joined c.args.stream.now c.store_body.new.source c.refuse_for_room-in-Full.new.stream ⊥ (c.refuse_for_room-in-Full.result ≡ answered.SourceFault)
          (record { source = read.0; stays = read.1; after = read.2; reads = c.in-Full.ensures.reads; failed = λ x. absurd x }) c.refuse_for_room-in-Full.ensures.goes_on.body;
    }

pub returns-in-SourceFault-clause-goes_on : goal.returns-in-SourceFault-clause-goes_on
returns-in-SourceFault-clause-goes_on g c =
    let d = g.D.Disk in
    let end = c.end_with in
    let is_open = ap (λ (x : EngineState). x.log.closed) (c.in-SourceFault.ensures.still_open (λ x. cc)) ∙ c.requires.ready.over.is_open in
    let read = c.in-SourceFault.ensures.stays in
    record {
      over = ended_over end.result answered.SourceFault c.store_body.new.self c.store_body.new.run end.new.engine c.store_body.new.source.framer.stage end.ensures.ends tt;
      sends = held_sends end.result (d.seen end.new.disk) end.new.engine (held_ended end.result answered.SourceFault c.store_body.new.self c.store_body.new.run end.new.engine end.ensures.ends tt);
      keeps = behind_keeps d.seen d.may_leave d.faults c.args.disk.now c.store_body.new.disk end.new.disk end.result c.args.engine.now c.store_body.new.self end.new.engine is_open c.in-SourceFault.ensures.keeps
          end.ensures.keeps;
      body = record { source = read.0; stays = read.1; after = read.2; reads = c.in-SourceFault.ensures.reads; failed = λ x. c.in-SourceFault.ensures.failed refl };
    }

pub returns-in-Disk-clause-goes_on : goal.returns-in-Disk-clause-goes_on
returns-in-Disk-clause-goes_on g c =
    let read = c.in-Disk.ensures.stays in
    record {
      over = tt;
      sends = tt;
      keeps = record {
        stays = c.in-Disk.ensures.keeps;
        stands = λ is_open. absurd (true≢false (sym (c.in-Disk.ensures.closed refl) ∙ is_open));
        live = λ d m. absurd (d refl);
        disk = λ e. c.in-Disk.ensures.disk refl;
      };
      body = record { source = read.0; stays = read.1; after = read.2; reads = c.in-Disk.ensures.reads; failed = λ x. absurd (disk_not_source x) };
    }

pub returns-in-Memory-clause-goes_on : goal.returns-in-Memory-clause-goes_on
returns-in-Memory-clause-goes_on g c =
    let d = g.D.Disk in
    let same = c.in-Memory.ensures.still_open (λ x. cc) in
    let read = c.in-Memory.ensures.stays in
    record {
      over = tt;
      sends = tt;
      keeps = record {
        stays = c.in-Memory.ensures.keeps;
        stands = subst (λ x. Stands d.seen d.may_leave x c.store_body.new.self.log) (sym (c.in-Memory.ensures.memory refl).0)
            (subst (λ (x : EngineState). Stands d.seen d.may_leave c.args.disk.now x.log) (sym same) c.requires.ready.over.stands);
        live = λ d m. absurd (m refl);
        disk = λ e. absurd (memory_not_disk e);
      };
      body = record { source = read.0; stays = read.1; after = read.2; reads = c.in-Memory.ensures.reads; failed = λ x. absurd (memory_not_source x) };
    }
