use Rattle.std.proofs.Common.{◌++◌, true, Some, inl, refl, sym, ap, ◌∙◌, subst, arith}
use Rattle.mt_account.specs.Taken.{IsTaken}
use Rattle.mt_opening.specs.Current.{EngineState}
use Rattle.mt_opening.proofs.Held.{told_now}
use Rattle.mt_engine.specs.Archiving.{ArchiveIn}
use Rattle.mt_engine.proofs.Ends.{all_of}
use Rattle.mt_codec.specs.Pieces.{blank_body}
use Rattle.mt_codec.specs.Spelling.{IsWithinLimits}
use Rattle.mt_log.specs.LogImage.{payloads_of}
use Rattle.mt_log.specs.RunState.{RunState}
use Rattle.mt_model.specs.CommandStep.{replay}
use Rattle.mt_types.specs.Kinds.{kind_of}
use Rattle.mt_types.specs.declared.command.Archive.{Archive}
use Rattle.mt_types.specs.declared.command.Command.{Command}
use Rattle.mt_types.specs.declared.command.Command.TheVariants.{Close}
use Rattle.mt_types.specs.declared.body.Body.{Body}
use Rattle.mt_api.specs.Answered.{answer_at, used}
use Rattle.mt_api.specs.Jobs.{IsJobCallOf, JobIsReady}
use Rattle.mt_api.specs.Steps.{Settles}
use Rattle.mt_api.proofs.Cancels.{archive_fits, are_texts, cancel_ready, close_limits, texts}
use Rattle.mt_api.proofs.Ends.{behind_keeps, held_sends, leaves_same, leaves_then}
use Rattle.mt_api.proofs.Puts.{settles_on}
use Rattle.mt_api.proofs.cancel.end_job.Goals as goal

pub store_archive-requires-clause-ready : goal.store_archive-requires-clause-ready
store_archive-requires-clause-ready g c = record { running = c.begin_run-run.ensures.goes_on.running; order = c.begin_run-run.ensures.goes_on.order; is_open = c.requires.ready.over.is_open }

pub unreachable-requires : goal.unreachable-requires
unreachable-requires g c =
    let blank : Archive Body = record { err = blank_body; fail = blank_body; input = blank_body; status = blank_body; out = blank_body } in
    omega (arith, c.in-Full.ensures.places, ap (λ (x : RunState). x.next) c.begin_run-run.ensures.place, (c.requires.room blank).fits)

pub add_job-requires : goal.add_job-requires
add_job-requires g c =
    let is = c.close_command-command.ensures.command in
    record {
      ready = record {
        over = record {
          running = c.in-Stored.ensures.goes_on.running;
          order = c.in-Stored.ensures.goes_on.order;
          is_open = ap (λ (x : EngineState). x.log.closed) (c.in-Stored.ensures.still_open (λ x. cc)) ∙ c.requires.ready.over.is_open;
        };
        moment = c.requires.ready.moment;
        kind = subst (λ (x : Command Body). IsTaken (kind_of x)) (sym is) tt;
        limits = subst (λ (x : Command Body). IsWithinLimits x) (sym is)
            (close_limits c.args.job c.args.call.stamp.moment c.in-Stored.archive c.requires.cancels.number (archive_fits c.in-Stored.archive c.in-Stored.ensures.places.0) c.requires.ready.moment);
      };
    }

pub returns-in-Stored-clause-settles : goal.returns-in-Stored-clause-settles
returns-in-Stored-clause-settles g c base h asked bytes i e none =
    let d = g.D.Disk in
    let engine = c.args.engine.now in
    let call = c.args.call in
    let job = c.args.job in
    let login = c.args.login.now in
    let cancels = c.requires.cancels in
    let ps = payloads_of i.is_read.files in
    let w = c.begin_run-run.ensures.writing base h i (payloads_of i.is_read.files) (told_now (d.seen c.args.disk.now) engine base h i) in
    let same = c.in-Stored.ensures.still_open (λ x. cc) in
    let stored = subst (λ (x : EngineState). ArchiveIn (texts login engine call job cancels) c.in-Stored.archive (d.seen c.store_archive.new.disk) x c.store_archive.new.run base h ps) same
    (c.in-Stored.ensures.archive base h ps w (texts login engine call job cancels) (are_texts login engine call job cancels)) in
    let ready = cancel_ready login engine call job cancels (d.seen c.store_archive.new.disk) c.begin_run-run.result c.store_archive.new.run base h ps c.in-Stored.archive stored bytes none c.begin_run-run.ensures.place c.in-Stored.ensures.places.1 c.requires.room in
    let ready_there = subst (λ (x : EngineState). JobIsReady (d.seen c.store_archive.new.disk) x c.store_archive.new.run base h (ps ++ stored.pieces) login call (Some c.in-Stored.archive) (Close job true c.in-Stored.archive call.stamp.moment) bytes) (sym same) ready in
    let ready_so = subst (λ (x : Command Body). JobIsReady (d.seen c.store_archive.new.disk) c.store_archive.new.self c.store_archive.new.run base h (ps ++ stored.pieces) login call (Some c.in-Stored.archive) x bytes) (sym c.close_command-command.ensures.command) ready_there in
    let r = c.add_job.ensures.settles base h (ps ++ stored.pieces) asked (Some c.in-Stored.archive) bytes (subst (λ (x : EngineState). IsJobCallOf login asked x call) (sym same) e) ready_so in
    let settles = subst (λ (x : EngineState). Settles c.add_job.result (answer_at asked x (replay base h) bytes) (used x) base h (d.seen c.add_job.new.disk) c.add_job.new.engine r.0) same r.1 in (
      r.0,
      settles,
      leaves_then d.moment d.left_since c.args.disk.now c.store_archive.new.disk c.add_job.new.disk base h r.0
          (settles_on c.add_job.result (answer_at asked engine (replay base h) bytes) (used engine) base h (d.seen c.add_job.new.disk) c.add_job.new.engine r.0 settles) (c.in-Stored.ensures.any_moment base h ps w) r.2,
    )

pub returns-in-Memory-clause-settles : goal.returns-in-Memory-clause-settles
returns-in-Memory-clause-settles g c base h asked bytes i e none =
    let d = g.D.Disk in
    let engine = c.args.engine.now in
    let cancels = c.requires.cancels in
    let ps = payloads_of i.is_read.files in
    let w = c.begin_run-run.ensures.writing base h i (payloads_of i.is_read.files) (told_now (d.seen c.args.disk.now) engine base h i) in
    let s = c.in-Memory.ensures.archive base h ps w (texts c.args.login.now engine c.args.call c.args.job cancels) (are_texts c.args.login.now engine c.args.call c.args.job cancels) in (
      h,
      c.give_up.ensures.settles (answer_at asked engine (replay base h) bytes) (used engine) base h (ps ++ s.pieces) s.writing,
      leaves_then d.moment d.left_since c.args.disk.now c.store_archive.new.disk c.give_up.new.disk base h h (all_of h) (c.in-Memory.ensures.any_moment base h ps w)
          (leaves_same d.moment d.left_since c.store_archive.new.disk c.give_up.new.disk base h (c.give_up.ensures.any_moment base h (ps ++ s.pieces) s.writing)),
    )

pub returns-in-Disk-clause-settles : goal.returns-in-Disk-clause-settles
returns-in-Disk-clause-settles g c base h asked bytes i e none =
    let d = g.D.Disk in
    let ps = payloads_of i.is_read.files in
    let w = c.begin_run-run.ensures.writing base h i (payloads_of i.is_read.files) (told_now (d.seen c.args.disk.now) c.args.engine.now base h i) in
    (h, (c.in-Disk.ensures.closed refl, inl refl), leaves_same d.moment d.left_since c.args.disk.now c.store_archive.new.disk base h (c.in-Disk.ensures.any_moment base h ps w))

pub give_up-requires : goal.give_up-requires
give_up-requires g c = record {
  ready = record {
    running = c.in-Memory.ensures.goes_on.running;
    order = c.in-Memory.ensures.goes_on.order;
    is_open = ap (λ (x : EngineState). x.log.closed) (c.in-Memory.ensures.still_open (λ x. cc)) ∙ c.requires.ready.over.is_open;
  };
}

pub returns-in-Stored-clause-settled : goal.returns-in-Stored-clause-settled
returns-in-Stored-clause-settled g c =
    let d = g.D.Disk in
    record {
      keeps = behind_keeps d.seen d.may_leave d.faults c.args.disk.now c.store_archive.new.disk c.add_job.new.disk c.add_job.result c.args.engine.now c.store_archive.new.self c.add_job.new.engine
          (ap (λ (x : EngineState). x.log.closed) (c.in-Stored.ensures.still_open (λ x. cc)) ∙ c.requires.ready.over.is_open) c.in-Stored.ensures.keeps c.add_job.ensures.settled.keeps;
      is_settled = c.add_job.ensures.settled.is_settled;
      sends = held_sends c.add_job.result (d.seen c.add_job.new.disk) c.add_job.new.engine c.add_job.ensures.settled.held;
    }

pub returns-in-Memory-clause-settled : goal.returns-in-Memory-clause-settled
returns-in-Memory-clause-settled g c =
    let d = g.D.Disk in
    let end = c.give_up in
    record {
      keeps = behind_keeps d.seen d.may_leave d.faults c.args.disk.now c.store_archive.new.disk end.new.disk end.result c.args.engine.now c.store_archive.new.self end.new.engine
          (ap (λ (x : EngineState). x.log.closed) (c.in-Memory.ensures.still_open (λ x. cc)) ∙ c.requires.ready.over.is_open) c.in-Memory.ensures.keeps end.ensures.settled.keeps;
      is_settled = end.ensures.settled.is_settled;
      sends = held_sends end.result (d.seen end.new.disk) end.new.engine end.ensures.settled.held;
    }
