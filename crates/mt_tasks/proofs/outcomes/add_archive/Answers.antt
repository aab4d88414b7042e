use Rattle.std.proofs.Common.{◌≡◌, ◌⊎◌, inl, inr, ℕ, ◌+◌, ◌-◌, List, ◌++◌, Option, None, Some, refl, sym, ap, ◌∙◌, false, subst, arith}
use Rattle.mt_disk.specs.Files.{Files}
use Rattle.mt_log.specs.LogImage.{payloads_of}
use Rattle.mt_log.specs.RunState.{RunState}
use Rattle.mt_body.specs.Growth.{archive_pieces, command_pieces}
use Rattle.mt_body.specs.Stored.{bytes_of}
use Rattle.mt_opening.specs.Current.{EngineState}
use Rattle.mt_engine.specs.Accepting.{HasRoomFor}
use Rattle.mt_engine.specs.Archiving.{texts_size}
use Rattle.mt_model.specs.CommandStep.{allowed, replay}
use Rattle.mt_model.specs.Honest.{Bytes}
use Rattle.mt_records.specs.Laws.{IsOfRange, IsOver}
use Rattle.mt_account.proofs.Commands.{size_of}
use Rattle.mt_types.specs.Values.{archive_with, command_with, fate_with}
use Rattle.mt_types.specs.declared.body.Body.{Body}
use Rattle.mt_types.specs.declared.command.Archive.{Archive}
use Rattle.mt_types.specs.declared.command.Command.{Command}
use Rattle.mt_types.specs.declared.command.Command.TheVariants.{Close}
use Rattle.mt_types.specs.declared.task.Fate.{Fate}
use Rattle.mt_types.specs.declared.task.Raw.{Raw}
use Rattle.mt_tasks.specs.Adding.{IsCloseOf, IsCommitOf}
use Rattle.mt_tasks.specs.Over.{IsCommitOver}
use Rattle.mt_tasks.specs.Sizes.{blank, commit_of, fate_size, no_archive}
use Rattle.mt_tasks.specs.declared.outcomes.OutcomeEnd.TheVariants as outcome
use Rattle.mt_tasks.proofs.Behind.{added_behind, begun_writing, over_more, takes_later, takes_on, up_behind}
use Rattle.mt_tasks.proofs.Closing.{close_fits, close_lacks, close_over, closing_room, texts_long, texts_there}
use Rattle.mt_tasks.proofs.Commits.{idle, leaves_same}
use Rattle.mt_tasks.proofs.Fated.{commit_fits, commit_lacks, free_of, over_free, pieces_over, stored_room}
use Rattle.mt_tasks.proofs.Judges.{right_commit}
use Rattle.mt_tasks.proofs.outcomes.add_archive.Goals as goal

pub add-requires-clause-limits : goal.add-requires-clause-limits
add-requires-clause-limits g c = close_fits c.args.job c.args.now c.in-Stored.archive c.requires.moment c.has_waiting.ensures.number c.in-Stored.ensures.places.0

pub add-requires-clause-free : goal.add-requires-clause-free
add-requires-clause-free g c =
    let still : c.store_archive.new.self ≡ c.args.engine.now = c.in-Stored.ensures.still_open (λ d. cc) in
    subst (λ (e : EngineState). allowed size_of e.state (Close c.args.job false c.in-Stored.archive c.args.now) ≡ None) (sym still) (c.has_waiting.ensures.free c.in-Stored.archive c.args.now)

pub add-requires-clause-room : goal.add-requires-clause-room
add-requires-clause-room g c =
    let engine = c.args.engine.now in
    let run' = c.store_archive.new.run in
    let still : c.store_archive.new.self ≡ engine = c.in-Stored.ensures.still_open (λ d. cc) in
    let size = texts_size c.args.login.now engine c.args.job false c.args.now in
    let next : run'.next ≡ engine.log.gate + size = c.in-Stored.ensures.places.1 ∙ ap (λ (r : RunState). r.next + size) c.begin_run-run.ensures.place in
    subst (λ (e : EngineState). HasRoomFor e (run'.next - e.log.gate) (Close c.args.job false c.in-Stored.archive c.args.now)) (sym still)
    (closing_room engine run' c.args.job c.args.now size c.in-Stored.archive next c.requires.room)

pub returns-in-Stored-clause-takes : goal.returns-in-Stored-clause-takes
returns-in-Stored-clause-takes g c = λ base h i.
    let seen = g.D.Disk.seen c.args.disk.now in
    let engine = c.args.engine.now in
    let ps = payloads_of i.is_read.files in
    let w = begun_writing seen engine c.begin_run-run.result base h i (c.begin_run-run.ensures.writing base h i) in
    let login = c.args.login.now in
    let job = c.args.job in
    let now = c.args.now in
    let mid = c.store_archive.new in
    let still : mid.self ≡ engine = c.in-Stored.ensures.still_open (λ d. cc) in
    let texts = texts_there login engine job now c.has_waiting.ensures.found in
    let stored = c.in-Stored.ensures.archive base h ps w texts.0 texts.1 in
    let qs = ps ++ stored.pieces in
    let size = texts_size login engine job false now in
    let next : mid.run.next ≡ engine.log.gate + size = c.in-Stored.ensures.places.1 ∙ ap (λ (r : RunState). r.next + size) c.begin_run-run.ensures.place in
    let gate : mid.self.log.gate ≡ engine.log.gate = ap (λ (e : EngineState). e.log.gate) still in
    let all : archive_pieces (archive_with (bytes_of qs) c.in-Stored.archive) ≡ size = ap archive_pieces stored.reads ∙ sym (texts_long login engine job now texts.0 texts.1) in
    let long : archive_pieces (archive_with (bytes_of qs) c.in-Stored.archive) ≡ mid.run.next - mid.self.log.gate = omega (arith, all, next, gate) in
    let is : IsCloseOf login job now (replay base h) (Close job false (archive_with (bytes_of qs) c.in-Stored.archive) now) =
    subst (λ (a : Archive Bytes). IsCloseOf login job now (replay base h) (Close job false a now)) (sym stored.reads) (close_over seen engine base h i login job now (λ a. c.has_waiting.ensures.free a now) texts.0 texts.1) in
    added_behind g.D.Disk.seen g.D.Disk.moment g.D.Disk.left_since (IsCloseOf login job now) c.args.disk.now mid.disk c.add.new.disk engine mid.self c.add.new.engine base h still (c.in-Stored.ensures.any_moment base h ps w)
    c.add.result (Close job false (archive_with (bytes_of qs) c.in-Stored.archive) now) is (c.add.ensures.adds base h qs stored.writing stored.stands long)

pub returns-in-Disk-clause-takes : goal.returns-in-Disk-clause-takes
returns-in-Disk-clause-takes g c = λ base h i.
    let seen = g.D.Disk.seen c.args.disk.now in
    let engine = c.args.engine.now in
    let ps = payloads_of i.is_read.files in
    let w = begun_writing seen engine c.begin_run-run.result base h i (c.begin_run-run.ensures.writing base h i) in
    (h, (c.in-Disk.ensures.closed refl, inl refl), leaves_same g.D.Disk.moment g.D.Disk.left_since c.args.disk.now c.store_archive.new.disk base h (c.in-Disk.ensures.any_moment base h ps w))

pub returns-in-Memory-clause-takes : goal.returns-in-Memory-clause-takes
returns-in-Memory-clause-takes g c = λ base h i.
    let seen = g.D.Disk.seen c.args.disk.now in
    let engine = c.args.engine.now in
    let ps = payloads_of i.is_read.files in
    let w = begun_writing seen engine c.begin_run-run.result base h i (c.begin_run-run.ensures.writing base h i) in
    let mid = c.store_archive.new in
    let still : mid.self ≡ engine = c.in-Memory.ensures.still_open (λ d. cc) in
    let texts = texts_there c.args.login.now engine c.args.job c.args.now c.has_waiting.ensures.found in
    let more = c.in-Memory.ensures.archive base h ps w texts.0 texts.1 in
    up_behind g.D.Disk.seen g.D.Disk.moment g.D.Disk.left_since (IsCloseOf c.args.login.now c.args.job c.args.now) c.args.disk.now mid.disk c.give_up.new.disk engine mid.self c.give_up.new.engine base h still (c.in-Memory.ensures.any_moment base h ps w)
    c.give_up.result outcome.Memory (inr refl) c.give_up.ensures.end (c.give_up.ensures.current base h (ps ++ more.pieces) more.writing) (c.give_up.ensures.any_moment base h (ps ++ more.pieces) more.writing)
