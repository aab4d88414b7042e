use Rattle.std.proofs.Common.{◌≡◌, ◌⊎◌, inl, inr, ℕ, ◌+◌, ◌-◌, List, ◌++◌, Option, None, Some, refl, sym, ap, ◌∙◌, subst, arith}
use Rattle.mt_disk.specs.Files.{Files}
use Rattle.mt_log.specs.LogImage.{payloads_of}
use Rattle.mt_log.specs.RunState.{RunState}
use Rattle.mt_body.specs.Growth.{archive_pieces, command_pieces}
use Rattle.mt_body.specs.Stored.{bytes_of}
use Rattle.mt_opening.specs.Current.{EngineState}
use Rattle.mt_engine.specs.Accepting.{HasRoomFor}
use Rattle.mt_engine.specs.Archiving.{texts_size}
use Rattle.mt_model.specs.CommandStep.{allowed, replay}
use Rattle.mt_model.specs.Honest.{Bytes}
use Rattle.mt_records.specs.Laws.{IsOfRange, IsOver}
use Rattle.mt_account.proofs.Commands.{size_of}
use Rattle.mt_types.specs.Values.{archive_with, command_with, fate_with}
use Rattle.mt_types.specs.declared.body.Body.{Body}
use Rattle.mt_types.specs.declared.command.Archive.{Archive}
use Rattle.mt_types.specs.declared.command.Command.{Command}
use Rattle.mt_types.specs.declared.command.Command.TheVariants.{Close}
use Rattle.mt_types.specs.declared.task.Fate.{Fate}
use Rattle.mt_types.specs.declared.task.Raw.{Raw}
use Rattle.mt_tasks.specs.Adding.{IsCloseOf, IsCommitOf}
use Rattle.mt_tasks.specs.Over.{IsCommitOver}
use Rattle.mt_tasks.specs.Sizes.{blank, commit_of, fate_size, no_archive}
use Rattle.mt_tasks.specs.declared.outcomes.OutcomeEnd.TheVariants as outcome
use Rattle.mt_tasks.proofs.Behind.{added_behind, begun_writing, over_more, takes_later, takes_on, up_behind}
use Rattle.mt_tasks.proofs.Closing.{close_fits, close_lacks, close_over, closing_room, texts_long, texts_there}
use Rattle.mt_tasks.proofs.Commits.{idle, leaves_same}
use Rattle.mt_tasks.proofs.Fated.{commit_fits, commit_lacks, free_of, over_free, pieces_over, stored_room}
use Rattle.mt_tasks.proofs.Judges.{right_commit}
use Rattle.mt_tasks.proofs.outcomes.add_fate.Goals as goal

pub add-requires-clause-free : goal.add-requires-clause-free
add-requires-clause-free g c =
    let still : c.store_fate.new.engine ≡ c.args.engine.now = c.in-Whole.ensures.still_open (λ d. cc) in
    subst (λ (e : EngineState). allowed size_of e.state (commit_of c.args.task.now c.args.now c.in-Whole.fate) ≡ None) (sym still) (free_of c.args.engine.now.state c.args.task.now c.args.now c.in-Whole.fate c.requires.ready)

pub add-requires-clause-room : goal.add-requires-clause-room
add-requires-clause-room g c =
    let engine = c.args.engine.now in
    let run' = c.store_fate.new.run in
    let still : c.store_fate.new.engine ≡ engine = c.in-Whole.ensures.still_open (λ d. cc) in
    let next : run'.next ≡ engine.log.gate + fate_size c.args.fate = c.in-Whole.ensures.places.2 ∙ ap (λ (r : RunState). r.next + fate_size c.args.fate) c.begin_run-run.ensures.place in
    subst (λ (e : EngineState). HasRoomFor e (run'.next - e.log.gate) (commit_of c.args.task.now c.args.now c.in-Whole.fate)) (sym still)
    (stored_room engine run' c.args.task.now c.args.now c.args.fate c.in-Whole.fate c.in-Whole.ensures.places.1 next c.requires.room)

pub returns-in-Whole-clause-takes : goal.returns-in-Whole-clause-takes
returns-in-Whole-clause-takes g c = λ base h i.
    let seen = g.D.Disk.seen c.args.disk.now in
    let engine = c.args.engine.now in
    let ps = payloads_of i.is_read.files in
    let w = begun_writing seen engine c.begin_run-run.result base h i (c.begin_run-run.ensures.writing base h i) in
    let told = (g.P.Spawner.told c.args.spawner.now) in
    let t = c.args.task.now in
    let now = c.args.now in
    let f = c.args.fate in
    let mid = c.store_fate.new in
    let still : mid.engine ≡ engine = c.in-Whole.ensures.still_open (λ d. cc) in
    let stored = c.in-Whole.ensures.stores base h ps w in
    let qs = ps ++ stored.pieces in
    let x : Fate Bytes = fate_with (bytes_of qs) c.in-Whole.fate in
    let next : mid.run.next ≡ engine.log.gate + fate_size f = c.in-Whole.ensures.places.2 ∙ ap (λ (r : RunState). r.next + fate_size c.args.fate) c.begin_run-run.ensures.place in
    let gate : mid.engine.log.gate ≡ engine.log.gate = ap (λ (e : EngineState). e.log.gate) still in
    let all : command_pieces (commit_of t now x) ≡ fate_size f = pieces_over told t now f x stored.over in
    let long : command_pieces (commit_of t now x) ≡ mid.run.next - mid.engine.log.gate = omega (arith, all, next, gate) in
    let is : IsCommitOver told f t now (replay base h) (commit_of t now x) =
    record { of_fate = x; is = refl; over = stored.over; is_free = over_free seen engine base h i t now c.requires.ready (IsOfRange told) f x stored.over c.requires.made } in
    added_behind g.D.Disk.seen g.D.Disk.moment g.D.Disk.left_since (IsCommitOver told f t now) c.args.disk.now mid.disk c.add.new.disk engine mid.engine c.add.new.engine base h still (c.in-Whole.ensures.any_moment base h ps w)
    c.add.result (commit_of t now x) is (c.add.ensures.adds base h qs stored.writing stored.stands long)

pub returns-in-Failed-clause-takes : goal.returns-in-Failed-clause-takes
returns-in-Failed-clause-takes g c = λ base h i.
    let seen = g.D.Disk.seen c.args.disk.now in
    let engine = c.args.engine.now in
    let ps = payloads_of i.is_read.files in
    let w = begun_writing seen engine c.begin_run-run.result base h i (c.begin_run-run.ensures.writing base h i) in
    let mid = c.store_fate.new in
    let still : mid.engine ≡ engine = c.in-Failed.ensures.still_open (λ d. cc) in
    let more = c.in-Failed.ensures.stores base h ps w in
    up_behind g.D.Disk.seen g.D.Disk.moment g.D.Disk.left_since (IsCommitOver (g.P.Spawner.told c.args.spawner.now) c.args.fate c.args.task.now c.args.now) c.args.disk.now mid.disk c.give_up.new.disk engine mid.engine c.give_up.new.engine base h still (c.in-Failed.ensures.any_moment base h ps w)
    c.give_up.result outcome.Unread (inl refl) c.give_up.ensures.end (c.give_up.ensures.current base h (ps ++ more.pieces) more.writing) (c.give_up.ensures.any_moment base h (ps ++ more.pieces) more.writing)

pub returns-in-Disk-clause-takes : goal.returns-in-Disk-clause-takes
returns-in-Disk-clause-takes g c = λ base h i.
    let seen = g.D.Disk.seen c.args.disk.now in
    let engine = c.args.engine.now in
    let ps = payloads_of i.is_read.files in
    let w = begun_writing seen engine c.begin_run-run.result base h i (c.begin_run-run.ensures.writing base h i) in
    (h, (c.in-Disk.ensures.closed refl, inl refl), leaves_same g.D.Disk.moment g.D.Disk.left_since c.args.disk.now c.store_fate.new.disk base h (c.in-Disk.ensures.any_moment base h ps w))

pub returns-in-Memory-clause-takes : goal.returns-in-Memory-clause-takes
returns-in-Memory-clause-takes g c = λ base h i.
    let seen = g.D.Disk.seen c.args.disk.now in
    let engine = c.args.engine.now in
    let ps = payloads_of i.is_read.files in
    let w = begun_writing seen engine c.begin_run-run.result base h i (c.begin_run-run.ensures.writing base h i) in
    let mid = c.store_fate.new in
    let still : mid.engine ≡ engine = c.in-Memory.ensures.still_open (λ d. cc) in
    let more = c.in-Memory.ensures.stores base h ps w in
    up_behind g.D.Disk.seen g.D.Disk.moment g.D.Disk.left_since (IsCommitOver (g.P.Spawner.told c.args.spawner.now) c.args.fate c.args.task.now c.args.now) c.args.disk.now mid.disk c.give_up-in-Memory.new.disk engine mid.engine c.give_up-in-Memory.new.engine base h still (c.in-Memory.ensures.any_moment base h ps w)
    c.give_up-in-Memory.result outcome.Memory (inr refl) c.give_up-in-Memory.ensures.end (c.give_up-in-Memory.ensures.current base h (ps ++ more.pieces) more.writing) (c.give_up-in-Memory.ensures.any_moment base h (ps ++ more.pieces) more.writing)
