use Rattle.std.proofs.Common.{◌≡◌, ◌⊎◌, inl, inr, ℕ, ◌+◌, ◌-◌, List, ◌++◌, Option, None, Some, refl, sym, ap, ◌∙◌, subst, arith}
use Rattle.mt_disk.specs.Files.{Files}
use Rattle.mt_log.specs.LogImage.{payloads_of}
use Rattle.mt_log.specs.RunState.{RunState}
use Rattle.mt_body.specs.Growth.{archive_pieces, command_pieces}
use Rattle.mt_body.specs.Stored.{bytes_of}
use Rattle.mt_opening.specs.Current.{EngineState}
use Rattle.mt_engine.specs.Accepting.{HasRoomFor}
use Rattle.mt_engine.specs.Archiving.{texts_size}
use Rattle.mt_model.specs.CommandStep.{allowed, replay}
use Rattle.mt_model.specs.Honest.{Bytes}
use Rattle.mt_records.specs.Laws.{IsOfRange, IsOver}
use Rattle.mt_account.proofs.Commands.{size_of}
use Rattle.mt_types.specs.Values.{archive_with, command_with, fate_with}
use Rattle.mt_types.specs.declared.body.Body.{Body}
use Rattle.mt_types.specs.declared.command.Archive.{Archive}
use Rattle.mt_types.specs.declared.command.Command.{Command}
use Rattle.mt_types.specs.declared.command.Command.TheVariants.{Close}
use Rattle.mt_types.specs.declared.task.Fate.{Fate}
use Rattle.mt_types.specs.declared.task.Raw.{Raw}
use Rattle.mt_tasks.specs.Adding.{IsCloseOf, IsCommitOf}
use Rattle.mt_tasks.specs.Over.{IsCommitOver}
use Rattle.mt_tasks.specs.Sizes.{blank, commit_of, fate_size, no_archive}
use Rattle.mt_tasks.specs.declared.outcomes.OutcomeEnd.TheVariants as outcome
use Rattle.mt_tasks.proofs.Behind.{added_behind, begun_writing, over_more, takes_later, takes_on, up_behind}
use Rattle.mt_tasks.proofs.Closing.{close_fits, close_lacks, close_over, closing_room, texts_long, texts_there}
use Rattle.mt_tasks.proofs.Commits.{idle, leaves_same}
use Rattle.mt_tasks.proofs.Fated.{commit_fits, commit_lacks, free_of, over_free, pieces_over, stored_room}
use Rattle.mt_tasks.proofs.Judges.{right_commit}
use Rattle.mt_tasks.proofs.outcomes.commit_outcome.Goals as goal

pub commit_fate-requires-clause-made : goal.commit_fate-requires-clause-made
commit_fate-requires-clause-made g c = (c.in-Fate.ensures.fate c.in-Fate.fate refl).made

pub commit_fate-requires-clause-said : goal.commit_fate-requires-clause-said
commit_fate-requires-clause-said g c = (c.in-Fate.ensures.fate c.in-Fate.fate refl).said

pub commit_fate-requires-clause-bytes : goal.commit_fate-requires-clause-bytes
commit_fate-requires-clause-bytes g c =
    let judged = c.in-Fate.ensures.fate c.in-Fate.fate refl in
    (judged.bytes, subst (λ (t : Option Raw). IsOver (IsOfRange t) c.in-Fate.fate judged.bytes) (sym c.in-Fate.ensures.told) judged.over)

pub returns-in-Fate-clause-takes : goal.returns-in-Fate-clause-takes
returns-in-Fate-clause-takes g c = λ base h i child right maybe.
    let p = g.P.Spawner in
    let told = p.told c.args.spawner.now in
    let rule = p.rule c.args.spawner.now in
    let t = c.args.task.now in
    let now = c.args.now in
    let f = c.in-Fate.fate in
    let login = c.args.login.now in
    let judged = c.in-Fate.ensures.fate f refl in
    over_more g.D.Disk.seen g.D.Disk.moment g.D.Disk.left_since (IsCommitOver (g.P.Spawner.told c.judge.new.spawner) c.in-Fate.fate c.args.task.now c.args.now) (IsCommitOf login (p.gives rule) t now) c.args.disk.now c.commit_fate.new.disk c.args.engine.now c.commit_fate.new.engine base h c.commit_fate.result
    (λ cmd over. right_commit login (p.gives rule) (p.may rule) c.args.left told f t now (replay base h) child cmd judged right maybe
    (subst (λ (x : Option Raw). IsCommitOver x f t now (replay base h) cmd) c.in-Fate.ensures.told over))
    (c.commit_fate.ensures.takes base h i)

pub returns-in-Fate-clause-goes_on : goal.returns-in-Fate-clause-goes_on
returns-in-Fate-clause-goes_on g c = takes_on g.D.Disk.seen g.D.Disk.may_leave g.D.Disk.moment g.D.Disk.left_since g.D.Disk.faults (IsCommitOver (g.P.Spawner.told c.judge.new.spawner) c.in-Fate.fate c.args.task.now c.args.now) c.commit_fate.result c.args.disk.now c.commit_fate.new.disk c.args.engine.now c.commit_fate.new.engine
    c.requires.engine c.commit_fate.ensures.takes c.commit_fate.ensures.keeps c.commit_fate.ensures.stands

pub returns-in-Fate-clause-later : goal.returns-in-Fate-clause-later
returns-in-Fate-clause-later g c = takes_later g.D.Disk.seen g.D.Disk.may_leave g.D.Disk.moment g.D.Disk.left_since g.D.Disk.faults (IsCommitOver (g.P.Spawner.told c.judge.new.spawner) c.in-Fate.fate c.args.task.now c.args.now) c.commit_fate.result c.args.disk.now c.commit_fate.new.disk c.args.engine.now c.commit_fate.new.engine
    c.requires.engine c.commit_fate.ensures.takes

pub returns-in-Failed-clause-takes : goal.returns-in-Failed-clause-takes
returns-in-Failed-clause-takes g c = λ base h i child right maybe. (h, (refl, i), idle g.D.Disk.seen g.D.Disk.may_leave g.D.Disk.moment g.D.Disk.left_since c.args.disk.now c.args.engine.now base h c.requires.engine.stands i (g.met.D.Disk.only_now c.args.disk.now))

pub returns-in-Memory-clause-takes : goal.returns-in-Memory-clause-takes
returns-in-Memory-clause-takes g c = λ base h i child right maybe. (h, (refl, λ open'. i), idle g.D.Disk.seen g.D.Disk.may_leave g.D.Disk.moment g.D.Disk.left_since c.args.disk.now c.args.engine.now base h c.requires.engine.stands i (g.met.D.Disk.only_now c.args.disk.now))
