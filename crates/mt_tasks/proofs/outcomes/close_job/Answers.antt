use Rattle.std.proofs.Common.{◌≡◌, ◌⊎◌, inl, inr, ℕ, ◌+◌, ◌-◌, List, ◌++◌, Option, None, Some, refl, sym, ap, ◌∙◌, false, true, true≢false, IsTrue, subst, arith}
use Rattle.mt_disk.specs.Files.{Files}
use Rattle.mt_log.specs.LogImage.{payloads_of}
use Rattle.mt_log.specs.RunState.{RunState}
use Rattle.mt_body.specs.Growth.{archive_pieces, command_pieces}
use Rattle.mt_body.specs.Stored.{bytes_of}
use Rattle.mt_opening.specs.Current.{EngineState}
use Rattle.mt_engine.specs.Accepting.{HasRoomFor}
use Rattle.mt_engine.specs.Archiving.{texts_size}
use Rattle.mt_model.specs.CommandStep.{allowed, replay}
use Rattle.mt_model.specs.Honest.{Bytes}
use Rattle.mt_records.specs.Laws.{IsOfRange, IsOver}
use Rattle.mt_account.proofs.Commands.{size_of}
use Rattle.mt_types.specs.Values.{archive_with, command_with, fate_with}
use Rattle.mt_types.specs.declared.body.Body.{Body}
use Rattle.mt_types.specs.declared.command.Archive.{Archive}
use Rattle.mt_types.specs.declared.command.Command.{Command}
use Rattle.mt_types.specs.declared.command.Command.TheVariants.{Close}
use Rattle.mt_types.specs.declared.task.Fate.{Fate}
use Rattle.mt_types.specs.declared.task.Raw.{Raw}
use Rattle.mt_tasks.specs.Adding.{IsCloseOf, IsCommitOf}
use Rattle.mt_tasks.specs.Over.{IsCommitOver}
use Rattle.mt_tasks.specs.Sizes.{blank, commit_of, fate_size, no_archive}
use Rattle.mt_tasks.specs.declared.outcomes.OutcomeEnd.TheVariants as outcome
use Rattle.mt_tasks.proofs.Behind.{added_behind, begun_writing, over_more, takes_later, takes_on, up_behind}
use Rattle.mt_tasks.proofs.Closing.{close_fits, close_lacks, close_over, closing_room, texts_long, texts_there}
use Rattle.mt_tasks.proofs.Commits.{idle, leaves_same}
use Rattle.mt_tasks.proofs.Fated.{commit_fits, commit_lacks, free_of, over_free, pieces_over, stored_room}
use Rattle.mt_tasks.proofs.Judges.{right_commit}
use Rattle.mt_tasks.proofs.outcomes.close_job.Goals as goal

pub returns-in-Ok-true-clause-goes_on : goal.returns-in-Ok-true-clause-goes_on
returns-in-Ok-true-clause-goes_on g c = takes_on g.D.Disk.seen g.D.Disk.may_leave g.D.Disk.moment g.D.Disk.left_since g.D.Disk.faults (IsCloseOf c.args.login.now c.args.job c.args.now) c.add_archive.result c.args.disk.now c.add_archive.new.disk c.args.engine.now c.add_archive.new.engine
    c.requires.engine c.add_archive.ensures.takes c.add_archive.ensures.keeps c.add_archive.ensures.stands

pub returns-in-Ok-true-clause-later : goal.returns-in-Ok-true-clause-later
returns-in-Ok-true-clause-later g c = takes_later g.D.Disk.seen g.D.Disk.may_leave g.D.Disk.moment g.D.Disk.left_since g.D.Disk.faults (IsCloseOf c.args.login.now c.args.job c.args.now) c.add_archive.result c.args.disk.now c.add_archive.new.disk c.args.engine.now c.add_archive.new.engine
    c.requires.engine c.add_archive.ensures.takes

pub returns-in-Ok-false-clause-takes : goal.returns-in-Ok-false-clause-takes
returns-in-Ok-false-clause-takes g c = λ base h i.
    let seen = g.D.Disk.seen c.args.disk.now in
    let engine = c.args.engine.now in
    let login = c.args.login.now in
    let job = c.args.job in
    let now = c.args.now in
    let free = λ (a : Archive Body). c.has_waiting.ensures.free a now in
    let texts = texts_there login engine job now c.has_waiting.ensures.found in (
      h,
      record {
        command = Close job false texts.0 now;
        is = close_over seen engine base h i login job now free texts.0 texts.1;
        lacks = close_lacks seen engine base h i login job now free texts.0 texts.1 (λ room. cc (sym (c.in-Ok-false.ensures.1 room) ∙ c.in-Ok-false.field-0-test));
        history = refl;
        current = i;
      },
      idle g.D.Disk.seen g.D.Disk.may_leave g.D.Disk.moment g.D.Disk.left_since c.args.disk.now c.args.engine.now base h c.requires.engine.stands i (g.met.D.Disk.only_now c.args.disk.now),
    )

pub returns-in-Err-clause-takes : goal.returns-in-Err-clause-takes
returns-in-Err-clause-takes g c = λ base h i. (h, (refl, λ open'. i), idle g.D.Disk.seen g.D.Disk.may_leave g.D.Disk.moment g.D.Disk.left_since c.args.disk.now c.args.engine.now base h c.requires.engine.stands i (g.met.D.Disk.only_now c.args.disk.now))
