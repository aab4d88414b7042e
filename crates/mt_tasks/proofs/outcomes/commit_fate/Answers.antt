use Rattle.std.proofs.Common.{◌≡◌, ◌⊎◌, inl, inr, ℕ, ◌+◌, ◌-◌, List, ◌++◌, Option, None, Some, refl, sym, ap, ◌∙◌, false, true, true≢false, IsTrue, subst, arith}
use Rattle.mt_disk.specs.Files.{Files}
use Rattle.mt_log.specs.LogImage.{payloads_of}
use Rattle.mt_log.specs.RunState.{RunState}
use Rattle.mt_body.specs.Growth.{archive_pieces, command_pieces}
use Rattle.mt_body.specs.Stored.{bytes_of}
use Rattle.mt_opening.specs.Current.{EngineState}
use Rattle.mt_engine.specs.Accepting.{HasRoomFor}
use Rattle.mt_engine.specs.Archiving.{texts_size}
use Rattle.mt_model.specs.CommandStep.{allowed, replay}
use Rattle.mt_model.specs.Honest.{Bytes}
use Rattle.mt_records.specs.Laws.{IsOfRange, IsOver}
use Rattle.mt_account.proofs.Commands.{size_of}
use Rattle.mt_types.specs.Values.{archive_with, command_with, fate_with}
use Rattle.mt_types.specs.declared.body.Body.{Body}
use Rattle.mt_types.specs.declared.command.Archive.{Archive}
use Rattle.mt_types.specs.declared.command.Command.{Command}
use Rattle.mt_types.specs.declared.command.Command.TheVariants.{Close}
use Rattle.mt_types.specs.declared.task.Fate.{Fate}
use Rattle.mt_types.specs.declared.task.Raw.{Raw}
use Rattle.mt_tasks.specs.Adding.{IsCloseOf, IsCommitOf}
use Rattle.mt_tasks.specs.Over.{IsCommitOver}
use Rattle.mt_tasks.specs.Sizes.{blank, commit_of, fate_size, no_archive}
use Rattle.mt_tasks.specs.declared.outcomes.OutcomeEnd.TheVariants as outcome
use Rattle.mt_tasks.proofs.Behind.{added_behind, begun_writing, over_more, takes_later, takes_on, up_behind}
use Rattle.mt_tasks.proofs.Closing.{close_fits, close_lacks, close_over, closing_room, texts_long, texts_there}
use Rattle.mt_tasks.proofs.Commits.{idle, leaves_same}
use Rattle.mt_tasks.proofs.Fated.{commit_fits, commit_lacks, free_of, over_free, pieces_over, stored_room}
use Rattle.mt_tasks.proofs.Judges.{right_commit}
use Rattle.mt_tasks.proofs.outcomes.commit_fate.Goals as goal

pub returns-in-Ok-false-clause-takes : goal.returns-in-Ok-false-clause-takes
returns-in-Ok-false-clause-takes g c = λ base h i.
    let seen = g.D.Disk.seen c.args.disk.now in
    let engine = c.args.engine.now in
    let told = (g.P.Spawner.told c.args.spawner.now) in
    let t = c.args.task.now in
    let f = c.args.fate in
    let x = c.requires.bytes.0 in
    let over = c.requires.bytes.1 in (
      h,
      record {
        command = commit_of t c.args.now x;
        is = record { of_fate = x; is = refl; over = over; is_free = over_free seen engine base h i t c.args.now c.requires.ready (IsOfRange told) f x over c.requires.made };
        lacks = commit_lacks engine base h seen i told t c.args.now f x over (λ room. cc (sym (c.in-Ok-false.ensures.1 room) ∙ c.in-Ok-false.field-0-test));
        history = refl;
        current = i;
      },
      idle g.D.Disk.seen g.D.Disk.may_leave g.D.Disk.moment g.D.Disk.left_since c.args.disk.now c.args.engine.now base h c.requires.engine.stands i (g.met.D.Disk.only_now c.args.disk.now),
    )

pub returns-in-Err-clause-takes : goal.returns-in-Err-clause-takes
returns-in-Err-clause-takes g c = λ base h i. (h, (refl, λ open'. i), idle g.D.Disk.seen g.D.Disk.may_leave g.D.Disk.moment g.D.Disk.left_since c.args.disk.now c.args.engine.now base h c.requires.engine.stands i (g.met.D.Disk.only_now c.args.disk.now))
