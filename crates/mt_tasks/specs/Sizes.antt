-- How much what a task left adds to a log, by the lengths that are told; and values without bodies, of which alone sizes are asked.
use Rattle.std.specs.Prelude.{ℕ}
use Rattle.std.specs.List.{sum_by}
use Rattle.mt_types.specs.Values.{fate_with}
use Rattle.mt_types.specs.declared.body.Body.{Body}
use Rattle.mt_types.specs.declared.command.Archive.{Archive}
use Rattle.mt_types.specs.declared.command.Command.{Command}
use Rattle.mt_types.specs.declared.command.Command.TheVariants.{Close, Commit}
use Rattle.mt_types.specs.declared.job.Task.{Task}
use Rattle.mt_types.specs.declared.task.Fate.{Fate}
use Rattle.mt_types.specs.declared.task.Fate.TheVariants.{Good, Bad}
use Rattle.mt_types.specs.declared.task.TaskRecord.{TaskRecord}
use Rattle.mt_types.specs.declared.task.TaskRecord.TheVariants.{Emit, Keep, Ref}
use Rattle.mt_body.specs.Stored.{pieces_size}
use Rattle.mt_records.specs.declared.range.Range.{Range}
use Rattle.mt_tasks.specs.declared.sizes.TheConstants.{NO_BODY}

-- the pieces of the body of a record, and of those of a fate
abbrev pub record_size : TaskRecord Range → ℕ
record_size (Emit place reducer r) = pieces_size r.len
record_size (Keep place r) = pieces_size r.len
record_size (Ref name) = 0

abbrev pub fate_size : Fate Range → ℕ
fate_size (Good records) = sum_by record_size records
fate_size (Bad failure status stderr) = 0

-- a fate without bodies
abbrev pub blank : {B : Type 0} → Fate B → Fate Body
blank f = fate_with (λ b. NO_BODY) f

-- the commit of a task
abbrev pub commit_of : {B : Type 0} → Task → ℕ → Fate B → Command B
commit_of t now f = Commit t.job t.phase t.place f now

-- the end of a job, without its texts
abbrev pub no_archive : Archive Body
no_archive = record { err = NO_BODY; fail = NO_BODY; input = NO_BODY; status = NO_BODY; out = NO_BODY }
